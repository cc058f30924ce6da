-- `table_rules::triples` meets its contract: as many triples as the bytes have, from the front. Assumes nothing.
use mathlib.Core.Path.{refl}
use Rattle.table_rules.proofs.Laws.{in_threes}
use Rattle.table_rules.proofs.triples.Goals as goal

pub returns : goal.returns
returns c = rw c.as_chunks.ensures.front (in_threes _ c.args.lits.now refl)
