-- `words::nibble_at` meets its contract: a shift and a conjunction are a division and a remainder. Assumes nothing.
use Rattle.theory.proofs.WordsSet.{nibble-read, nibble-below}
use Rattle.words.proofs.nibble_at.Goals as goal

pub returns : goal.returns
returns c = let e = nibble-read c.args.values c.args.v c.requires in (e, rw e (nibble-below c.args.values c.args.v))
