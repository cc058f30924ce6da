-- `export_tables::told` meets its contract: one store fills the first place. Assumes nothing.
use mathlib.Core.Path.{refl}
use Rattle.export_tables.proofs.Saving.{one_written}
use Rattle.export_tables.proofs.told.Goals as goal

pub returns : goal.returns
returns c = let s = c.args in (refl, one_written s.n s.word.now c.requires)
