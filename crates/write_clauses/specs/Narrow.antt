-- What the fields of a literal hold. Assumes nothing: these are definitions.
use Rattle.std.specs.Prelude.{◌<◌, ◌^◌}
use Rattle.model.specs.Sheet.{Literal}

-- a literal whose numbers fit their fields
pub record Narrow (l : Literal) : Type 0 where
  pub variable : l.variable < 2 ^ 6
  pub sign : l.sign < 2 ^ 1
  pub value : l.value < 2 ^ 4
