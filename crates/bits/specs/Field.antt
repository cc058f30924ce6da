-- What an answer of the bit reader means. Assumes nothing: these are definitions.
use Rattle.std.specs.Prelude.{ℕ, Option, Some, None}
use Rattle.model.specs.Sheet.{Read, refused, got}

-- a value with the place after the field, or refusal 5
abbrev pub field_of : ℕ → Option ℕ → Read ℕ
field_of after (Some n) = got n after
field_of after None = refused 5
