-- The literal that three bytes of a table say. Assumes nothing: these are definitions.
use Rattle.std.specs.Prelude.{List, ℕ, get_or}
use Rattle.model.specs.Sheet.{Literal}

-- variable, sign and value
abbrev pub literal_of : List ℕ → Literal
literal_of triple = record { variable = get_or triple 0 0; sign = get_or triple 1 0; value = get_or triple 2 0 }
