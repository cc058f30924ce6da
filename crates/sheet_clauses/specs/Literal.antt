-- What the reader of a literal answers, as a reading of the model. Assumes nothing: these are definitions.
use Rattle.std.specs.Prelude.{ℕ, Result}
use Rattle.model.specs.Sheet.{Literal, Read}
use Rattle.refusal.specs.declared.AuthorGround.{AuthorGround}
use Rattle.readings.specs.Answers.{read_of}
use Rattle.sheet_clauses.specs.declared.Literal.{Literal as Bytes}

-- a literal's three numbers
abbrev pub lit_of : ℕ → Result Bytes AuthorGround → Read Literal
lit_of after r = read_of (λ (l : Bytes). record { variable = l.variable; sign = l.sign; value = l.value }) after r
