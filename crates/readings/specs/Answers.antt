-- What the answers of the readers of parts mean, as readings of the model. Assumes nothing: these are definitions.
use Rattle.std.specs.Prelude.{ℕ, Result, Ok, Err}
use Rattle.model.specs.Sheet.{Read, refused, got}
use Rattle.refusal.specs.declared.AuthorGround.{AuthorGround}
use Rattle.refusal.specs.Refusal.{author_number}

-- what was read, by what is answered, with the place that the reader has come to
abbrev pub read_of : {A B : Type 0} → (B → A) → ℕ → Result B AuthorGround → Read A
read_of a place (Ok b) = got (a b) place
read_of a place (Err g) = refused (author_number g)
