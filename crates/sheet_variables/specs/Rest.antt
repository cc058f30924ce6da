-- What follows the variables of a sheet, as a reading of the model. Assumes nothing: these are definitions.
use Rattle.std.specs.Prelude.{ℕ, List, ◌++◌, map, length, Result, Ok, Err}
use Rattle.model.specs.Sheet.{Plant, Read, refused, then, many, read_clause, read_end}
use Rattle.refusal.specs.declared.AuthorGround.{AuthorGround}
use Rattle.refusal.specs.Refusal.{author_number}

-- the variables have been read: what follows them is to be read
unfoldable pub read_rest : List ℕ → ℕ → List (List ℕ) → List ℕ → ℕ → Read Plant
read_rest sheet c costs states place =
    then (many (read_clause sheet (map length costs ++ states)) c place) (λ clauses after.
    read_end sheet (record { costs = costs; states = states; clauses = clauses }) after)

abbrev pub rest_of : List ℕ → ℕ → List (List ℕ) → List ℕ → ℕ → Result Unit AuthorGround → Read Plant
rest_of sheet c costs states place (Ok done) = read_rest sheet c costs states place
rest_of sheet c costs states place (Err g) = refused (author_number g)
