-- What the answers of the sheet reader mean, as readings of the model. Assumes nothing: these are definitions.
use Rattle.std.specs.Prelude.{ℕ, ◌*◌, ◌≤◌, List, length, Result, Ok, Err, IfOk}
use Rattle.model.specs.Sheet.{Plant, Read, refused, got, Edition, read_body}
use Rattle.theory.specs.Tables.{plant_in}
use Rattle.theory.specs.Longest.{head_bits}
use Rattle.refusal.specs.declared.AuthorGround.{AuthorGround}
use Rattle.refusal.specs.Refusal.{author_number}
use Rattle.sheet.specs.Tables.{Held}
use Rattle.sheet.specs.declared.Numbers.{Numbers}

-- the four counts have been read: what follows them is to be read, after the head
abbrev pub head_of : Edition → List ℕ → Result Numbers AuthorGround → Read Plant
head_of e sheet (Ok n) = read_body e sheet n.decisions n.states n.clauses head_bits
head_of e sheet (Err g) = refused (author_number g)

abbrev pub Allowed : Result Numbers AuthorGround → Type 0
Allowed r = IfOk r (λ n. (1 ≤ n.decisions) × (n.decisions ≤ 16) × (n.states ≤ 32) × (n.clauses ≤ 512))

-- the whole sheet has been read, to its end
abbrev pub answer_of : (sheet sizes costs counts lits : List ℕ) → Result Numbers AuthorGround → Read Plant
answer_of sheet sizes costs counts lits (Ok n) = got (plant_in n.decisions n.states n.clauses sizes costs counts lits) (8 * length sheet)
answer_of sheet sizes costs counts lits (Err g) = refused (author_number g)

abbrev pub Tabled : (sizes costs counts lits : List ℕ) → Result Numbers AuthorGround → Type 0
Tabled sizes costs counts lits r = IfOk r (λ n. Held n.decisions n.states n.clauses sizes costs counts lits)
