-- What the search by sets of clauses asks of one clause. Assumes nothing: these are definitions.
use Rattle.std.specs.Prelude.{Bool, true, false, not, ◌&&◌, List, [], ℕ, ◌+◌, eqb, leb, get_or}
use Rattle.std.proofs.Math.Option.{none, some}
use Rattle.model.specs.Lists.{any_of}
use Rattle.model.specs.Sheet.{Literal}
use Rattle.model.specs.Assignment.{Assignment, is_some}
use Rattle.model.specs.Consistency.{holds_at}

-- whether a literal's variable is unassigned
unfoldable pub is_free : Assignment → Literal → Bool
is_free a l = not (is_some (get_or a l.variable none))

-- whether a literal holds already: its variable is assigned a value at which it does
unfoldable pub holds_under : Assignment → Literal → Bool
holds_under a l = elim (get_or a l.variable none) [ none ↦ false | some x ↦ holds_at x l.sign l.value ]

-- whether a literal on the variable v passes a test, and whether one on a variable from v on does
unfoldable pub any_at : (Literal → Bool) → ℕ → List Literal → Bool
any_at test v ls = any_of (λ l. eqb l.variable v && test l) ls

unfoldable pub any_from : (Literal → Bool) → ℕ → List Literal → Bool
any_from test v ls = any_of (λ l. leb v l.variable && test l) ls

-- whether a clause mentions the variable v
unfoldable pub mentions : ℕ → List Literal → Bool
mentions v ls = any_at (λ l. true) v ls

-- whether the value x of the variable v satisfies a clause
unfoldable pub satisfied_at : ℕ → ℕ → List Literal → Bool
satisfied_at v x ls = any_at (λ l. holds_at x l.sign l.value) v ls

-- whether an assignment satisfies a clause: one of its literals holds already
unfoldable pub satisfied : Assignment → List Literal → Bool
satisfied a ls = any_of (holds_under a) ls

-- whether the variables from v on satisfy a clause
unfoldable pub satisfied_from : Assignment → ℕ → List Literal → Bool
satisfied_from a v ls = any_from (holds_under a) v ls

-- whether a clause has an unassigned variable from v on
unfoldable pub waits : Assignment → ℕ → List Literal → Bool
waits a v ls = any_from (is_free a) v ls

-- whether a clause is due at v: v is the last of its unassigned variables
unfoldable pub due : Assignment → ℕ → List Literal → Bool
due a v ls = mentions v ls && not (waits a (v + 1) ls)

-- the clause with the number c, and past the end a clause with no literal
abbrev pub nth : List (List Literal) → ℕ → List Literal
nth cs c = get_or cs c []
