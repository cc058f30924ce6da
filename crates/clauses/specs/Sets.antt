-- Sets of clauses as bits of words, and what is done with them. Assumes nothing: these are definitions.
use Rattle.std.specs.Prelude.{◌≡◌, Bool, true, not, ◌&&◌, ◌||◌, List, [], ◌∷◌, ℕ, zero, suc, ◌+◌, ◌*◌, ◌/◌, ◌%◌, ◌<◌, eqb, get_or}
use Rattle.model.specs.Sheet.{Literal}
use Rattle.model.specs.Consistency.{holds_at}
use Rattle.theory.specs.Search.{nth, mentions, satisfied_at}
use Rattle.clauses.specs.Numbers.{values, most_clauses, set_words}

-- the bit k of a word, counted from the lowest
unfoldable pub bit : ℕ → ℕ → Bool
bit w zero = eqb (w % 2) 1
bit w (suc k) = bit (w / 2) k

-- whether the clause c is in the set that begins at a word: 64 clauses to a word
abbrev pub in_words : List ℕ → ℕ → ℕ → Bool
in_words words at c = bit (get_or words (at + c / 64) 0) (c % 64)

-- in the set that the row of a table holds: eight words to a row
unfoldable pub in_set : List ℕ → ℕ → ℕ → Bool
in_set table row c = in_words table (row * set_words) c

-- no clause is in any row
abbrev pub Empty : List ℕ → Type 0
Empty table = (k : ℕ) → get_or table k 0 ≡ 0

-- in the set of two words
unfoldable pub in_pair : ℕ → ℕ → ℕ → Bool
in_pair first second c = in_words (first ∷ second ∷ []) 0 c

-- of the first m clauses, the set has those that pass a test
pub record SetIs (m : ℕ) (test : List Literal → Bool) (cs : List (List Literal)) (set : ℕ → Bool) : Type 0 where
  pub has : (c : ℕ) → c < m → set c ≡ test (nth cs c)

-- the row holds the clauses that pass a test
abbrev pub SetOf : (test : List Literal → Bool) (cs : List (List Literal)) (table : List ℕ) (row : ℕ) → Type 0
SetOf test cs table row = SetIs most_clauses test cs (in_set table row)

-- the set `joined` is the set with the clauses of the row added, if `on`
pub record Joined (set table : List ℕ) (row : ℕ) (on : Bool) (joined : List ℕ) : Type 0 where
  pub has : (c : ℕ) → c < most_clauses → in_set joined 0 c ≡ (in_set set 0 c || on && in_set table row c)

-- r says whether, of the first m clauses, each of one set is in another
pub record Within (m : ℕ) (set other : ℕ → Bool) (r : Bool) : Type 0 where
  pub all : r ≡ true → (c : ℕ) → c < m → set c ≡ true → other c ≡ true
  pub only : ((c : ℕ) → c < m → set c ≡ true → other c ≡ true) → r ≡ true

-- r says whether each clause of the row is among those that `has` names
abbrev pub Covers : (table : List ℕ) (row : ℕ) (has : ℕ → Bool) (r : Bool) → Type 0
Covers table row has r = Within most_clauses (in_set table row) has r

-- the row of `after` holds what the row of the table holds and the set does not, and no other row changed
pub record Less (before table : List ℕ) (row : ℕ) (set after : List ℕ) : Type 0 where
  pub here : (c : ℕ) → c < most_clauses → in_set after row c ≡ (in_set table row c && not (in_set set 0 c))
  pub rest : (r c : ℕ) → c < most_clauses → (r ≡ row → ⊥) → in_set after r c ≡ in_set before r c

-- the clause c was put into the rows that `rows` names, and nothing else changed
pub record Marked (rows : ℕ → Bool) (before : List ℕ) (c : ℕ) (after : List ℕ) : Type 0 where
  pub has : (r k : ℕ) → k < most_clauses → in_set after r k ≡ (in_set before r k || eqb k c && rows r)

-- the rows of a literal, and of a clause, in a table with a row for each variable and value
unfoldable pub literal_rows : ℕ → ℕ → ℕ → ℕ → Bool
literal_rows variable sign value r = eqb variable (r / values) && holds_at (r % values) sign value

unfoldable pub clause_rows : List Literal → ℕ → Bool
clause_rows ls r = satisfied_at (r / values) (r % values) ls

-- the clause c with these literals was put into its rows of both tables
pub record Entered (ls : List Literal) (c : ℕ) (sat uses sat' uses' : List ℕ) : Type 0 where
  pub satisfies : Marked (clause_rows ls) sat c sat'
  pub mentioned : Marked (λ v. mentions v ls) uses c uses'
