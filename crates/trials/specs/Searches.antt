-- What both searches go by: the sets of clauses that they start with, where a search stands, and that it ends as the model's. Assumes nothing: these are definitions.
use Rattle.std.specs.Prelude.{◌≡◌, Bool, false, List, map, ℕ, ◌+◌, ◌-◌, ◌*◌, ◌<◌, ◌≤◌, length, get_or, drop}
use Rattle.std.proofs.Math.Option.{none}
use Rattle.model.specs.Lists.{All}
use Rattle.model.specs.Sheet.{Literal}
use Rattle.model.specs.Consistency.{any_false, explore}
use Rattle.theory.specs.Search.{satisfied_at, satisfied, satisfied_from, waits, due}
use Rattle.theory.specs.Nodes.{Filled, unset}
use Rattle.clauses.specs.Bytes.{given}
use Rattle.clauses.specs.Numbers.{variables, values, unassigned, sat_words, uses_words}
use Rattle.clauses.specs.Sets.{SetIs}
use Rattle.clauses.specs.Tables.{Prepared}
use Rattle.trials.specs.Answers.{Ended}
use Rattle.trials.specs.declared.Answer.{Answer}

-- ---- before the search

-- what is lent to make its first sets, with so many words for those that are made
pub record Lent (words : ℕ) (vals sat uses made : List ℕ) : Type 0 where
  pub few : length vals ≤ variables
  pub bytes : (v : ℕ) → get_or vals v 0 ≤ unassigned
  pub sat_long : sat_words ≤ length sat
  pub uses_long : uses_words ≤ length uses
  pub long : words ≤ length made

-- the clauses that the tables are made of
pub record Clauses (cs : List (List Literal)) (vals sat uses : List ℕ) : Type 0 where
  pub below : All (All (λ l. l.variable < length vals)) cs
  pub ready : Prepared cs sat uses

-- from v on, at each unassigned variable the clauses that are due at it
pub record DueFrom (m : ℕ) (cs : List (List Literal)) (vals : List ℕ) (inDue : ℕ → ℕ → Bool) (v : ℕ) : Type 0 where
  pub has : (u : ℕ) → v ≤ u → u < length vals → get_or (map given vals) u none ≡ none → SetIs m (due (map given vals) u) cs (inDue u)

-- the sets of the variables from v on: the clauses that are due at each, those that these variables satisfy, and those that one of them leaves open
pub record SetsFrom (m : ℕ) (cs : List (List Literal)) (vals : List ℕ) (inDue : ℕ → ℕ → Bool) (inHeld in_open : ℕ → Bool) (v : ℕ) : Type 0 where
  pub dues : DueFrom m cs vals inDue v
  pub holds : SetIs m (satisfied_from (map given vals) v) cs inHeld
  pub waiting : SetIs m (waits (map given vals) v) cs in_open

-- what is made: the clauses that are due at each variable, and those that are satisfied
pub record Started (m : ℕ) (cs : List (List Literal)) (vals : List ℕ) (inDue : ℕ → ℕ → Bool) (inHeld : ℕ → Bool) : Type 0 where
  pub dues : DueFrom m cs vals inDue 0
  pub holds : SetIs m (satisfied (map given vals)) cs inHeld

-- for any clauses that the tables are made of
abbrev pub Starts : (m : ℕ) (vals sat uses : List ℕ) (inDue : ℕ → ℕ → Bool) (inHeld : ℕ → Bool) → Type 0
Starts m vals sat uses inDue inHeld = (cs : List (List Literal)) → Clauses cs vals sat uses → Started m cs vals inDue inHeld

-- v is the first unassigned variable from `from` on, or their number
pub record NextFree (vals : List ℕ) (from v : ℕ) : Type 0 where
  pub after : from ≤ v
  pub upto : v ≤ length vals
  pub assigned : (u : ℕ) → from ≤ u → u < v → get_or vals u 0 ≡ unassigned → ⊥
  pub free : v < length vals → get_or vals v 0 ≡ unassigned

-- how many variables from v on are unassigned
abbrev pub unset_from : List ℕ → ℕ → ℕ
unset_from vals v = unset (drop v (map given vals))

-- ---- the search at the variable v

-- a byte for each variable
pub record Bytes (sizes vals : List ℕ) (v : ℕ) : Type 0 where
  pub upto : v ≤ length sizes
  pub few : length sizes ≤ variables
  pub small : (u : ℕ) → get_or sizes u 0 ≤ values
  pub same : length vals ≡ length sizes

-- nothing more is known of the clauses
abbrev pub Any : List (List Literal) → Type 0
Any cs = Unit {0}

-- where it stands: the variables before v are assigned, no clause is false, and of the first m clauses the sets are those of this assignment; what the search goes by is known of them
pub record Stands (m : ℕ) (Known : List (List Literal) → Type 0) (cs : List (List Literal)) (inSat inDue : ℕ → ℕ → Bool) (vals : List ℕ) (inHeld : ℕ → Bool) (v : ℕ) : Type 0 where
  pub known : Known cs
  pub many : length cs ≤ m
  pub satisfies : (u x : ℕ) → u < variables → x < values → SetIs m (satisfied_at u x) cs (inSat (u * values + x))
  pub dues : DueFrom m cs vals inDue v
  pub holds : SetIs m (satisfied (map given vals)) cs inHeld
  pub filled : Filled v (map given vals)
  pub clear : any_false (map given vals) cs ≡ false

-- for any clauses with which it stands there, it ends as the model's search through the variables from v on
abbrev pub Searches : (m : ℕ) (Known : List (List Literal) → Type 0) (sizes : List ℕ) (inSat inDue : ℕ → ℕ → Bool) (vals : List ℕ) (inHeld : ℕ → Bool) (v used limit : ℕ) (after : List ℕ) → Answer → Type 0
Searches m Known sizes inSat inDue vals inHeld v used limit after r =
    (cs : List (List Literal)) → Stands m Known cs inSat inDue vals inHeld v
    → Ended (explore cs limit sizes (length sizes - v) v used (map given vals)) vals after r
