-- The plan of a test of at most 128 clauses, whose sets are two words, and what is noted in it. Assumes nothing: these are definitions.
use Rattle.std.specs.Prelude.{◌≡◌, Bool, true, false, List, [], ◌∷◌, map, ℕ, zero, suc, ◌+◌, ◌-◌, ◌*◌, ◌%◌, ◌<◌, ◌≤◌, eqb, length, get_or, set}
use Rattle.std.specs.Int.Bits.{bit_and}
use Rattle.model.specs.Sheet.{Literal}
use Rattle.model.specs.Consistency.{inconsistent, explore}
use Rattle.clauses.specs.Bytes.{given}
use Rattle.clauses.specs.Numbers.{variables, unassigned, pair_clauses}
use Rattle.clauses.specs.Sets.{in_words, in_set}
use Rattle.trials.specs.declared.Answer.{Answer}
use Rattle.trials.specs.Answers.{trials_below}
use Rattle.trials.specs.Searches.{Clauses, SetsFrom, NextFree, Bytes, Any, Stands}

-- A plan has a row of four words for each variable, of which those of the unassigned ones are filled: its size, the next unassigned variable, and the set of the clauses that are due at it. Behind the rows is the number of variables. Then comes a note of five words for each variable: the clauses by which the search from it last went when it found no values, which of them were satisfied, and how many trials it took. There is room for one behind the last variable, since that is the last one's next.
abbrev pub row_words : ℕ
row_words = 4

abbrev pub count_place : ℕ
count_place = 192

abbrev pub notes_begin : ℕ
notes_begin = 193

abbrev pub note_words : ℕ
note_words = 5

abbrev pub plan_words : ℕ
plan_words = 438

-- in place of a note's trials: nothing is noted
abbrev pub none_noted : ℕ
none_noted = trials_below

-- where the row of the variable v begins, and where its note does
abbrev pub row_at : ℕ → ℕ
row_at v = v * row_words

abbrev pub note_at : ℕ → ℕ
note_at v = notes_begin + v * note_words

-- whether the clause c is due at the variable v
unfoldable pub in_plan : List ℕ → ℕ → ℕ → Bool
in_plan plan v c = in_words plan (row_at v + 2) c

-- whether the search from v on went by the clause c, whether c was satisfied then, and the trials
unfoldable pub needed : List ℕ → ℕ → ℕ → Bool
needed plan v c = in_words plan (note_at v) c

unfoldable pub had_then : List ℕ → ℕ → ℕ → Bool
had_then plan v c = in_words plan (note_at v + 2) c

abbrev pub trials_then : List ℕ → ℕ → ℕ
trials_then plan v = get_or plan (note_at v + 4) 0

-- the words before the place n are as they were
pub record SameBefore (n : ℕ) (before after : List ℕ) : Type 0 where
  pub long : length after ≡ length before
  pub words : (k : ℕ) → k < n → get_or after k 0 ≡ get_or before k 0

-- each unassigned variable from v on has its size and the next one in its row
pub record Rows (sizes vals plan : List ℕ) (v : ℕ) : Type 0 where
  pub size : (u : ℕ) → v ≤ u → u < length vals → get_or vals u 0 ≡ unassigned → get_or plan (row_at u) 0 ≡ get_or sizes u 0
  pub next : (u : ℕ) → v ≤ u → u < length vals → get_or vals u 0 ≡ unassigned → NextFree vals (u + 1) (get_or plan (row_at u + 1) 0)

-- what is made from v on: the plan, the clauses that are satisfied and those that are left open, and the first unassigned variable; nothing is noted
pub record Planned (sizes vals sat uses plan : List ℕ) (first : ℕ) (inHeld in_open : ℕ → Bool) (v : ℕ) : Type 0 where
  pub next : NextFree vals v first
  pub rows : Rows sizes vals plan v
  pub ends : get_or plan count_place 0 ≡ length vals
  pub long : length plan ≡ plan_words
  pub sets : (cs : List (List Literal)) → Clauses cs vals sat uses → SetsFrom pair_clauses cs vals (in_plan plan) inHeld in_open v
  pub blank : (u : ℕ) → v ≤ u → u < length vals → trials_then plan u ≡ none_noted

-- the plan was made for these sizes and bytes, and the search stands at the unassigned variable v
pub record PlanFor (sizes vals plan : List ℕ) (v : ℕ) : Type 0 where
  pub bytes : Bytes sizes vals v
  pub free : v < length sizes → get_or vals v 0 ≡ unassigned
  pub rows : Rows sizes vals plan v
  pub ends : get_or plan count_place 0 ≡ length vals

-- it was made for some
pub record Searchable (plan : List ℕ) (v : ℕ) : Type 0 where
  pub sizes : List ℕ
  pub vals : List ℕ
  pub plans : PlanFor sizes vals plan v
  pub long : length plan ≡ plan_words

-- how many variables a search along the plan has left to set from v on, of n at most: v itself, the next one in its row, and so on to the end
unfoldable pub along : List ℕ → ℕ → ℕ → ℕ
along plan zero v = 0
along plan (suc n) v = elim (eqb v (get_or plan count_place 0)) [ true ↦ 0 | false ↦ along plan n (get_or plan (row_at v + 1) 0) + 1 ]

-- all of them
unfoldable pub left_to_set : List ℕ → ℕ → ℕ
left_to_set plan v = along plan variables v

-- of the clauses that a pair has room for, those that are needed are in one set where they are in the other
pub record Alike (needs had other : ℕ → Bool) : Type 0 where
  pub same : (c : ℕ) → c < pair_clauses → needs c ≡ true → other c ≡ had c

-- wherever a search along the plan comes to v with the needed clauses satisfied that `had` has, it finds no values, by t trials
pub record Refuted (cs : List (List Literal)) (sizes sat plan : List ℕ) (v : ℕ) (needs had : ℕ → Bool) (t : ℕ) : Type 0 where
  pub says : (vals : List ℕ) (inHeld : ℕ → Bool) (used limit : ℕ) → PlanFor sizes vals plan v → Stands pair_clauses Any cs (in_set sat) (in_plan plan) vals inHeld v
      → Alike needs had inHeld → used + t ≤ limit → explore cs limit sizes (length sizes - v) v used (map given vals) ≡ inconsistent (used + t)

-- what is noted in the plan is right for these clauses
pub record Knows (sizes sat plan : List ℕ) (cs : List (List Literal)) : Type 0 where
  pub right : (v : ℕ) → v < length sizes → trials_then plan v < none_noted → Refuted cs sizes sat plan v (needed plan v) (had_then plan v) (trials_then plan v)

-- t trials are those noted at v, and the needed clauses are satisfied as then
pub record Recalled (plan : List ℕ) (v first second t : ℕ) : Type 0 where
  pub noted_here : t ≡ trials_then plan v
  pub first-same : bit_and (get_or plan (note_at v) 0) first ≡ get_or plan (note_at v + 2) 0
  pub second-same : bit_and (get_or plan (note_at v + 1) 0) second ≡ get_or plan (note_at v + 3) 0

-- the plan with this noted at v
abbrev pub noted : List ℕ → ℕ → ℕ → ℕ → ℕ → ℕ → ℕ → List ℕ
noted plan v needs1 needs2 had1 had2 t =
    set (set (set (set (set plan (note_at v) needs1) (note_at v + 1) needs2) (note_at v + 2) had1) (note_at v + 3) had2) (note_at v + 4) t

-- ---- the values found

-- the bytes, with the word at the plan's place for each unassigned one, four words on from one to the next
unfoldable pub filled_from : List ℕ → List ℕ → ℕ → List ℕ
filled_from [] plan place = []
filled_from (b ∷ vals) plan place = elim (eqb b unassigned) [ true ↦ get_or plan place 0 % 256 | false ↦ b ] ∷ filled_from vals plan (place + row_words)

-- what the search makes of the bytes: values were found, or not
unfoldable pub afterwards : List ℕ → List ℕ → Answer → List ℕ
afterwards vals plan (Answer.Consistent t) = filled_from vals plan 0
afterwards vals plan (Answer.Inconsistent t) = vals
afterwards vals plan (Answer.Spent t) = vals
