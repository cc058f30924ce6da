-- What the search along a plan makes of it. Assumes nothing: these are definitions.
use Rattle.std.specs.Prelude.{◌≡◌, Bool, List, ℕ, ◌-◌, ◌≤◌, length}
use Rattle.model.specs.Sheet.{Literal}
use Rattle.clauses.specs.Numbers.{pair_clauses}
use Rattle.clauses.specs.Sets.{in_set}
use Rattle.trials.specs.declared.Answer.{Answer}
use Rattle.trials.specs.declared.Answer.TheVariants.{Inconsistent}
use Rattle.trials.specs.Answers.{told, trials_in}
use Rattle.trials.specs.Searches.{Searches}
use Rattle.plan.specs.Plans.{notes_begin, in_plan, needed, SameBefore, PlanFor, Alike, Knows, afterwards}

-- for any that it was made for, the search with so many trials left ends as the model's
abbrev pub Finds : (sat plan : List ℕ) (inHeld : ℕ → Bool) (v left : ℕ) (after : List ℕ) → Answer → Type 0
Finds sat plan inHeld v left after r =
    (sizes vals : List ℕ) (used limit : ℕ) → PlanFor sizes vals plan v → left ≡ limit - used
    → Searches pair_clauses (Knows sizes sat plan) sizes (in_set sat) (in_plan plan) vals inHeld v used limit (afterwards vals after r) (told used left r)

-- what is noted stays right
abbrev pub Learns : (sat plan after : List ℕ) → Type 0
Learns sat plan after = (cs : List (List Literal)) (sizes : List ℕ) → Knows sizes sat plan cs → Knows sizes sat after cs

-- where the search finds no values: the plan is as it came, what is noted is right, and it would end so with any set that is alike in the clauses that it went by
pub record Fails (sat plan : List ℕ) (inHeld : ℕ → Bool) (v left : ℕ) (after : List ℕ) (r : Answer) : Type 0 where
  pub restored : SameBefore notes_begin plan after
  pub learns : Learns sat plan after
  pub alike : (inOther : ℕ → Bool) → Alike (needed after v) inHeld inOther → Finds sat plan inOther v left after r

-- what the search makes of the plan: it ends as the model's does, and no more trials are left than there were
pub record Found (sat plan : List ℕ) (inHeld : ℕ → Bool) (v left : ℕ) (after : List ℕ) (r : Answer) : Type 0 where
  pub finds : Finds sat plan inHeld v left after r
  pub few : trials_in r ≤ left
  pub long : length after ≡ length plan
  pub fails : (t : ℕ) → r ≡ Inconsistent t → Fails sat plan inHeld v left after r
