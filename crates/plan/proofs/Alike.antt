-- Plans whose rows are the same, and sets that are alike: each is as good for a search as the other. Assumes nothing.
use mathlib.Core.Path.{◌≡◌, refl, sym, ap, ◌∙◌}
use mathlib.Core.Bool.{Bool, true, ◌||◌}
use mathlib.Core.List.{List}
use Prim.Native.Nat.{ℕ, ◌+◌, ◌/◌, ◌%◌, ◌<◌, ◌≤◌}
use native.Mathlib.Omega.{arith}
use lib.ListN.{length}
use Rattle.model.specs.Sheet.{Literal}
use Rattle.clauses.specs.Numbers.{variables, pair_clauses}
use Rattle.clauses.specs.Sets.{bit, in_set, Within}
use Rattle.trials.specs.Searches.{Stands}
use Rattle.plan.specs.Plans.{count_place, notes_begin, row_at, in_plan, SameBefore, PlanFor, Searchable, left_to_set, Alike}
use Rattle.plan.proofs.Rows.{left-unset}

-- ---- the rows of the plan are the same

pub same_refl : (plan : List ℕ) → SameBefore notes_begin plan plan
same_refl plan = record { long = refl; words = λ k h. refl }

pub same_then : {a b c : List ℕ} → SameBefore notes_begin a b → SameBefore notes_begin b c → SameBefore notes_begin a c
same_then s t = record { long = t.long ∙ s.long; words = λ k h. t.words k h ∙ s.words k h }

pub same_back : {a b : List ℕ} → SameBefore notes_begin a b → SameBefore notes_begin b a
same_back s = record { long = sym s.long; words = λ k h. sym (s.words k h) }

module _ {plan after : List ℕ} (s : SameBefore notes_begin plan after) where
  pub plan_same : (u c : ℕ) → u < variables → c < pair_clauses → in_plan after u c ≡ in_plan plan u c
  unfolding in_plan
  plan_same u c h l = ap (λ (w : ℕ). bit w (c % 64)) (s.words (row_at u + 2 + c / 64) (omega arith))

  -- so it is as good for any search
  pub within_same : (v : ℕ) → v < variables → (other : ℕ → Bool) (r : Bool) → Within pair_clauses (in_plan after v) other r → Within pair_clauses (in_plan plan v) other r
  within_same v h other r w = record { all = λ e c l i. w.all e c l (plan_same v c h l ∙ i); only = λ f. w.only (λ c l i. f c l (sym (plan_same v c h l) ∙ i)) }

  pub plan_for_same : {sizes vals : List ℕ} {v : ℕ} → PlanFor sizes vals plan v → PlanFor sizes vals after v
  plan_for_same {sizes} {vals} {v} p =
      let few : length vals ≤ variables = omega (arith, p.bytes.few, p.bytes.same) in
      record {
        bytes = p.bytes;
        free = p.free;
        rows = record {
          size = λ u h l e. s.words (row_at u) (omega arith) ∙ p.rows.size u h l e;
          next = λ u h l e. rw (s.words (row_at u + 1) (omega arith)) (p.rows.next u h l e);
        };
        ends = s.words count_place (omega arith) ∙ p.ends;
      }

  pub searchable_same : {v : ℕ} → Searchable plan v → Searchable after v
  searchable_same q = record { sizes = q.sizes; vals = q.vals; plans = plan_for_same q.plans; long = s.long ∙ q.long }

  -- and has as many variables left to set
  pub left-same : {v : ℕ} → Searchable plan v → left_to_set after v ≡ left_to_set plan v
  left-same q = left-unset (plan_for_same q.plans) ∙ sym (left-unset q.plans)

  -- where a search stands by the one it stands by the other, with what is known
  pub stands_same : {Known Other : List (List Literal) → Type 0} {cs : List (List Literal)} (sat : List ℕ) {vals : List ℕ} {inHeld : ℕ → Bool} {v : ℕ} → length vals ≤ variables → Other cs
      → Stands pair_clauses Known cs (in_set sat) (in_plan plan) vals inHeld v → Stands pair_clauses Other cs (in_set sat) (in_plan after) vals inHeld v
  stands_same sat few k t = record {
    known = k;
    many = t.many;
    satisfies = t.satisfies;
    dues = record { has = λ u h l e. record { has = λ c b. plan_same u c (omega arith) b ∙ (t.dues.has u h l e).has c b } };
    holds = t.holds;
    filled = t.filled;
    clear = t.clear;
  }

-- ---- alike

pub alike_same : (needs had : ℕ → Bool) → Alike needs had had
alike_same needs had = record { same = λ c h e. refl }

-- in fewer clauses
pub alike-fewer : {needs fewer had other : ℕ → Bool} → ((c : ℕ) → c < pair_clauses → fewer c ≡ true → needs c ≡ true) → Alike needs had other → Alike fewer had other
alike-fewer f a = record { same = λ c h e. a.same c h (f c h e) }

-- a test of clauses that are all needed says the same
pub within-alike : {due needs had other : ℕ → Bool} (row : ℕ → Bool) {r : Bool} → ((c : ℕ) → c < pair_clauses → due c ≡ true → needs c ≡ true) → Alike needs had other
    → Within pair_clauses due (λ c. had c || row c) r → Within pair_clauses due (λ c. other c || row c) r
within-alike row f a w = record {
  all = λ e c h i. ap (λ (b : Bool). b || row c) (a.same c h (f c h i)) ∙ w.all e c h i;
  only = λ g. w.only (λ c h i. sym (ap (λ (b : Bool). b || row c) (a.same c h (f c h i))) ∙ g c h i);
}

-- sets that are alike stay alike with the clauses of a row
pub alike-deeper : {needs fewer had other deeper : ℕ → Bool} (row : ℕ → Bool) → ((c : ℕ) → c < pair_clauses → fewer c ≡ true → needs c ≡ true) → ((c : ℕ) → c < pair_clauses → deeper c ≡ (had c || row c))
    → Alike needs had other → Alike fewer deeper (λ c. other c || row c)
alike-deeper row f j a = record { same = λ c h e. ap (λ (b : Bool). b || row c) (a.same c h (f c h e)) ∙ sym (j c h) }
