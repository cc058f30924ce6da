-- The rows of a plan: from one unassigned variable to the next. Assumes nothing.
use mathlib.Core.Path.{◌≡◌, sym, ap, ◌∙◌}
use mathlib.Core.Bool.{Bool}
use mathlib.Core.List.{List}
use Prim.Native.Nat.{ℕ, zero, suc, ◌+◌, ◌<◌, ◌≤◌}
use native.Mathlib.Omega.{arith}
use native.Mathlib.Decide.{ℕ_discrete}
use borrow.Author.Tests.{eq-eqb, ne_eqb}
use lib.ListN.{length, get_or, set, length-set}
use lib.Seq.{get_or-set_other, set-get_or}
use Rattle.model.specs.Sheet.{Literal}
use Rattle.clauses.specs.Numbers.{variables, unassigned, pair_clauses}
use Rattle.trials.specs.declared.Answer.{Answer}
use Rattle.trials.specs.Searches.{NextFree, unset_from, Bytes, Searches}
use Rattle.trials.proofs.Descents.{none_after, fewer as one_fewer}
use Rattle.trials.proofs.Turns.{passed_over}
use Rattle.plan.specs.Plans.{count_place, plan_words, row_at, PlanFor, Searchable, along, left_to_set}
use Rattle.plan.proofs.Plans.{free-same}

module _ (sizes vals plan : List ℕ) (v : ℕ) (p : PlanFor sizes vals plan v) where
  -- the search stands at the next unassigned variable
  pub next_here : NextFree vals v v
  next_here = record {
    after = omega arith;
    upto = omega (arith, p.bytes.upto, p.bytes.same);
    assigned = λ u a b. absurd (omega arith);
    free = λ l. p.free (omega (arith, p.bytes.same));
  }

  -- the plan's last word is the number of variables
  pub at-end : v ≡ get_or plan count_place 0 → v ≡ length sizes
  at-end e = e ∙ p.ends ∙ p.bytes.same

  pub before-end : (v ≡ get_or plan count_place 0 → ⊥) → v < length sizes
  before-end n = elim (ℕ_discrete v (length sizes)) [ yes e ↦ absurd (n (e ∙ sym p.bytes.same ∙ sym p.ends)) | no d ↦ omega (arith, p.bytes.upto) ]

  module _ (below : v < length sizes) where
    pub free-v : get_or vals v 0 ≡ unassigned
    free-v = p.free below

    pub inside : v < length vals
    inside = omega (arith, p.bytes.same)

    pub back : set vals v unassigned ≡ vals
    back = ap (set vals v) (sym free-v) ∙ set-get_or vals v 0

    pub size-here : get_or plan (row_at v) 0 ≡ get_or sizes v 0
    size-here = p.rows.size v (omega arith) inside free-v

    pub next-at : NextFree vals (v + 1) (get_or plan (row_at v + 1) 0)
    next-at = p.rows.next v (omega arith) inside free-v

    -- a trial at v changes no other byte
    module _ (x : ℕ) where
      other : (u : ℕ) → v < u → get_or (set vals v x) u 0 ≡ get_or vals u 0
      other u h = get_or-set_other vals v u x 0 (λ e. omega arith)

      long : length (set vals v x) ≡ length vals
      long = length-set vals v x

      -- so behind v the unassigned variables are the same
      next-set : (from n : ℕ) → v < from → NextFree vals from n → NextFree (set vals v x) from n
      next-set from n h = free-same vals (set vals v x) from n long (λ u a b. other u (omega arith))

      bytes-set : (u : ℕ) → u ≤ length sizes → Bytes sizes (set vals v x) u
      bytes-set u h = record { upto = h; few = p.bytes.few; small = p.bytes.small; same = long ∙ p.bytes.same }

      -- the plan serves at the next one
      pub plan_deeper : PlanFor sizes (set vals v x) plan (get_or plan (row_at v + 1) 0)
      plan_deeper = record {
        bytes = bytes-set (get_or plan (row_at v + 1) 0) (omega (arith, next-at.upto, p.bytes.same));
        free = λ l. (next-set (v + 1) (get_or plan (row_at v + 1) 0) (omega arith) next-at).free (omega (arith, long, p.bytes.same));
        rows = record {
          size = λ u a l e. p.rows.size u (omega (arith, next-at.after)) (omega (arith, long)) (sym (other u (omega (arith, next-at.after))) ∙ e);
          next = λ u a l e. next-set (u + 1) (get_or plan (row_at u + 1) 0) (omega (arith, next-at.after))
              (p.rows.next u (omega (arith, next-at.after)) (omega (arith, long)) (sym (other u (omega (arith, next-at.after))) ∙ e));
        };
        ends = p.ends ∙ sym long;
      }

      -- and what the search from there says is what it says from v + 1 on
      pub deeper-at : (Known : List (List Literal) → Type 0) (inSat inDue : ℕ → ℕ → Bool) (inMore : ℕ → Bool) (used limit : ℕ) (after : List ℕ) (r : Answer)
          → Searches pair_clauses Known sizes inSat inDue (set vals v x) inMore (get_or plan (row_at v + 1) 0) used limit after r
          → Searches pair_clauses Known sizes inSat inDue (set vals v x) inMore (v + 1) used limit after r
      deeper-at Known inSat inDue inMore used limit after r = passed_over pair_clauses Known sizes inSat inDue (set vals v x) (v + 1) (get_or plan (row_at v + 1) 0)
          (bytes-set (v + 1) (omega arith)) (next-set (v + 1) (get_or plan (row_at v + 1) 0) (omega arith) next-at) inMore used limit after r

    -- without a trial it serves there too
    pub plan_onward : PlanFor sizes vals plan (get_or plan (row_at v + 1) 0)
    plan_onward = rw back at (plan_deeper unassigned)

-- ---- the variables left to set

-- the search along the plan has left to set what is unassigned from v on
along-unset : (sizes vals plan : List ℕ) (n v : ℕ) → PlanFor sizes vals plan v → length vals ≤ v + n → along plan n v ≡ unset_from vals v
unfolding along
along-unset sizes vals plan zero v p h = sym (none_after vals v (omega arith))
along-unset sizes vals plan (suc n) v p h = go (ℕ_discrete v (get_or plan count_place 0)) (along-unset sizes vals plan n)
  where
    go : Dec (v ≡ get_or plan count_place 0) → ((u : ℕ) → PlanFor sizes vals plan u → length vals ≤ u + n → along plan n u ≡ unset_from vals u) → along plan (suc n) v ≡ unset_from vals v
    go (yes e) ih = rw (along, eq-eqb v (get_or plan count_place 0) e) (sym (none_after vals v (omega (arith, e, p.ends))))
    go (no d) ih =
        let below = before-end sizes vals plan v p d in
        let next = next-at sizes vals plan v p below in
        rw (along, ne_eqb v (get_or plan count_place 0) d, ih (get_or plan (row_at v + 1) 0) (plan_onward sizes vals plan v p below) (omega (arith, next.after)))
        (one_fewer vals v (get_or plan (row_at v + 1) 0) next (free-v sizes vals plan v p below))

-- and so of all
pub left-unset : {sizes vals plan : List ℕ} {v : ℕ} → PlanFor sizes vals plan v → left_to_set plan v ≡ unset_from vals v
unfolding left_to_set
left-unset {sizes} {vals} {plan} {v} p = along-unset sizes vals plan variables v p (omega (arith, p.bytes.few, p.bytes.same))

-- ---- what the code needs to know where variables are left

pub record Inside (plan : List ℕ) (v : ℕ) : Type 0 where
  pub below : v < variables
  pub small : get_or plan (row_at v) 0 ≤ unassigned
  pub fewer : left_to_set plan (get_or plan (row_at v + 1) 0) + 1 ≡ left_to_set plan v
  pub within : get_or plan (row_at v + 1) 0 ≤ variables
  pub deeper : Searchable plan (get_or plan (row_at v + 1) 0)
  pub long : length plan ≡ plan_words

pub inside-here : (plan : List ℕ) (v : ℕ) → Searchable plan v → (v ≡ get_or plan count_place 0 → ⊥) → Inside plan v
inside-here plan v s n =
    let p = s.plans in
    let below = before-end s.sizes s.vals plan v p n in
    let f = next-at s.sizes s.vals plan v p below in
    let e = size-here s.sizes s.vals plan v p below in
    record {
      below = omega (arith, p.bytes.few);
      small = omega (arith, e, p.bytes.small v);
      fewer = rw (left-unset p, left-unset (plan_onward s.sizes s.vals plan v p below)) (one_fewer s.vals v (get_or plan (row_at v + 1) 0) f (free-v s.sizes s.vals plan v p below));
      within = omega (arith, f.upto, p.bytes.same, p.bytes.few);
      deeper = record { sizes = s.sizes; vals = set s.vals v 0; plans = plan_deeper s.sizes s.vals plan v p below 0; long = s.long };
      long = s.long;
    }
