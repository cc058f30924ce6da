-- The turns of the loop over the values of v, along a plan. The search is told the trials left, and the bytes are those for which the plan was made. Assumes nothing.
use mathlib.Core.Path.{◌≡◌, refl, sym, ap, ◌∙◌}
use mathlib.Core.Bool.{Bool, true, false, ◌||◌}
use mathlib.Core.List.{List}
use Prim.Native.Nat.{ℕ, ◌+◌, ◌-◌, ◌*◌, ◌<◌, ◌≤◌}
use native.Mathlib.Omega.{arith}
use lib.ListN.{length, get_or, set}
use lib.Seq.{set-set, set-get_or}
use Rattle.model.specs.Sheet.{Literal}
use Rattle.clauses.specs.Numbers.{values, unassigned, pair_clauses}
use Rattle.clauses.specs.Sets.{in_set, Within}
use Rattle.trials.specs.declared.Answer.{Answer}
use Rattle.trials.specs.declared.Answer.TheVariants.{Consistent, Inconsistent, Spent}
use Rattle.trials.specs.Answers.{told, trials_in}
use Rattle.trials.specs.Searches.{Searches}
use Rattle.trials.proofs.Bytes.{all-given}
use Rattle.trials.proofs.Turns.{none_left, Turn, turn-first, turn_end, turn-stop, value, turn-again, deep-found, deep-stop, deep-again}
use Rattle.plan.specs.Plans.{count_place, row_at, in_plan, PlanFor, Knows, afterwards}
use Rattle.plan.proofs.Filled.{filled_none, filled-set}
use Rattle.plan.proofs.Rows.{next_here, at-end, before-end, inside, back, size-here, plan_deeper, deeper-at}
use Rattle.pair_search.specs.Found.{Finds}

-- at its head, before the value x with so many trials left, for any that the plan was made for
abbrev pub Tries : (sat plan : List ℕ) (inHeld : ℕ → Bool) (v left rest x : ℕ) → Type 0
Tries sat plan inHeld v left rest x =
    (sizes vals : List ℕ) (used limit : ℕ) → PlanFor sizes vals plan v → left ≡ limit - used
    → Turn pair_clauses (Knows sizes sat plan) sizes (in_set sat) (in_plan plan) vals inHeld v v used limit (get_or plan (row_at v) 0) vals (used + (left - rest)) x

-- the bytes that a trial left are no matter
kept : (Known : List (List Literal) → Type 0) (sizes : List ℕ) (inSat inDue : ℕ → ℕ → Bool) (vals vals' : List ℕ) (inHeld : ℕ → Bool) (v used limit size u x : ℕ)
    → Turn pair_clauses Known sizes inSat inDue vals inHeld v v used limit size vals' u x → Turn pair_clauses Known sizes inSat inDue vals inHeld v v used limit size vals u x
kept Known sizes inSat inDue vals vals' inHeld v used limit size u x t = record {
  room = t.room;
  below = t.below;
  free = t.free;
  sized = t.sized;
  upto = t.upto;
  long = refl;
  over = t.over;
  back = λ cs s. ap (set vals v) (sym t.free) ∙ set-get_or vals v 0;
  says = t.says;
}

module _ (sat plan : List ℕ) (inHeld : ℕ → Bool) (v left : ℕ) where
  -- no variable is left
  pub finds-end : v ≡ get_or plan count_place 0 → (r : Answer) → r ≡ Consistent left → Finds sat plan inHeld v left plan r
  unfolding told afterwards
  finds-end h r q sizes vals used limit p e cs s =
      let z : used + (left - left) ≡ used = omega arith in
      let n = at-end sizes vals plan v p h in
      let l : v ≡ length vals = n ∙ sym p.bytes.same in
      rw (q, z, filled_none vals plan 0 (all-given vals (rw l at s.filled)))
      (none_left pair_clauses _ sizes (in_set sat) (in_plan plan) vals v v p.bytes (next_here sizes vals plan v p) n inHeld used limit (Consistent used) refl cs s)

  -- the first turn
  pub tries_first : (v ≡ get_or plan count_place 0 → ⊥) → Tries sat plan inHeld v left left 0
  tries_first n sizes vals used limit p e =
      let z : used + (left - left) ≡ used = omega arith in
      let lt = before-end sizes vals plan v p n in
      rw z (turn-first pair_clauses _ sizes (in_set sat) (in_plan plan) vals inHeld v v used limit (get_or plan (row_at v) 0) p.bytes (next_here sizes vals plan v p) (λ q. omega arith) (size-here sizes vals plan v p lt))

  module _ (rest x : ℕ) (t : Tries sat plan inHeld v left rest x) where
    -- every value was tried
    pub tries_end : get_or plan (row_at v) 0 ≤ x → (after : List ℕ) (r : Answer) → r ≡ Inconsistent rest → Finds sat plan inHeld v left after r
    unfolding told afterwards
    tries_end h after r q sizes vals used limit p e =
        let k = t sizes vals used limit p e in
        rw q (rw (back sizes vals plan v p k.below) at (turn_end pair_clauses _ _ _ _ _ _ _ _ _ _ _ _ _ _ k h (Inconsistent (used + (left - rest))) refl))

    module _ (lt : x < get_or plan (row_at v) 0) where
      -- no trial is left
      pub tries_stop : rest ≡ 0 → (after : List ℕ) (r : Answer) → r ≡ Spent 0 → Finds sat plan inHeld v left after r
      unfolding told afterwards
      tries_stop z after r q sizes vals used limit p e =
          let k = t sizes vals used limit p e in
          rw q (rw (back sizes vals plan v p k.below) at (turn-stop pair_clauses _ _ _ _ _ _ _ _ _ _ _ _ _ _ k lt (omega arith) (Spent (used + (left - 0))) (rw z refl)))

      module _ (more : 0 < rest) (few : rest ≤ left) (row : ℕ) (r : Bool) (at_row : row ≡ v * values + x) (covers : Within pair_clauses (in_plan plan v) (λ c. inHeld c || in_set sat row c) r) where
        -- the test failed
        pub tries_again : r ≡ false → Tries sat plan inHeld v left (rest - 1) (x + 1)
        tries_again f sizes vals used limit p e =
            let k = t sizes vals used limit p e in
            let w : used + (left - (rest - 1)) ≡ used + (left - rest) + 1 = omega arith in
            rw w (kept _ sizes _ _ vals _ _ _ _ _ _ _ _ (turn-again pair_clauses _ _ _ _ _ _ _ _ _ _ _ _ _ _ k lt (omega arith) row r at_row covers f (set vals v x) (used + (left - rest) + 1) refl refl))

        -- the test passed, and the search from the next variable on ended
        module _ (passes : r ≡ true) (inMore : ℕ → Bool) (joins : (c : ℕ) → c < pair_clauses → inMore c ≡ (inHeld c || in_set sat row c)) (after : List ℕ) where
          ended : (b : Answer) → Finds sat plan inMore (get_or plan (row_at v + 1) 0) (rest - 1) after b
              → (sizes vals : List ℕ) (used limit : ℕ) → PlanFor sizes vals plan v → left ≡ limit - used
              → Searches pair_clauses (Knows sizes sat plan) sizes (in_set sat) (in_plan plan) (set vals v x) inMore (v + 1) (used + (left - rest) + 1) limit (afterwards (set vals v x) after b) (told (used + (left - rest) + 1) (rest - 1) b)
          ended b deep sizes vals used limit p e =
              let k = t sizes vals used limit p e in
              deeper-at sizes vals plan v p k.below x _ _ _ inMore (used + (left - rest) + 1) limit _ _
              (deep sizes (set vals v x) (used + (left - rest) + 1) limit (plan_deeper sizes vals plan v p k.below x) (omega arith))

          -- no value fits there
          pub deep_tries : (b : Answer) → Finds sat plan inMore (get_or plan (row_at v + 1) 0) (rest - 1) after b → (n : ℕ) → n ≤ rest - 1 → b ≡ Inconsistent n → Tries sat plan inHeld v left n (x + 1)
          unfolding told afterwards
          deep_tries b deep n h q sizes vals used limit p e =
              let k = t sizes vals used limit p e in
              let w : used + (left - n) ≡ used + (left - rest) + 1 + (rest - 1 - n) = omega arith in
              let d = ended (Inconsistent n) (rw q at deep) sizes vals used limit p e in
              rw w
              (kept _ sizes _ _ vals _ _ _ _ _ _ _ _
              (deep-again pair_clauses _ _ _ _ _ _ _ _ _ _ _ _ _ _ k lt (omega arith) row r at_row covers passes inMore joins (set vals v x) _ (used + (left - rest) + 1 + (rest - 1 - n)) d refl refl (set vals v x) _ refl refl))

          -- it found values, which the plan notes with that of v, or was stopped
          pub deep-finds : (b : Answer) → Finds sat plan inMore (get_or plan (row_at v + 1) 0) (rest - 1) after b → trials_in b ≤ rest - 1 → ((n : ℕ) → b ≡ Inconsistent n → ⊥)
              → v * 4 < length after → Finds sat plan inHeld v left (set after (row_at v) x) b
          unfolding told afterwards trials_in
          deep-finds (Answer.Consistent n) deep h f l sizes vals used limit p e =
              let k = t sizes vals used limit p e in
              let w : used + (left - n) ≡ used + (left - rest) + 1 + (rest - 1 - n) = omega arith in
              let d = ended (Consistent n) deep sizes vals used limit p e in
              let z : 0 + v * 4 ≡ v * 4 = omega arith in
              let q = rw z at (filled-set vals after 0 v x (inside sizes vals plan v p k.below) k.free (value pair_clauses _ _ _ _ _ _ _ _ _ _ _ _ _ _ k lt) (omega arith)) in
              rw (w, sym q)
              (deep-found pair_clauses _ _ _ _ _ _ _ _ _ _ _ _ _ _ k lt (omega arith) row r at_row covers passes inMore joins _ _ (used + (left - rest) + 1 + (rest - 1 - n)) d refl _ refl)
          deep-finds (Answer.Inconsistent n) deep h f l sizes vals used limit p e = absurd (f n refl)
          deep-finds (Answer.Spent n) deep h f l sizes vals used limit p e =
              let k = t sizes vals used limit p e in
              let w : used + (left - n) ≡ used + (left - rest) + 1 + (rest - 1 - n) = omega arith in
              let d = ended (Spent n) deep sizes vals used limit p e in
              rw w (rw (set-set vals v x unassigned ∙ back sizes vals plan v p k.below) at
              (deep-stop pair_clauses _ _ _ _ _ _ _ _ _ _ _ _ _ _ k lt (omega arith) row r at_row covers passes inMore joins _ _ (used + (left - rest) + 1 + (rest - 1 - n)) d refl _ refl))
