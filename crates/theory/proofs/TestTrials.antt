-- The trials of the test: they never fall and never pass the limit; a larger limit that is not struck changes nothing, nor does any limit that allows the trials of a search that found no values. Assumes nothing.
use mathlib.Core.Path.{◌≡◌, refl}
use mathlib.Core.Logic.{inl, inr}
use mathlib.Core.Option.{none, some}
use mathlib.Core.List.{List}
use Prim.Native.Nat.{ℕ, zero, suc, ◌+◌, ◌≤◌, ◌<◌}
use native.Mathlib.Omega.{arith}
use native.Mathlib.Decide.{dec_lt}
use lib.ListN.{length, get_or, set}
use Rattle.model.specs.Sheet.{Literal, Plant, sizes}
use Rattle.model.specs.Assignment.{Assignment}
use Rattle.model.specs.Consistency.{Tested, consistent, inconsistent, spent, or_else, any_false, try_values, explore, test, over_all}
use Rattle.theory.specs.Consistency.{trials_of, Counted}
use Rattle.theory.proofs.TestSteps.{assigned?, either, attempt, attempt-false, attempt-deeper, turn, turn-spent, hop_try, hop_skip, test-false, test-explore}

-- trials go on being counted
pub counted-then : {limit used t u : ℕ} → Counted limit used t → Counted limit t u → Counted limit used u
counted-then a b = record { kept = omega (arith, a.kept, b.kept); within = λ h. b.within (a.within h) }

-- no trial more
pub counted_none : (limit used : ℕ) → Counted limit used used
counted_none limit used = record { kept = omega arith; within = λ h. h }

-- one trial more, below the limit
pub counted-one : (limit used : ℕ) → used < limit → Counted limit used (used + 1)
counted-one limit used l = record { kept = omega arith; within = λ h. omega arith }

-- ---- one run beside another with a limit as large or larger

module _ (limit : ℕ) where
  -- a run from `used` trials on, and the other run: the trials are counted, the other run ends as this one does, unless this one is spent, and that only at the limit
  abbrev pub Beside : ℕ → Tested → Tested → Type 0
  Beside used (consistent f t) r = Counted limit used t × (r ≡ consistent f t)
  Beside used (inconsistent t) r = Counted limit used t × (r ≡ inconsistent t)
  Beside used (spent t) r = Counted limit used t × (limit ≤ t)

  -- trials made before may be counted too
  beside_then : (used u : ℕ) → Counted limit used u → (r s : Tested) → Beside u r s → Beside used r s
  beside_then used u c (consistent f t) s h = (counted-then c h.0, h.1)
  beside_then used u c (inconsistent t) s h = (counted-then c h.0, h.1)
  beside_then used u c (spent t) s h = (counted-then c h.0, h.1)

  -- of two attempts, the one after the other
  beside_or : (used : ℕ) (r s : Tested) (next other : ℕ → Tested) → Beside used r s → ((t : ℕ) → Beside t (next t) (other t)) → Beside used (or_else r next) (or_else s other)
  unfolding or_else
  beside_or used (consistent f t) s next other h k = (h.0, rw h.1 refl)
  beside_or used (inconsistent t) s next other h k = rw h.1 (beside_then used t h.0 (next t) (other t) (k t))
  beside_or used (spent t) s next other h k = h

module _ (cs : List (List Literal)) (limit limit' : ℕ) (larger : limit ≤ limit') where
  module _ (deeper deeper' : ℕ → Assignment → Tested) (same : (used : ℕ) (a : Assignment) → Beside limit used (deeper used a) (deeper' used a)) (v : ℕ) (a : Assignment) where
    -- a trial
    attempt_beside : (x used : ℕ) → used < limit → Beside limit used (attempt cs limit deeper v a x used) (attempt cs limit' deeper' v a x used)
    attempt_beside x used l = elim (either (any_false (set a v (some x)) cs)) [
      | inl e ↦ rw (attempt-false cs limit deeper v a x used e, attempt-false cs limit' deeper' v a x used e) (counted-one limit used l, refl)
      | inr e ↦ rw (attempt-deeper cs limit deeper v a x used e, attempt-deeper cs limit' deeper' v a x used e)
          (beside_then limit used (used + 1) (counted-one limit used l) (deeper (used + 1) (set a v (some x))) (deeper' (used + 1) (set a v (some x))) (same (used + 1) (set a v (some x))))
    ]

    -- the values of a variable
    tries_beside : (n x used : ℕ) → Beside limit used (try_values cs limit deeper v a n x used) (try_values cs limit' deeper' v a n x used)
    unfolding try_values
    tries_beside zero x used = (counted_none limit used, refl)
    tries_beside (suc n) x used = go (tries_beside n (x + 1)) (dec_lt used limit)
      where
        go : ((t : ℕ) → Beside limit t (try_values cs limit deeper v a n (x + 1) t) (try_values cs limit' deeper' v a n (x + 1) t)) → Dec (used < limit)
            → Beside limit used (try_values cs limit deeper v a (suc n) x used) (try_values cs limit' deeper' v a (suc n) x used)
        go ih (no d) = rw (turn-spent cs limit deeper v a n x used (omega arith)) (counted_none limit used, omega arith)
        go ih (yes d) = rw (turn cs limit deeper v a n x used d, turn cs limit' deeper' v a n x used (omega arith))
            (beside_or limit used (attempt cs limit deeper v a x used) (attempt cs limit' deeper' v a x used) _ _ (attempt_beside x used d) ih)

  -- the variables
  explore_beside : (ss : List ℕ) (n v used : ℕ) (a : Assignment) → Beside limit used (explore cs limit ss n v used a) (explore cs limit' ss n v used a)
  unfolding explore
  explore_beside ss zero v used a = (counted_none limit used, refl)
  explore_beside ss (suc n) v used a = elim (assigned? (get_or a v none)) [
    | inl e ↦ rw (hop_try cs limit ss n v used a e, hop_try cs limit' ss n v used a e)
        (tries_beside (explore cs limit ss n (v + 1)) (explore cs limit' ss n (v + 1)) (explore_beside ss n (v + 1)) v a (get_or ss v 0) 0 used)
    | inr e ↦ rw (hop_skip cs limit ss n v used a e.0 e.1, hop_skip cs limit' ss n v used a e.0 e.1) (explore_beside ss n (v + 1) used a)
  ]

-- ---- one run that finds no values beside another, with any limit that allows its trials

-- two attempts end inconsistent, the one after the other, where both do
or_inconsistent : (r : Tested) (next : ℕ → Tested) (u : ℕ) → or_else r next ≡ inconsistent u → (t : ℕ) × (r ≡ inconsistent t) × (next t ≡ inconsistent u)
unfolding or_else
or_inconsistent (consistent f t) next u e = let z : ◌≡◌ {A = ℕ} 0 1 = cc in absurd (omega arith)
or_inconsistent (inconsistent t) next u e = (t, refl, e)
or_inconsistent (spent t) next u e = let z : ◌≡◌ {A = ℕ} 0 1 = cc in absurd (omega arith)

module _ (cs : List (List Literal)) (limit limit' : ℕ) where
  -- a run from `used` trials on, and the other run: where this one ends inconsistent, no trials are lost, and the other run ends so too if its limit allows them
  abbrev Refuted : ℕ → Tested → Tested → Type 0
  Refuted used r s = (u : ℕ) → r ≡ inconsistent u → (used ≤ u) × (u ≤ limit' → s ≡ inconsistent u)

  -- a run that makes no further trial
  refuted_none : (used : ℕ) → Refuted used (inconsistent used) (inconsistent used)
  refuted_none used u e = let same : used ≡ u = cc in (omega (arith, same), λ h. e)

  module _ (deeper deeper' : ℕ → Assignment → Tested) (same : (used : ℕ) (a : Assignment) → Refuted used (deeper used a) (deeper' used a)) (v : ℕ) (a : Assignment) where
    -- a trial
    attempt_refuted : (x used : ℕ) → Refuted (used + 1) (attempt cs limit deeper v a x used) (attempt cs limit' deeper' v a x used)
    attempt_refuted x used = elim (either (any_false (set a v (some x)) cs)) [
      | inl e ↦ rw (attempt-false cs limit deeper v a x used e, attempt-false cs limit' deeper' v a x used e) (refuted_none (used + 1))
      | inr e ↦ rw (attempt-deeper cs limit deeper v a x used e, attempt-deeper cs limit' deeper' v a x used e) (same (used + 1) (set a v (some x)))
    ]

    -- the values of a variable
    tries_refuted : (n x used : ℕ) → Refuted used (try_values cs limit deeper v a n x used) (try_values cs limit' deeper' v a n x used)
    unfolding try_values or_else
    tries_refuted zero x used = refuted_none used
    tries_refuted (suc n) x used = go (tries_refuted n (x + 1)) (dec_lt used limit)
      where
        go : ((t : ℕ) → Refuted t (try_values cs limit deeper v a n (x + 1) t) (try_values cs limit' deeper' v a n (x + 1) t)) → Dec (used < limit)
            → Refuted used (try_values cs limit deeper v a (suc n) x used) (try_values cs limit' deeper' v a (suc n) x used)
        go ih (no d) u e = let s = turn-spent cs limit deeper v a n x used (omega arith) in let z : ◌≡◌ {A = ℕ} 0 1 = cc in absurd (omega arith)
        go ih (yes d) u e =
            let (t, first, rest) = or_inconsistent (attempt cs limit deeper v a x used) (try_values cs limit deeper v a n (x + 1)) u (rw (turn cs limit deeper v a n x used d) at e) in
            let h = attempt_refuted x used t first in
            let k = ih t u rest in
            (omega (arith, h.0, k.0), λ l. rw (turn cs limit' deeper' v a n x used (omega (arith, h.0, k.0)), h.1 (omega (arith, k.0))) (k.1 l))

  -- the variables
  explore-both : (ss : List ℕ) (n v used : ℕ) (a : Assignment) → Refuted used (explore cs limit ss n v used a) (explore cs limit' ss n v used a)
  unfolding explore
  explore-both ss zero v used a = λ u e. let z : ◌≡◌ {A = ℕ} 0 1 = cc in absurd (omega arith)
  explore-both ss (suc n) v used a = elim (assigned? (get_or a v none)) [
    | inl e ↦ rw (hop_try cs limit ss n v used a e, hop_try cs limit' ss n v used a e)
        (tries_refuted (explore cs limit ss n (v + 1)) (explore cs limit' ss n (v + 1)) (explore-both ss n (v + 1)) v a (get_or ss v 0) 0 used)
    | inr e ↦ rw (hop_skip cs limit ss n v used a e.0 e.1, hop_skip cs limit' ss n v used a e.0 e.1) (explore-both ss n (v + 1) used a)
  ]

-- where the search found no values, it finds none with any limit that allows its trials, by as many trials
pub explore_refuted : (cs : List (List Literal)) (limit limit' : ℕ) (ss : List ℕ) (n v used u : ℕ) (a : Assignment)
    → explore cs limit ss n v used a ≡ inconsistent u → u ≤ limit' → explore cs limit' ss n v used a ≡ inconsistent u
explore_refuted cs limit limit' ss n v used u a e = (explore-both cs limit limit' ss n v used a u e).1

-- ---- the theorems

module _ (p : Plant) (limit : ℕ) where
  -- the test with a limit as large or larger beside it
  pub test_beside : (limit' : ℕ) → limit ≤ limit' → (a : Assignment) (used : ℕ) → Beside limit used (test p limit a used) (test p limit' a used)
  test_beside limit' larger a used = elim (either (any_false (over_all p a) p.clauses)) [
    | inl e ↦ rw (test-false p limit a used e, test-false p limit' a used e) (counted_none limit used, refl)
    | inr e ↦ rw (test-explore p limit a used e, test-explore p limit' a used e) (explore_beside p.clauses limit limit' larger (sizes p) (length (sizes p)) 0 used (over_all p a))
  ]

  module _ (a : Assignment) (used : ℕ) where
    -- trials never fall and never pass the limit
    pub test-trials : Counted limit used (trials_of (test p limit a used))
    test-trials = go (test p limit a used) (test_beside limit (omega arith) a used)
      where
        go : (r : Tested) → Beside limit used r (test p limit a used) → Counted limit used (trials_of r)
        go (consistent f t) h = h.0
        go (inconsistent t) h = h.0
        go (spent t) h = h.0

    -- it is spent only at the limit
    pub test-spent : (t : ℕ) → test p limit a used ≡ spent t → limit ≤ t
    test-spent t e = let h : Beside limit used (spent t) (test p limit a used) = rw e at (test_beside limit (omega arith) a used) in h.1

    -- so one that began within the limit is spent with the whole limit
    pub test-spent-at : used ≤ limit → (t : ℕ) → test p limit a used ≡ spent t → t ≡ limit
    test-spent-at h t e = let c : Counted limit used t = rw e at test-trials in omega (arith, test-spent t e, c.within h)

    -- a larger limit gives the same answer and the same trials, where the limit is not struck
    pub test-larger-limit : (limit' : ℕ) → limit ≤ limit' → ((t : ℕ) → test p limit a used ≡ spent t → ⊥) → test p limit' a used ≡ test p limit a used
    test-larger-limit limit' larger alive = go (test p limit a used) refl (test_beside limit' larger a used)
      where
        go : (r : Tested) → test p limit a used ≡ r → Beside limit used r (test p limit' a used) → test p limit' a used ≡ r
        go (consistent f t) e h = h.1
        go (inconsistent t) e h = h.1
        go (spent t) e h = absurd (alive t e)
