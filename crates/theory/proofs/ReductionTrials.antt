-- The trials of the reduction: they never fall and never pass the limit, and a larger limit that is not struck changes nothing. Assumes nothing.
use mathlib.Core.Path.{◌≡◌, refl, ◌∙◌}
use mathlib.Core.Option.{none}
use Prim.Native.Nat.{ℕ, zero, suc, ◌+◌, ◌≤◌}
use native.Mathlib.Omega.{arith}
use lib.ListN.{length, set}
use Rattle.model.specs.Sheet.{Plant}
use Rattle.model.specs.Assignment.{Assignment}
use Rattle.model.specs.Consistency.{Tested, consistent, inconsistent, test}
use Rattle.model.specs.Conflict.{Reduced, conflict, spent, reduce_from, reduce}
use Rattle.theory.specs.Consistency.{trials_of_reduced, Counted}
use Rattle.theory.proofs.TestTrials.{counted-then, counted_none, Beside, test_beside}
use Rattle.theory.proofs.ReductionSteps.{reduce_skip, reduce-keep, reduce_lose, reduce_cases}

module _ (limit : ℕ) where
  -- a reduction from `used` trials on, and another: the trials are counted, the other ends as this one does, unless this one is spent, and that only at the limit
  abbrev Alongside : ℕ → Reduced → Reduced → Type 0
  Alongside used (conflict r t) o = Counted limit used t × (o ≡ conflict r t)
  Alongside used (spent t) o = Counted limit used t × (limit ≤ t)

  -- trials made before may be counted too
  alongside_then : (used u : ℕ) → Counted limit used u → (r o q : Reduced) → q ≡ o → Alongside u r o → Alongside used r q
  alongside_then used u c (conflict r t) o q e h = (counted-then c h.0, e ∙ h.1)
  alongside_then used u c (spent t) o q e h = (counted-then c h.0, h.1)

module _ (p : Plant) (limit : ℕ) where
  module _ (limit' : ℕ) (larger : limit ≤ limit') where
    -- a reduction with a limit as large or larger beside it
    from_alongside : (n v : ℕ) (c : Assignment) (used : ℕ) → Alongside limit used (reduce_from p limit n v c used) (reduce_from p limit' n v c used)
    unfolding reduce_from
    from_alongside zero v c used = (counted_none limit used, refl)
    from_alongside (suc n) v c used = reduce_cases p limit n v c used (λ o. Alongside limit used o (reduce_from p limit' (suc n) v c used))
        (λ e. rw (reduce_skip p limit' n v c used e) (from_alongside n (v + 1) c used))
        (λ x e f t q. let b : Beside limit used (consistent f t) (test p limit' (set c v none) used) = rw q at tested in
        alongside_then limit used t b.0 (reduce_from p limit n (v + 1) c t) _ _ (reduce-keep p limit' n v c used x e f t b.1) (from_alongside n (v + 1) c t))
        (λ x e t q. let b : Beside limit used (inconsistent t) (test p limit' (set c v none) used) = rw q at tested in
        alongside_then limit used t b.0 (reduce_from p limit n (v + 1) (set c v none) t) _ _ (reduce_lose p limit' n v c used x e t b.1) (from_alongside n (v + 1) (set c v none) t))
        (λ t q. let b : Beside limit used (Tested.spent t) (test p limit' (set c v none) used) = rw q at tested in b)
      where
        tested : Beside limit used (test p limit (set c v none) used) (test p limit' (set c v none) used)
        tested = test_beside p limit limit' larger (set c v none) used

  module _ (c : Assignment) (used : ℕ) where
    -- the whole reduction
    reduce_alongside : (limit' : ℕ) → limit ≤ limit' → Alongside limit used (reduce p limit c used) (reduce p limit' c used)
    unfolding reduce
    reduce_alongside limit' larger = from_alongside limit' larger (length c) 0 c used

    -- trials never fall and never pass the limit
    pub reduce-trials : Counted limit used (trials_of_reduced (reduce p limit c used))
    reduce-trials = go (reduce p limit c used) (reduce_alongside limit (omega arith))
      where
        go : (r : Reduced) → Alongside limit used r (reduce p limit c used) → Counted limit used (trials_of_reduced r)
        go (conflict r t) h = h.0
        go (spent t) h = h.0

    -- it is spent only at the limit
    pub reduce-spent : (t : ℕ) → reduce p limit c used ≡ spent t → limit ≤ t
    reduce-spent t e = let h : Alongside limit used (spent t) (reduce p limit c used) = rw e at (reduce_alongside limit (omega arith)) in h.1

    -- so one that began within the limit is spent with the whole limit
    pub reduce-spent-at : used ≤ limit → (t : ℕ) → reduce p limit c used ≡ spent t → t ≡ limit
    reduce-spent-at h t e = let k : Counted limit used t = rw e at reduce-trials in omega (arith, reduce-spent t e, k.within h)

    -- a larger limit gives the same conflict and the same trials, where the limit is not struck
    pub reduce-larger-limit : (limit' : ℕ) → limit ≤ limit' → (r : Assignment) (t : ℕ) → reduce p limit c used ≡ conflict r t → reduce p limit' c used ≡ conflict r t
    reduce-larger-limit limit' larger r t e = let h : Alongside limit used (conflict r t) (reduce p limit' c used) = rw e at (reduce_alongside limit' larger) in h.1
