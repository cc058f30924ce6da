-- The reduction, one step at a time: an equation for each way that a step goes, and the cases. Assumes nothing.
use mathlib.Core.Path.{◌≡◌, refl}
use mathlib.Core.Option.{Option, none, some}
use mathlib.Core.List.{List}
use Prim.Native.Nat.{ℕ, suc, ◌+◌}
use lib.ListN.{get_or, set}
use Rattle.model.specs.Sheet.{Plant}
use Rattle.model.specs.Assignment.{Assignment}
use Rattle.model.specs.Consistency.{Tested, consistent, inconsistent, test}
use Rattle.model.specs.Conflict.{Reduced, spent, ReducedAlone, nothing, reduced, reduce_from, reduce, reduce_alone}

module _ (p : Plant) (limit n v : ℕ) (c : Assignment) (used : ℕ) where
  -- an unassigned variable is passed over
  pub reduce_skip : get_or c v none ≡ none → reduce_from p limit (suc n) v c used ≡ reduce_from p limit n (v + 1) c used
  unfolding reduce_from
  reduce_skip e = rw (reduce_from, e)

  module _ (x : ℕ) (e : get_or c v none ≡ some x) where
    -- a member stays where the rest is consistent without it
    pub reduce-keep : (f : List ℕ) (t : ℕ) → test p limit (set c v none) used ≡ consistent f t → reduce_from p limit (suc n) v c used ≡ reduce_from p limit n (v + 1) c t
    unfolding reduce_from
    reduce-keep f t q = rw (reduce_from, e, q)

    -- it is gone for good where the rest is inconsistent
    pub reduce_lose : (t : ℕ) → test p limit (set c v none) used ≡ inconsistent t → reduce_from p limit (suc n) v c used ≡ reduce_from p limit n (v + 1) (set c v none) t
    unfolding reduce_from
    reduce_lose t q = rw (reduce_from, e, q)

    -- where the test is spent, the reduction is
    pub reduce-stop : (t : ℕ) → test p limit (set c v none) used ≡ Tested.spent t → reduce_from p limit (suc n) v c used ≡ spent t
    unfolding reduce_from
    reduce-stop t q = rw (reduce_from, e, q)

  -- what holds of the outcome in each case holds of the outcome
  pub reduce_cases : (R : Reduced → Type 0)
      → (get_or c v none ≡ none → R (reduce_from p limit n (v + 1) c used))
      → ((x : ℕ) → get_or c v none ≡ some x → (f : List ℕ) (t : ℕ) → test p limit (set c v none) used ≡ consistent f t → R (reduce_from p limit n (v + 1) c t))
      → ((x : ℕ) → get_or c v none ≡ some x → (t : ℕ) → test p limit (set c v none) used ≡ inconsistent t → R (reduce_from p limit n (v + 1) (set c v none) t))
      → ((t : ℕ) → test p limit (set c v none) used ≡ Tested.spent t → R (spent t))
      → R (reduce_from p limit (suc n) v c used)
  reduce_cases R skip keep lose stop = at_value (get_or c v none) refl
    where
      at_outcome : (x : ℕ) → get_or c v none ≡ some x → (r : Tested) → test p limit (set c v none) used ≡ r → R (reduce_from p limit (suc n) v c used)
      at_outcome x e (consistent f t) q = rw (reduce-keep x e f t q) (keep x e f t q)
      at_outcome x e (inconsistent t) q = rw (reduce_lose x e t q) (lose x e t q)
      at_outcome x e (Tested.spent t) q = rw (reduce-stop x e t q) (stop t q)

      at_value : (o : Option ℕ) → get_or c v none ≡ o → R (reduce_from p limit (suc n) v c used)
      at_value none e = rw (reduce_skip e) (skip e)
      at_value (some x) e = at_outcome x e (test p limit (set c v none) used) refl

module _ (p : Plant) (limit : ℕ) (c : Assignment) where
  -- and so of a reduction called alone
  pub alone_cases : (R : ReducedAlone → Type 0) → ((f : List ℕ) (t : ℕ) → test p limit c 0 ≡ consistent f t → R (nothing t))
      → ((t : ℕ) → test p limit c 0 ≡ inconsistent t → R (reduced (reduce p limit c t)))
      → ((t : ℕ) → test p limit c 0 ≡ Tested.spent t → R (reduced (spent t))) → R (reduce_alone p limit c)
  unfolding reduce_alone
  alone_cases R whole less stop = go (test p limit c 0) refl
    where
      go : (r : Tested) → test p limit c 0 ≡ r → R (reduce_alone p limit c)
      go (consistent f t) q = rw (reduce_alone, q) (whole f t q)
      go (inconsistent t) q = rw (reduce_alone, q) (less t q)
      go (Tested.spent t) q = rw (reduce_alone, q) (stop t q)
