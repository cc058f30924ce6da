-- Specification, "Conflict": conflicts, the reduction, manifests and resolves. Assumes nothing: these are definitions.
use Rattle.std.specs.Prelude.{◌≡◌, Bool, true, false, not, ◌&&◌, ◌||◌, [], ◌∷◌, ℕ, zero, suc, ◌+◌, ◌<◌, eqb, length, get_or, set}
use Rattle.std.proofs.Math.Option.{Option, none, some}
use Rattle.model.specs.Sheet.{Plant, decision_sizes}
use Rattle.model.specs.Assignment.{Assignment, Valid, is_some}
use Rattle.model.specs.Consistency.{Consistent, Tested, consistent, inconsistent, test}

-- ---- the meaning

-- a conflict is an inconsistent assignment to decision variables (Williams and Ragno, Definition 2)
pub record Conflict (p : Plant) (c : Assignment) : Type 0 where
  pub valid : Valid (decision_sizes p) c
  pub inconsistent : Consistent p c → ⊥

-- a minimal conflict: it is consistent without any one member
pub record Minimal (p : Plant) (c : Assignment) : Type 0 where
  pub conflict : Conflict p c
  pub needed : (v : ℕ) → v < length c → is_some (get_or c v none) ≡ true → Consistent p (set c v none)

-- the variable has the conflict's value, if that has one
abbrev pub contains : Option ℕ → Option ℕ → Bool
contains o none = true
contains none (some y) = false
contains (some x) (some y) = eqb x y

-- a node manifests a conflict if it contains it
abbrev pub manifests : Assignment → Assignment → Bool
manifests [] c = true
manifests (o ∷ n) [] = true
manifests (o ∷ n) (d ∷ c) = contains o d && manifests n c

-- the variable has another value than the conflict's
abbrev pub differs : Option ℕ → Option ℕ → Bool
differs none d = false
differs (some x) none = false
differs (some x) (some y) = not (eqb x y)

-- a node resolves a conflict if it gives a member another value
abbrev pub resolves : Assignment → Assignment → Bool
resolves [] c = false
resolves (o ∷ n) [] = false
resolves (o ∷ n) (d ∷ c) = differs o d || resolves n c

-- ---- the reduction

-- how a reduction ends, with the trials made so far: the conflict, or 'spent' with none
pub data Reduced : Type 0 where
  conflict : Assignment → ℕ → Reduced
  spent : ℕ → Reduced

-- how it ends when called alone: 'none' where the whole is consistent
pub data ReducedAlone : Type 0 where
  nothing : ℕ → ReducedAlone
  reduced : Reduced → ReducedAlone

module _ (p : Plant) (limit : ℕ) where
  -- for each of the n variables from v on that is assigned, test the rest without it; if inconsistent, it is gone for good
  unfoldable pub reduce_from : ℕ → ℕ → Assignment → ℕ → Reduced
  reduce_from zero v c used = conflict c used
  reduce_from (suc n) v c used =
      elim (get_or c v none) [
        | none ↦ reduce_from n (v + 1) c used
        | some x ↦ elim (test p limit (set c v none) used) [
          | consistent f t ↦ reduce_from n (v + 1) c t
          | inconsistent t ↦ reduce_from n (v + 1) (set c v none) t
          | Tested.spent t ↦ spent t
        ]
      ]

  -- within a listing: the whole is not tested again
  unfoldable pub reduce : Assignment → ℕ → Reduced
  reduce c used = reduce_from (length c) 0 c used

  -- called alone: first the whole is tested
  unfoldable pub reduce_alone : Assignment → ReducedAlone
  reduce_alone c =
      elim (test p limit c 0) [
        | consistent f t ↦ nothing t
        | inconsistent t ↦ reduced (reduce c t)
        | Tested.spent t ↦ reduced (spent t)
      ]
