-- The test, one step at a time: an equation for each way that a step goes. Assumes nothing.
use mathlib.Core.Path.{◌≡◌, refl}
use mathlib.Core.Logic.{◌⊎◌, inl, inr}
use mathlib.Core.Bool.{Bool, true, false}
use mathlib.Core.Option.{Option, none, some}
use mathlib.Core.List.{List}
use Prim.Native.Nat.{ℕ, suc, ◌+◌, ◌≤◌, ◌<◌}
use borrow.Author.Tests.{lt-ltb, le-ltb}
use lib.ListN.{length, get_or, set}
use Rattle.model.specs.Sheet.{Literal, Plant, sizes}
use Rattle.model.specs.Assignment.{Assignment}
use Rattle.model.specs.Consistency.{Tested, inconsistent, spent, or_else, any_false, try_values, explore, test, over_all}

-- a variable is unassigned, or it has a value
pub assigned? : (o : Option ℕ) → (o ≡ none) ⊎ ((x : ℕ) × (o ≡ some x))
assigned? none = inl refl
assigned? (some x) = inr (x, refl)

-- a test passes or fails
pub either : (b : Bool) → (b ≡ true) ⊎ (b ≡ false)
either true = inl refl
either false = inr refl

module _ (cs : List (List Literal)) (limit : ℕ) where
  module _ (deeper : ℕ → Assignment → Tested) (v : ℕ) (a : Assignment) where
    -- one trial: the variable v is given the value x
    unfoldable pub attempt : ℕ → ℕ → Tested
    attempt x used = elim (any_false (set a v (some x)) cs) [ true ↦ inconsistent (used + 1) | false ↦ deeper (used + 1) (set a v (some x)) ]

    -- it makes a clause false
    pub attempt-false : (x used : ℕ) → any_false (set a v (some x)) cs ≡ true → attempt x used ≡ inconsistent (used + 1)
    unfolding attempt
    attempt-false x used e = rw (attempt, e)

    -- or the search goes deeper
    pub attempt-deeper : (x used : ℕ) → any_false (set a v (some x)) cs ≡ false → attempt x used ≡ deeper (used + 1) (set a v (some x))
    unfolding attempt
    attempt-deeper x used e = rw (attempt, e)

    -- with trials left, a value is tried, and where that is inconsistent the values after it
    pub turn : (n x used : ℕ) → used < limit
        → try_values cs limit deeper v a (suc n) x used ≡ or_else (attempt x used) (try_values cs limit deeper v a n (x + 1))
    unfolding attempt try_values
    turn n x used l = rw (try_values, lt-ltb used limit l)

    -- with no trial left, the test is spent
    pub turn-spent : (n x used : ℕ) → limit ≤ used → try_values cs limit deeper v a (suc n) x used ≡ spent used
    unfolding try_values
    turn-spent n x used l = rw (try_values, le-ltb used limit l)

  module _ (ss : List ℕ) (n v used : ℕ) (a : Assignment) where
    -- an unassigned variable is given its values in turn
    pub hop_try : get_or a v none ≡ none → explore cs limit ss (suc n) v used a ≡ try_values cs limit (explore cs limit ss n (v + 1)) v a (get_or ss v 0) 0 used
    unfolding explore
    hop_try e = rw (explore, e)

    -- an assigned one is passed over
    pub hop_skip : (x : ℕ) → get_or a v none ≡ some x → explore cs limit ss (suc n) v used a ≡ explore cs limit ss n (v + 1) used a
    unfolding explore
    hop_skip x e = rw (explore, e)

module _ (p : Plant) (limit : ℕ) (a : Assignment) (used : ℕ) where
  -- where a clause is false at once, no trial is made
  pub test-false : any_false (over_all p a) p.clauses ≡ true → test p limit a used ≡ inconsistent used
  unfolding test
  test-false e = rw (test, e)

  -- else all variables are gone through
  pub test-explore : any_false (over_all p a) p.clauses ≡ false
      → test p limit a used ≡ explore p.clauses limit (sizes p) (length (sizes p)) 0 used (over_all p a)
  unfolding test
  test-explore e = rw (test, e)
