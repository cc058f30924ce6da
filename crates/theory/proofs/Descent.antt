-- Each descent of the test leaves one variable fewer to set. Assumes nothing.
use mathlib.Core.Path.{◌≡◌, refl, ◌∙◌}
use mathlib.Core.Logic.{inl, inr}
use mathlib.Core.Option.{none, some}
use mathlib.Core.List.{List, [], ◌∷◌}
use Prim.Native.Nat.{ℕ, zero, suc, ◌+◌, ◌<◌}
use native.Mathlib.Omega.{arith}
use native.Mathlib.Decide.{dec_lt}
use lib.ListN.{length, get_or, set}
use Rattle.model.specs.Sheet.{Literal}
use Rattle.model.specs.Assignment.{Assignment}
use Rattle.model.specs.Consistency.{Tested, consistent, inconsistent, spent, or_else, any_false, try_values, explore}
use Rattle.theory.specs.Nodes.{Filled, unset, HandedDown}
use Rattle.theory.proofs.Search.{filled_next}
use Rattle.theory.proofs.TestSteps.{either, attempt, attempt-false, attempt-deeper, turn, turn-spent, hop_try}

-- where a variable that has no value is given one, one fewer is left to set
pub unset_set : (a : Assignment) (v x : ℕ) → v < length a → get_or a v none ≡ none → unset (set a v (some x)) + 1 ≡ unset a
unset_set [] v x h e = absurd (omega arith)
unset_set (none ∷ a) zero x h e = omega arith
unset_set (some y ∷ a) zero x h e = let z : ◌≡◌ {A = ℕ} 0 1 = cc in absurd (omega arith)
unset_set (none ∷ a) (suc v) x h e = omega (arith, unset_set a v x (omega arith) e)
unset_set (some y ∷ a) (suc v) x h e = unset_set a v x (omega arith) e

-- two attempts, where the second goes on alike
or_same : (r : Tested) (next next' : ℕ → Tested) → ((t : ℕ) → next t ≡ next' t) → or_else r next ≡ or_else r next'
unfolding or_else
or_same (consistent f t) next next' same = refl
or_same (inconsistent t) next next' same = same t
or_same (spent t) next next' same = refl

module _ (cs : List (List Literal)) (limit : ℕ) (v : ℕ) (a : Assignment) (below : v < length a) (filled : Filled v a) (free : get_or a v none ≡ none) where
  -- what is handed down at the unassigned variable v
  handed : (x : ℕ) → HandedDown v a (set a v (some x))
  handed x = record { fewer = unset_set a v x below free; filled = filled_next a v x below free filled }

  module _ (deeper deeper' : ℕ → Assignment → Tested) (same : (used : ℕ) (b : Assignment) → HandedDown v a b → deeper used b ≡ deeper' used b) where
    -- a trial asks nothing else of the search deeper
    attempt_descends : (x used : ℕ) → attempt cs limit deeper v a x used ≡ attempt cs limit deeper' v a x used
    attempt_descends x used = elim (either (any_false (set a v (some x)) cs)) [
      | inl e ↦ rw (attempt-false cs limit deeper v a x used e, attempt-false cs limit deeper' v a x used e)
      | inr e ↦ rw (attempt-deeper cs limit deeper v a x used e, attempt-deeper cs limit deeper' v a x used e) (same (used + 1) (set a v (some x)) (handed x))
    ]

    -- nor do the values of v in turn
    tries_descend : (n x used : ℕ) → try_values cs limit deeper v a n x used ≡ try_values cs limit deeper' v a n x used
    unfolding try_values
    tries_descend zero x used = refl
    tries_descend (suc n) x used = go (tries_descend n (x + 1)) (dec_lt used limit)
      where
        go : ((t : ℕ) → try_values cs limit deeper v a n (x + 1) t ≡ try_values cs limit deeper' v a n (x + 1) t) → Dec (used < limit)
            → try_values cs limit deeper v a (suc n) x used ≡ try_values cs limit deeper' v a (suc n) x used
        go ih (no d) = rw (turn-spent cs limit deeper v a n x used (omega arith), turn-spent cs limit deeper' v a n x used (omega arith))
        go ih (yes d) = rw (turn cs limit deeper v a n x used d, turn cs limit deeper' v a n x used d, attempt_descends x used) (or_same _ _ _ ih)

  -- the search at v is made of what it finds deeper for assignments with one variable fewer to set, and of nothing else
  pub explore_descends : (ss : List ℕ) (n used : ℕ) (deeper : ℕ → Assignment → Tested) → ((t : ℕ) (b : Assignment) → HandedDown v a b → explore cs limit ss n (v + 1) t b ≡ deeper t b)
      → explore cs limit ss (suc n) v used a ≡ try_values cs limit deeper v a (get_or ss v 0) 0 used
  explore_descends ss n used deeper same = hop_try cs limit ss n v used a free ∙ tries_descend (explore cs limit ss n (v + 1)) deeper same (get_or ss v 0) 0 used
