-- The whole list of full consistent assignments: it ascends in the order, has exactly those members, and is the only such list. Assumes nothing.
use mathlib.Core.Path.{◌≡◌}
use mathlib.Core.Logic.{◌↔◌, ◌≢◌}
use mathlib.Core.Bool.{true}
use mathlib.Core.List.{List, [], append-nil}
use Prim.Native.Nat.{ℕ}
use Rattle.model.specs.Lists.{Mem, All, Pairs, keep}
use Rattle.model.specs.Sheet.{Plant, decision_sizes}
use Rattle.model.specs.Assignment.{Fits, full}
use Rattle.model.specs.Order.{before, Order, Before, every, is_consistent, leading_states}
use Rattle.theory.specs.Order.{Lawful}
use Rattle.theory.proofs.Lists.{all_map, all-zip, all_keep, at-member, pairs_map, pairs-keep, pairs-zip, some_keep, kept}
use Rattle.theory.proofs.Every.{every-fits, every-all, every-apart}
use Rattle.theory.proofs.BestFirst.{unique}
use Rattle.theory.proofs.Order.{holds}
use Rattle.theory.proofs.Queue.{either_first, all_some, all_unsome, all-ascending}

-- the full consistent assignments, before they are sorted
abbrev unsorted : Plant → List (List ℕ)
unsorted p = keep (λ f. is_consistent p (full f)) (every (decision_sizes p))

-- they fit the domains
unsorted-fits : (p : Plant) → All (Fits (decision_sizes p)) (unsorted p)
unsorted-fits p = all_keep _ _ (every (decision_sizes p)) (every-fits (decision_sizes p))

module _ (p : Plant) (o : Order) where
  -- sorting neither adds
  sorted_from : (f : List ℕ) → Mem f (leading_states p o) → Mem f (unsorted p)
  unfolding leading_states
  sorted_from f m = rw append-nil at (all_unsome (before o) [] (λ g. f ≡ g) (unsorted p) m)

  -- nor loses any
  sorted_to : (f : List ℕ) → Mem f (unsorted p) → Mem f (leading_states p o)
  unfolding leading_states
  sorted_to f m = all_some (before o) [] (λ g. f ≡ g) (unsorted p) (rw append-nil m)

  -- each member is a full assignment within the domains, and consistent
  pub leading_sound : (f : List ℕ) → Mem f (leading_states p o) → Fits (decision_sizes p) f × (is_consistent p (full f) ≡ true)
  leading_sound f m = at-member (λ g. Fits (decision_sizes p) g × (is_consistent p (full g) ≡ true)) (unsorted p)
      (all-zip _ _ (unsorted p) (unsorted-fits p)
      (all_map (λ g t. (holds (is_consistent p (full g))).0 t) (unsorted p) (kept _ (every (decision_sizes p))))) f (sorted_from f m)

  -- each consistent full assignment within the domains is a member
  pub leading_complete : (f : List ℕ) → Fits (decision_sizes p) f → is_consistent p (full f) ≡ true → Mem f (leading_states p o)
  leading_complete f h c = sorted_to f (some_keep (λ g. f ≡ g) _ (λ g e. (holds (is_consistent p (full g))).1 (rw e at c)) (every (decision_sizes p)) (every-all (decision_sizes p) f h))

  module _ (l : Lawful (decision_sizes p) o) where
    -- each member comes before each later one, so none is there twice
    pub leading_ascending : Pairs (Before o) (leading_states p o)
    unfolding leading_states
    leading_ascending = all-ascending (before o) [] l.transitive (unsorted p)
        (rw append-nil (pairs_map (λ f g c. either_first (decision_sizes p) o l f g c.0 c.1 c.2) (unsorted p)
        (pairs-zip (Fits (decision_sizes p)) ◌≢◌ (unsorted p) (unsorted-fits p) (pairs-keep ◌≢◌ _ (every (decision_sizes p)) (every-apart (decision_sizes p)))))) tt

    -- no other list that ascends has exactly these members
    pub leading_only : (fs : List (List ℕ)) → Pairs (Before o) fs
        → ((f : List ℕ) → Mem f fs ↔ Fits (decision_sizes p) f × (is_consistent p (full f) ≡ true)) → fs ≡ leading_states p o
    leading_only fs a members = unique (Before o) l.irreflexive l.transitive fs (leading_states p o) a leading_ascending
        (λ f m. leading_complete f ((members f).0 m).0 ((members f).0 m).1) (λ f m. (members f).1 (leading_sound f m))
