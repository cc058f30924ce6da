-- The reduction is right: what comes out is a minimal conflict contained in what went in, with its trials counted. Assumes nothing.
use mathlib.Core.Path.{◌≡◌, refl, sym, ◌∙◌}
use mathlib.Core.Logic.{◌≢◌, ◌↔◌}
use mathlib.Core.Bool.{true, false≢true}
use mathlib.Core.Option.{none}
use Prim.Native.Nat.{ℕ, zero, suc, ◌+◌, ◌≤◌, ◌<◌}
use native.Mathlib.Omega.{arith}
use native.Mathlib.Decide.{ℕ_discrete}
use lib.ListN.{length, get_or, set, length-set}
use lib.Seq.{get_or-set_same, get_or-set_other, set_comm}
use Rattle.model.specs.Sheet.{Plant, decision_sizes}
use Rattle.model.specs.Assignment.{Assignment, Valid, is_some}
use Rattle.model.specs.Consistency.{Tested, consistent, inconsistent, test, Consistent}
use Rattle.model.specs.Conflict.{Conflict, Minimal, manifests, Reduced, conflict, spent, ReducedAlone, nothing, reduced, reduce_from, reduce, reduce_alone}
use Rattle.theory.specs.Consistency.{VariablesPresent, trials_of, trials_of_alone, Counted, Alone}
use Rattle.theory.proofs.Agreement.{valid-set}
use Rattle.theory.proofs.Containment.{manifests_self, manifests-more, consistent-without}
use Rattle.theory.proofs.Test.{test-consistent, test-inconsistent}
use Rattle.theory.proofs.TestTrials.{counted-then, test-trials}
use Rattle.theory.proofs.ReductionSteps.{reduce_cases, alone_cases}
use Rattle.theory.proofs.ReductionTrials.{reduce-trials}

-- ---- minimal

-- a property of what comes out, if anything does
abbrev Out : (Assignment → Type 0) → Reduced → Type 0
Out S (conflict r t) = S r
Out S (spent t) = Unit {0}

-- what implies another property
out_map : (S Q : Assignment → Type 0) → ((r : Assignment) → S r → Q r) → (o : Reduced) → Out S o → Out Q o
out_map S Q h (conflict r t) s = h r s
out_map S Q h (spent t) s = tt

-- each member among the first v variables is needed: without it the rest is consistent
abbrev Needed : Plant → ℕ → Assignment → Type 0
Needed p v c = (i : ℕ) → i < v → is_some (get_or c i none) ≡ true → Consistent p (set c i none)

module _ (p : Plant) (v : ℕ) (c : Assignment) where
  -- and so is the next, if it is a member
  needed-more : Needed p v c → (is_some (get_or c v none) ≡ true → Consistent p (set c v none)) → Needed p (v + 1) c
  needed-more h k i l s = elim (ℕ_discrete i v) [ yes e ↦ rw e (k (rw e at s)) | no d ↦ h i (omega arith) s ]

  -- an unassigned variable is no member
  no_member : get_or c v none ≡ none → is_some (get_or c v none) ≡ true → Consistent p (set c v none)
  no_member e s = absurd (false≢true (rw e at s))

  -- what is needed stays needed when another member is gone
  needed-without : Needed p v c → Needed p v (set c v none)
  needed-without h i l s =
      let d : i ≢ v = omega arith in
      rw (set_comm c v i none none (λ e. d (sym e)))
      (consistent-without p (set c i none) v (h i l (rw (get_or-set_other c v i none none d) at s)))

module _ (p : Plant) (present : VariablesPresent p) (limit : ℕ) where
  -- the reduction from the variable v on, where the members before it are needed
  from-minimal : (n v : ℕ) (c : Assignment) (used : ℕ) → v + n ≡ length c → Conflict p c → Needed p v c → Out (Minimal p) (reduce_from p limit n v c used)
  unfolding reduce_from
  from-minimal zero v c used e k h = record { conflict = k; needed = λ i l. h i (omega arith) }
  from-minimal (suc n) v c used e k h = reduce_cases p limit n v c used (Out (Minimal p))
      (λ q. from-minimal n (v + 1) c used (omega arith) k (needed-more p v c h (no_member p v c q)))
      (λ x d f t q. from-minimal n (v + 1) c t (omega arith) k (needed-more p v c h (λ s. (f, test-consistent p present limit (set c v none) without used f t q))))
      (λ x d t q. from-minimal n (v + 1) (set c v none) t (simp length-set (omega arith))
      (record { valid = without; inconsistent = test-inconsistent p present limit (set c v none) without used t q })
      (needed-more p v (set c v none) (needed-without p v c h) (no_member p v (set c v none) (get_or-set_same c v none none (omega arith)))))
      (λ t q. tt)
    where
      without : Valid (decision_sizes p) (set c v none)
      without = valid-set (decision_sizes p) c v none k.valid tt

  -- what comes out of a conflict is a minimal conflict
  pub reduce-minimal : (c : Assignment) → Valid (decision_sizes p) c → (Consistent p c → ⊥) → (used : ℕ) (r : Assignment) (t : ℕ) → reduce p limit c used ≡ conflict r t → Minimal p r
  unfolding reduce
  reduce-minimal c valid h used r t e =
      let m : Out (Minimal p) (conflict r t) = rw e at (from-minimal (length c) 0 c used (omega arith) (record { valid = valid; inconsistent = h }) (λ i l s. absurd (omega arith))) in
      m

-- ---- contained

-- r is contained in c
abbrev Within : Assignment → Assignment → Type 0
Within c r = (length r ≡ length c) × (manifests c r ≡ true)

module _ (p : Plant) (limit : ℕ) where
  -- what is left of c from the variable v on is contained in c
  from_contained : (n v : ℕ) (c : Assignment) (used : ℕ) → Out (Within c) (reduce_from p limit n v c used)
  unfolding reduce_from
  from_contained zero v c used = (refl, manifests_self c)
  from_contained (suc n) v c used = reduce_cases p limit n v c used (Out (Within c))
      (λ q. from_contained n (v + 1) c used)
      (λ x d f t q. from_contained n (v + 1) c t)
      (λ x d t q. out_map (Within (set c v none)) (Within c) (λ r w. (w.0 ∙ length-set c v none, manifests-more c r v w.1))
      (reduce_from p limit n (v + 1) (set c v none) t) (from_contained n (v + 1) (set c v none) t))
      (λ t q. tt)

  -- what comes out is contained in what went in
  pub reduce_contained : (c : Assignment) (used : ℕ) (r : Assignment) (t : ℕ) → reduce p limit c used ≡ conflict r t → (length r ≡ length c) × (manifests c r ≡ true)
  unfolding reduce
  reduce_contained c used r t e = let w : Out (Within c) (conflict r t) = rw e at (from_contained (length c) 0 c used) in w

-- ---- called alone

module _ (p : Plant) (limit : ℕ) (c : Assignment) where
  -- the trials of the first test are counted, and those of the reduction after it
  alone_counted : Counted limit 0 (trials_of_alone (reduce_alone p limit c))
  alone_counted = alone_cases p limit c (λ o. Counted limit 0 (trials_of_alone o))
      (λ f t q. tested (consistent f t) q)
      (λ t q. counted-then (tested (inconsistent t) q) (reduce-trials p limit c t))
      (λ t q. tested (Tested.spent t) q)
    where
      tested : (r : Tested) → test p limit c 0 ≡ r → Counted limit 0 (trials_of r)
      tested r q = rw q at (test-trials p limit c 0)

  -- its trials never pass the limit
  pub reduce_alone_trials : trials_of_alone (reduce_alone p limit c) ≤ limit
  reduce_alone_trials = alone_counted.within (omega arith)

module _ (p : Plant) (present : VariablesPresent p) (limit : ℕ) (c : Assignment) (valid : Valid (decision_sizes p) c) where
  -- a reduction called alone is right about the assignment
  pub reduce_alone_lem : Alone p c (reduce_alone p limit c)
  reduce_alone_lem = alone_cases p limit c (Alone p c)
      (λ f t q. (f, test-consistent p present limit c valid 0 f t q))
      (λ t q. let h = test-inconsistent p present limit c valid 0 t q in go t h (reduce p limit c t) refl)
      (λ t q. tt)
    where
      go : (t : ℕ) → (Consistent p c → ⊥) → (o : Reduced) → reduce p limit c t ≡ o → Alone p c (reduced o)
      go t h (conflict r u) e = (h, reduce-minimal p present limit c valid h t r u e, (reduce_contained p limit c t r u e).0, (reduce_contained p limit c t r u e).1)
      go t h (spent u) e = tt

  -- unless it is spent, it says 'none' exactly where the assignment is consistent
  pub reduce_alone_exactly : ((t : ℕ) → reduce_alone p limit c ≡ reduced (spent t) → ⊥) → ((t : ℕ) × (reduce_alone p limit c ≡ nothing t)) ↔ Consistent p c
  reduce_alone_exactly alive = ((λ h. let r : Alone p c (nothing h.0) = rw h.1 at reduce_alone_lem in r), λ s. go s (reduce_alone p limit c) refl reduce_alone_lem)
    where
      go : Consistent p c → (o : ReducedAlone) → reduce_alone p limit c ≡ o → Alone p c o → (t : ℕ) × (reduce_alone p limit c ≡ nothing t)
      go s (nothing t) e h = (t, e)
      go s (reduced (conflict r t)) e h = absurd (h.0 s)
      go s (reduced (spent t)) e h = absurd (alive t e)
