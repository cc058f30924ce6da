-- The test is right: unless spent it says consistent exactly where values of all variables make every clause hold, and those that it finds come first. Assumes nothing.
use mathlib.Core.Path.{◌≡◌, refl, sym, ◌∙◌}
use mathlib.Core.Logic.{◌⊎◌, inl, inr, ◌↔◌}
use mathlib.Core.Bool.{true, false, true≢false}
use mathlib.Core.Option.{none, some}
use mathlib.Core.List.{List}
use Prim.Native.Nat.{ℕ, zero, suc, ◌+◌, ◌≤◌, ◌<◌}
use native.Mathlib.Omega.{arith}
use native.Mathlib.Numerals.{add-one}
use native.Mathlib.Decide.{ℕ_discrete, dec_lt}
use lib.ListN.{length, get_or, set, length-set}
use lib.Seq.{get_or-set_same}
use Rattle.model.specs.Lists.{All}
use Rattle.model.specs.Sheet.{Literal, Plant, Edition, decision_sizes, sizes}
use Rattle.model.specs.Assignment.{Assignment, Fits, Valid, Agree, full}
use Rattle.model.specs.Consistency.{Tested, consistent, inconsistent, spent, or_else, all_hold, any_false, try_values, explore, test, over_all, Satisfies, Consistent}
use Rattle.theory.specs.Digits.{Lex}
use Rattle.theory.specs.BestFirst.{Weak}
use Rattle.theory.specs.Plant.{Accepted}
use Rattle.theory.specs.Consistency.{VariablesPresent}
use Rattle.theory.proofs.Lists.{all_map}
use Rattle.theory.specs.Nodes.{Filled}
use Rattle.theory.proofs.Agreement.{fits_length, valid_length, fits-at, agree_at, agree-set, agree-unset, valid-set, valid-over, values-full, full-agree, full-only, full-valid, filled_more, filled-set, filled-all, lex_at}
use Rattle.theory.proofs.TestClauses.{false_stays, clear-holds}
use Rattle.theory.proofs.TestSteps.{assigned?, either, attempt, attempt-false, attempt-deeper, turn, turn-spent, hop_try, hop_skip, test-false, test-explore}

-- ---- what an outcome says of the solutions

-- where S are the solutions: what was found is the first of them, and where the outcome is inconsistent there is none
abbrev Verdict : (List ℕ → Type 0) → Tested → Type 0
Verdict S (consistent f t) = S f × ((g : List ℕ) → S g → Weak Lex f g)
Verdict S (inconsistent t) = (g : List ℕ) → S g → ⊥
Verdict S (spent t) = Unit {0}

-- it says as much of the same solutions in other words
verdict_same : (S R : List ℕ → Type 0) → ((f : List ℕ) → S f → R f) → ((f : List ℕ) → R f → S f) → (r : Tested) → Verdict S r → Verdict R r
verdict_same S R to from (consistent f t) h = (to f h.0, λ g s. h.1 g (from g s))
verdict_same S R to from (inconsistent t) h = λ g s. h g (from g s)
verdict_same S R to from (spent t) h = tt

-- two attempts, the solutions of the first before those of the second, make one
verdict_or : (S R Q : List ℕ → Type 0) → ((f : List ℕ) → S f → Q f) → ((f : List ℕ) → R f → Q f) → ((f : List ℕ) → Q f → S f ⊎ R f)
    → ((f g : List ℕ) → S f → R g → Lex f g)
    → (r : Tested) (next : ℕ → Tested) → Verdict S r → ((t : ℕ) → Verdict R (next t)) → Verdict Q (or_else r next)
unfolding or_else
verdict_or S R Q one two split less (consistent f t) next h k = (one f h.0, λ g q. elim (split g q) [ inl s ↦ h.1 g s | inr s ↦ inr (less f g h.0 s) ])
verdict_or S R Q one two split less (inconsistent t) next h k =
    verdict_same R Q two (λ f q. elim (split f q) [ inl s ↦ absurd (h f s) | inr s ↦ s ]) (next t) (k t)
verdict_or S R Q one two split less (spent t) next h k = tt

-- ---- the search

module _ (cs : List (List Literal)) (ss : List ℕ) where
  -- the values f fit, extend the assignment and make every clause hold
  abbrev Solves : Assignment → List ℕ → Type 0
  Solves a f = Fits ss f × Agree f a × (all_hold f cs ≡ true)

  -- the same with one of the n values from x on at the variable v
  abbrev Spans : ℕ → Assignment → ℕ → ℕ → List ℕ → Type 0
  Spans v a n x f = Solves a f × (x ≤ get_or f v 0) × (get_or f v 0 < x + n)

  -- where a clause is false there is no solution
  unsolved : (a : Assignment) → any_false a cs ≡ true → (f : List ℕ) → Solves a f → ⊥
  unsolved a e f s = true≢false (sym s.2 ∙ false_stays f a s.1 cs e)

module _ (cs : List (List Literal)) (limit : ℕ) (ss : List ℕ) (present : All (All (λ l. l.variable < length ss)) cs) where
  -- a full assignment with no false clause is its own solution, and the only one
  solved : (f : List ℕ) → Valid ss (full f) → any_false (full f) cs ≡ false → (t : ℕ) → Verdict (Solves cs ss (full f)) (consistent f t)
  solved f h e t =
      let fits = (full-valid ss f).0 h in
      ((fits, full-agree f, clear-holds f cs (rw (fits_length ss f fits) present) e), λ g s. inl (sym (full-only f g s.1)))

  module _ (v : ℕ) (a : Assignment) (l : v < length a) (free : get_or a v none ≡ none) (filled : Filled v a)
      (deeper : ℕ → Assignment → Tested)
      (deeper-right : (x used : ℕ) → x < get_or ss v 0 → any_false (set a v (some x)) cs ≡ false → Verdict (Solves cs ss (set a v (some x))) (deeper used (set a v (some x)))) where
    -- a trial is right about the solutions with that value
    attempt-right : (x used : ℕ) → x < get_or ss v 0 → Verdict (Solves cs ss (set a v (some x))) (attempt cs limit deeper v a x used)
    attempt-right x used s = elim (either (any_false (set a v (some x)) cs)) [
      | inl e ↦ rw (attempt-false cs limit deeper v a x used e) (unsolved cs ss (set a v (some x)) e)
      | inr e ↦ rw (attempt-deeper cs limit deeper v a x used e) (deeper-right x (used + 1) s e)
    ]

    -- a solution with the value x set is one that takes the value x
    takes-set : (x : ℕ) (f : List ℕ) → Solves cs ss (set a v (some x)) f → get_or f v 0 ≡ x
    takes-set x f s = rw (get_or-set_same a v (some x) none l) at (agree_at f (set a v (some x)) v s.1)

    -- the values from x on are right about the solutions that have one of them
    tries_right : (n x used : ℕ) → x + n ≤ get_or ss v 0 → Verdict (Spans cs ss v a n x) (try_values cs limit deeper v a n x used)
    unfolding try_values
    tries_right zero x used h = λ f s. omega arith
    tries_right (suc n) x used h = go (tries_right n (x + 1)) (dec_lt used limit)
      where
        split : (f : List ℕ) → Spans cs ss v a (suc n) x f → Solves cs ss (set a v (some x)) f ⊎ Spans cs ss v a n (x + 1) f
        split f s = elim (ℕ_discrete (get_or f v 0) x) [
          | yes e ↦ inl (s.0.0, agree-set f a v (some x) s.0.1 e, s.0.2)
          | no d ↦ inr (s.0, omega arith, omega arith)
        ]

        here : (f : List ℕ) → Solves cs ss (set a v (some x)) f → Spans cs ss v a (suc n) x f
        here f s =
            let e = takes-set x f s in
            ((s.0, agree-unset f a v (some x) free s.1, s.2), omega arith, omega arith)

        go : ((used : ℕ) → x + 1 + n ≤ get_or ss v 0 → Verdict (Spans cs ss v a n (x + 1)) (try_values cs limit deeper v a n (x + 1) used)) → Dec (used < limit)
            → Verdict (Spans cs ss v a (suc n) x) (try_values cs limit deeper v a (suc n) x used)
        go ih (no d) = rw (turn-spent cs limit deeper v a n x used (omega arith)) tt
        go ih (yes d) =
            rw (turn cs limit deeper v a n x used d)
            (verdict_or (Solves cs ss (set a v (some x))) (Spans cs ss v a n (x + 1)) (Spans cs ss v a (suc n) x)
            here
            (λ f s. (s.0, omega arith, omega arith))
            split
            (λ f g s r. let e = takes-set x f s in lex_at v a f g l filled (here f s).0.1 r.0.1 (omega arith))
            (attempt cs limit deeper v a x used) (try_values cs limit deeper v a n (x + 1))
            (attempt-right x used (omega arith)) (λ t. ih t (omega arith)))

  -- the variables from v on are right about the solutions of the assignment
  explore-right : (n v used : ℕ) (a : Assignment) → v + n ≡ length a → Valid ss a → Filled v a → any_false a cs ≡ false
      → Verdict (Solves cs ss a) (explore cs limit ss n v used a)
  unfolding explore
  explore-right zero v used a e valid filled clear =
      let d : v ≡ length a = omega arith in
      go (filled-all a (rw d at filled))
    where
      go : (f : List ℕ) × (a ≡ full f) → Verdict (Solves cs ss a) (explore cs limit ss 0 v used a)
      go r = rw (r.1, values-full r.0) (solved r.0 (rw r.1 at valid) (rw r.1 at clear) used)
  explore-right (suc n) v used a e valid filled clear = go (explore-right n (v + 1)) (assigned? (get_or a v none))
    where
      l : v < length a
      l = omega arith

      go : ((used : ℕ) (a : Assignment) → v + 1 + n ≡ length a → Valid ss a → Filled (v + 1) a → any_false a cs ≡ false → Verdict (Solves cs ss a) (explore cs limit ss n (v + 1) used a))
          → (get_or a v none ≡ none) ⊎ ((x : ℕ) × (get_or a v none ≡ some x)) → Verdict (Solves cs ss a) (explore cs limit ss (suc n) v used a)
      go ih (inr s) = rw (hop_skip cs limit ss n v used a s.0 s.1) (ih used a (omega arith) valid (rw add-one (filled_more v a s.0 s.1 filled)) clear)
      go ih (inl free) =
          rw (hop_try cs limit ss n v used a free)
          (verdict_same (Spans cs ss v a (get_or ss v 0) 0) (Solves cs ss a) (λ f s. s.0)
          (λ f s. (s, omega arith, omega (arith, fits-at ss f v s.0 (omega (arith, valid_length ss a valid)))))
          (try_values cs limit (explore cs limit ss n (v + 1)) v a (get_or ss v 0) 0 used)
          (tries_right v a l free filled (explore cs limit ss n (v + 1)) deeper-right (get_or ss v 0) 0 used (omega arith)))
        where
          deeper-right : (x used : ℕ) → x < get_or ss v 0 → any_false (set a v (some x)) cs ≡ false
              → Verdict (Solves cs ss (set a v (some x))) (explore cs limit ss n (v + 1) used (set a v (some x)))
          deeper-right x used s clear =
              ih used (set a v (some x)) (simp length-set (omega arith)) (valid-set ss a v (some x) valid s)
              (rw add-one (filled_more v (set a v (some x)) x (get_or-set_same a v (some x) none l) (filled-set v a (some x) filled))) clear

-- ---- the theorems

-- an accepted plant has the variables of its literals
pub accepted-present : (e : Edition) (p : Plant) → Accepted e p → VariablesPresent p
accepted-present e p h = all_map (λ c k. all_map (λ l n. n.variable) c k.1) p.clauses h.literals

module _ (p : Plant) (present : VariablesPresent p) (limit : ℕ) (a : Assignment) (valid : Valid (decision_sizes p) a) (used : ℕ) where
  -- the test is right about the values of all variables that satisfy the plant
  test-right : Verdict (Satisfies p a) (test p limit a used)
  test-right =
      verdict_same (Solves p.clauses (sizes p) (over_all p a)) (Satisfies p a)
      (λ f s. record { fits = s.0; extends = s.1; holds = s.2 }) (λ f s. (s.fits, s.extends, s.holds)) (test p limit a used)
      (elim (either (any_false (over_all p a) p.clauses)) [
        | inl e ↦ rw (test-false p limit a used e) (unsolved p.clauses (sizes p) (over_all p a) e)
        | inr e ↦ rw (test-explore p limit a used e)
            (let v = valid-over (decision_sizes p) p.states a valid in
            explore-right p.clauses limit (sizes p) present (length (sizes p)) 0 used (over_all p a) (omega (arith, valid_length (sizes p) (over_all p a) v)) v tt e)
      ])

  -- consistent: the values found are in their domains, extend the assignment and make every clause hold
  pub test-consistent : (f : List ℕ) (t : ℕ) → test p limit a used ≡ consistent f t → Satisfies p a f
  test-consistent f t e = let r : Verdict (Satisfies p a) (consistent f t) = rw e at test-right in r.0

  -- and they are the first that do, in lexicographic order, which is the order of the trials
  pub test-first : (f : List ℕ) (t : ℕ) → test p limit a used ≡ consistent f t → (g : List ℕ) → Satisfies p a g → Weak Lex f g
  test-first f t e = let r : Verdict (Satisfies p a) (consistent f t) = rw e at test-right in r.1

  -- inconsistent: no values do
  pub test-inconsistent : (t : ℕ) → test p limit a used ≡ inconsistent t → Consistent p a → ⊥
  test-inconsistent t e c = let r : Verdict (Satisfies p a) (inconsistent t) = rw e at test-right in r c.0 c.1

  -- unless it is spent, the test says consistent exactly where the assignment is
  pub test_exactly : ((t : ℕ) → test p limit a used ≡ spent t → ⊥) → ((f : List ℕ) × (t : ℕ) × (test p limit a used ≡ consistent f t)) ↔ Consistent p a
  test_exactly alive = ((λ h. (h.0, test-consistent h.0 h.1 h.2)), λ c. go c (test p limit a used) refl)
    where
      go : Consistent p a → (r : Tested) → test p limit a used ≡ r → (f : List ℕ) × (t : ℕ) × (test p limit a used ≡ consistent f t)
      go c (consistent f t) e = (f, t, e)
      go c (inconsistent t) e = absurd (test-inconsistent t e c)
      go c (spent t) e = absurd (alive t e)
