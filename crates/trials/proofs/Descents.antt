-- Each descent of the two searches leaves one variable fewer to set. Assumes nothing.
use mathlib.Core.Path.{◌≡◌, ◌∙◌}
use mathlib.Core.Option.{none}
use mathlib.Core.List.{List, ◌∷◌, map}
use Prim.Native.Nat.{ℕ, zero, suc, ◌+◌, ◌-◌, ◌≤◌, ◌<◌}
use native.Mathlib.Omega.{arith}
use native.Mathlib.Numerals.{add-one}
use lib.ListN.{length, get_or, set, drop, drop_of_length-le}
use lib.Seq.{drop-cons}
use Rattle.theory.specs.Nodes.{unset}
use Rattle.theory.proofs.Descent.{unset_set}
use Rattle.clauses.specs.Bytes.{given}
use Rattle.clauses.specs.Numbers.{values, unassigned}
use Rattle.clauses.proofs.Bytes.{given-none, given_some, given-at}
use Rattle.trials.specs.Searches.{NextFree, unset_from}
use Rattle.trials.proofs.Bytes.{given_length, given-set}

module _ (vals : List ℕ) where
  module _ (v : ℕ) (below : v < length vals) where
    -- the variable v and those after it
    parted : drop v (map given vals) ≡ given (get_or vals v 0) ∷ drop (v + 1) (map given vals)
    parted = rw (add-one v, ← given-at vals v below) (drop-cons (map given vals) v none (omega (arith, given_length vals)))

    -- an unassigned one counts, an assigned one does not
    counts : get_or vals v 0 ≡ unassigned → unset_from vals (v + 1) + 1 ≡ unset_from vals v
    counts e = rw (parted, given-none (get_or vals v 0) e)

    passes : (get_or vals v 0 ≡ unassigned → ⊥) → unset_from vals (v + 1) ≡ unset_from vals v
    passes d = rw (parted, given_some (get_or vals v 0) d)

  -- nor do several assigned ones
  passes-all : (n v : ℕ) → v + n ≤ length vals → ((u : ℕ) → v ≤ u → u < v + n → get_or vals u 0 ≡ unassigned → ⊥) → unset_from vals (v + n) ≡ unset_from vals v
  passes-all zero v h d = let e : v + 0 ≡ v = omega arith in rw e
  passes-all (suc n) v h d =
      let e : v + suc n ≡ v + 1 + n = omega arith in
      rw e (passes-all n (v + 1) (omega arith) (λ u a b. d u (omega arith) (omega arith))) ∙ passes v (omega arith) (d v (omega arith) (omega arith))

  -- behind the last one none is left
  pub none_after : (v : ℕ) → length vals ≤ v → unset_from vals v ≡ 0
  none_after v h = rw (drop_of_length-le (map given vals) {i = v} (omega (arith, given_length vals)))

  -- from an unassigned variable v to the next one u, as along the plan: of those from u on one fewer is left to set
  pub fewer : (v u : ℕ) → NextFree vals (v + 1) u → get_or vals v 0 ≡ unassigned → unset_from vals u + 1 ≡ unset_from vals v
  fewer v u next e =
      let is : v + 1 + (u - (v + 1)) ≡ u = omega (arith, next.after) in
      let same = passes-all (u - (v + 1)) (v + 1) (omega (arith, next.upto, next.after)) (λ w a b. next.assigned w a (omega arith)) in
      omega (arith, counts v (omega (arith, next.after, next.upto)) e, rw is at same)

  -- with a value written at an unassigned variable, as in the bytes: of all one fewer is left to set
  pub fewer-set : (v x : ℕ) → v < length vals → get_or vals v 0 ≡ unassigned → x < values → unset (map given (set vals v x)) + 1 ≡ unset (map given vals)
  fewer-set v x h e l = rw (given-set vals v x, given_some x (λ q. omega arith)) (unset_set (map given vals) v x (omega (arith, given_length vals)) (given-at vals v h ∙ given-none (get_or vals v 0) e))
