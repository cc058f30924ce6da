-- The export of the reduction, from the answer of the reduce call. Assumes nothing.
use mathlib.Core.Path.{◌≡◌, refl, ◌∙◌}
use mathlib.Core.Bool.{true, false, ◌||◌}
use mathlib.Core.List.{List, [], ◌∷◌}
use Prim.Native.Nat.{ℕ, ◌≤◌}
use native.Mathlib.Omega.{arith}
use borrow.Author.Tests.{ltb-false}
use lib.Dec.{ltb}
use lib.ListN.{length}
use Rattle.model.specs.Lists.{filled}
use Rattle.model.specs.Conflict.{Reduced, ReducedAlone, nothing, reduced}
use Rattle.model.specs.Calls.{Answered, refused, answered, refusal_number, entry_words, reduce_call, reduce_written, reduce_export}
use Rattle.theory.proofs.Lists.{or_neither}
use Rattle.std.specs.Prelude.{Result, Ok, Err}
use Rattle.refusal.specs.declared.Refusal.{Refusal as Whose}
use Rattle.conflict_call.specs.declared.Reduction.{Reduction}
use Rattle.conflict_call.specs.Calls.{on_answer, Worded, worded, reduce_of, ReduceRight}
use Rattle.conflict_call.proofs.Asking.{reduce-refusal}
use Rattle.export.specs.Exports.{ReduceTells}

-- what is returned and written, from an answer with its conflict by its words
abbrev pub written : List ℕ → List ℕ → Answered Worded → ℕ × List ℕ × List ℕ
written conflict result (refused r) = (refusal_number r, conflict, result)
written conflict result (answered (Worded.nothing t)) = (0, conflict, filled (1 ∷ t ∷ []) result)
written conflict result (answered (Worded.conflict m x t)) = (0, filled (m ∷ x ∷ []) conflict, filled (2 ∷ t ∷ []) result)
written conflict result (answered (Worded.spent t)) = (0, conflict, filled (3 ∷ t ∷ []) result)

by-words : (conflict result : List ℕ) (x : Answered ReducedAlone) → reduce_written conflict result x ≡ written conflict result (on_answer worded x)
unfolding entry_words
by-words conflict result (refused r) = refl
by-words conflict result (answered (nothing t)) = refl
by-words conflict result (answered (reduced (Reduced.conflict c t))) = refl
by-words conflict result (answered (reduced (Reduced.spent t))) = refl

module _ (sheet : List ℕ) (mask values limit : ℕ) (conflict result : List ℕ) where
  pub reduce-short : (ltb (length conflict) 2 || ltb (length result) 2) ≡ true → (reduce_export sheet mask values limit conflict result ≡ (2, conflict, result)) × ReduceTells sheet mask values 2 conflict result
  unfolding reduce_export
  reduce-short h = (rw (reduce_export, h), record { consistent = λ e. absurd (omega arith); inconsistent = λ e. absurd (omega arith); minimal = λ e. absurd (omega arith) })

  module _ (h : (ltb (length conflict) 2 || ltb (length result) 2) ≡ false) where
    pub conflict-long : 2 ≤ length conflict
    conflict-long = ltb-false _ _ (or_neither (ltb (length conflict) 2) (ltb (length result) 2) h).0

    pub result-long : 2 ≤ length result
    result-long = ltb-false _ _ (or_neither (ltb (length conflict) 2) (ltb (length result) 2) h).1

    long : reduce_export sheet mask values limit conflict result ≡ written conflict result (on_answer worded (reduce_call sheet mask values limit))
    unfolding reduce_export
    long = rw (reduce_export, h, ← by-words conflict result (reduce_call sheet mask values limit))

    -- what is returned and written for the answer q, and that it is the truth
    tells : (q : Result Reduction Whose) → reduce_of q ≡ on_answer worded (reduce_call sheet mask values limit) → ReduceRight sheet mask values q
        → ReduceTells sheet mask values (written conflict result (reduce_of q)).0 (written conflict result (reduce_of q)).1 (written conflict result (reduce_of q)).2
    tells (Err r) e right = record {
      consistent = λ z _ p end h. absurd (reduce-refusal sheet mask values limit r e p end h z);
      inconsistent = λ z _ p end h. absurd (reduce-refusal sheet mask values limit r e p end h z);
      minimal = λ z _ p end h. absurd (reduce-refusal sheet mask values limit r e p end h z);
    }
    tells (Ok (Reduction.None t)) e right = record { consistent = λ _ _. right; inconsistent = λ _ w. absurd (omega (arith, w)); minimal = λ _ w. absurd (omega (arith, w)) }
    tells (Ok (Reduction.Conflict m x t)) e right = record {
      consistent = λ _ w. absurd (omega (arith, w));
      inconsistent = λ _ _ p end h. (right p end h).0;
      minimal = λ _ _ p end h. (right p end h).1;
    }
    tells (Ok (Reduction.Spent t)) e right = record { consistent = λ _ w. absurd (omega (arith, w)); inconsistent = λ _ w. absurd (omega (arith, w)); minimal = λ _ w. absurd (omega (arith, w)) }

    pub reduce-exported : (r : Result Reduction Whose) → reduce_of r ≡ on_answer worded (reduce_call sheet mask values limit) → ReduceRight sheet mask values r → (q : Result Reduction Whose) → r ≡ q
        → {n : ℕ} {found after : List ℕ} → n ≡ (written conflict result (reduce_of q)).0 → found ≡ (written conflict result (reduce_of q)).1 → after ≡ (written conflict result (reduce_of q)).2
        → (reduce_export sheet mask values limit conflict result ≡ (n, found, after)) × ReduceTells sheet mask values n found after
    reduce-exported r e right q f {n} {found} {after} g i k =
        let e : reduce_of q ≡ on_answer worded (reduce_call sheet mask values limit) = rw f at e in
        let right : ReduceRight sheet mask values q = rw f at right in
        (long ∙ rw (← e, g, i, k), rw (g, i, k) (tells q e right))
