-- The export of the test, from the answer of the test call. Assumes nothing.
use mathlib.Core.Path.{◌≡◌, refl, ◌∙◌}
use mathlib.Core.List.{List, [], ◌∷◌}
use Prim.Native.Nat.{ℕ, ◌≤◌, ◌<◌}
use native.Mathlib.Omega.{arith}
use borrow.Author.Tests.{lt-ltb, le-ltb}
use lib.ListN.{length, set}
use Rattle.model.specs.Lists.{filled}
use Rattle.model.specs.Consistency.{Tested, consistent, inconsistent}
use Rattle.model.specs.Calls.{refusal_number, Answered, refused, answered, test_call, test_words, test_written, test_export}
use Rattle.std.specs.Prelude.{Result, Ok, Err}
use Rattle.trials.specs.declared.Answer.{Answer as Ended}
use Rattle.refusal.specs.declared.Refusal.{Refusal as Whose}
use Rattle.conflict_call.specs.declared.TestShown.{TestShown}
use Rattle.conflict_call.specs.Calls.{on_answer, without_values, shown_in, test_of, TestRight}
use Rattle.conflict_call.proofs.Asking.{test-refusal}
use Rattle.export.specs.Exports.{TestTells}

-- two stores fill the first two places
pub two-written : (a b : ℕ) (l : List ℕ) → 2 ≤ length l → set (set l 0 a) 1 b ≡ filled (a ∷ b ∷ []) l
two-written a b [] h = absurd (omega arith)
two-written a b (x ∷ []) h = absurd (omega arith)
two-written a b (x ∷ y ∷ l) h = refl

-- what is written of a test, by its ending and by the bytes that it shows
abbrev written : (bytes shown result : List ℕ) → Answered Tested → ℕ × List ℕ × List ℕ
written bytes shown result (refused r) = (refusal_number r, shown, result)
written bytes shown result (answered e) = (0, bytes, filled (test_words e) result)

seen : (shown result : List ℕ) (x : Answered Tested) → test_written shown result x ≡ written (shown_in x) shown result (on_answer without_values x)
seen shown result (refused r) = refl
seen shown result (answered (consistent f t)) = refl
seen shown result (answered (inconsistent t)) = refl
seen shown result (answered (Tested.spent t)) = refl

module _ (sheet : List ℕ) (mask values limit : ℕ) (shown result : List ℕ) where
  pub test_short : length result < 2 → (test_export sheet mask values limit shown result ≡ (2, shown, result)) × TestTells sheet mask values 2 shown result
  unfolding test_export
  test_short h = (rw (test_export, lt-ltb (length result) 2 h), record { consistent = λ e. absurd (omega arith); inconsistent = λ e. absurd (omega arith) })

  long : 2 ≤ length result → test_export sheet mask values limit shown result ≡ test_written shown result (test_call sheet mask values limit)
  unfolding test_export
  long h = rw (test_export, le-ltb (length result) 2 h)

  -- what is returned and written for the answer q, and that it is the truth
  module _ (bytes : List ℕ) where
    abbrev left : Result Ended Whose → ℕ × List ℕ × List ℕ
    left q = written bytes shown result (test_of q)

    tells : (q : Result Ended Whose) → test_of q ≡ on_answer without_values (test_call sheet mask values limit) → TestRight sheet mask values (record { answer = q; values = bytes })
        → TestTells sheet mask values (left q).0 (left q).1 (left q).2
    tells (Err r) e right = record {
      consistent = λ z _ p end h. absurd (test-refusal sheet mask values limit r e p end h z);
      inconsistent = λ z _ p end h. absurd (test-refusal sheet mask values limit r e p end h z);
    }
    tells (Ok (Ended.Consistent t)) e right = record { consistent = λ _ _. right; inconsistent = λ _ w. absurd (omega (arith, w)) }
    tells (Ok (Ended.Inconsistent t)) e right = record { consistent = λ _ w. absurd (omega (arith, w)); inconsistent = λ _ _. right }
    tells (Ok (Ended.Spent t)) e right = record { consistent = λ _ w. absurd (omega (arith, w)); inconsistent = λ _ w. absurd (omega (arith, w)) }

  pub test-exported : 2 ≤ length result → (r : TestShown) → test_of r.answer ≡ on_answer without_values (test_call sheet mask values limit) → r.values ≡ shown_in (test_call sheet mask values limit)
      → TestRight sheet mask values r → (q : Result Ended Whose) → r.answer ≡ q
      → {n : ℕ} {shown' result' : List ℕ} → n ≡ (left r.values q).0 → shown' ≡ (left r.values q).1 → result' ≡ (left r.values q).2
      → (test_export sheet mask values limit shown result ≡ (n, shown', result')) × TestTells sheet mask values n shown' result'
  test-exported h r e b right q f {n} {shown'} {result'} g k l =
      let e : test_of q ≡ on_answer without_values (test_call sheet mask values limit) = rw f at e in
      let right : TestRight sheet mask values (record { answer = q; values = r.values }) = rw f at right in
      (long h ∙ seen shown result (test_call sheet mask values limit) ∙ rw (← e, ← b, g, k, l), rw (g, k, l) (tells r.values q e right))
