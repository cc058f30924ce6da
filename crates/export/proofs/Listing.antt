-- The export of the listing, from the answer of the call. Assumes nothing.
use mathlib.Core.Path.{◌≡◌, refl}
use mathlib.Core.Bool.{Bool, true, false}
use mathlib.Core.List.{List, [], ◌∷◌}
use mathlib.Core.Option.{some}
use Prim.Native.Nat.{ℕ, ◌≤◌}
use native.Mathlib.Omega.{arith}
use borrow.Author.Tests.{ltb-false}
use lib.Dec.{ltb}
use lib.ListN.{length, set}
use Rattle.model.specs.Lists.{filled}
use Rattle.model.specs.Sheet.{edition_of}
use Rattle.model.specs.Calls.{by_host, refused, Buffers, first_given, host_grounds, listing_with, Exported, exported_of, export_with, export_call, weights_export}
use Rattle.std.specs.Prelude.{Result, Ok}
use Rattle.refusal.specs.declared.Refusal.{Refusal}
use Rattle.listing.specs.declared.Ran.{Ran}
use Rattle.listing.specs.Listing.{answer_of, CalledAs}
use Rattle.listing_call.proofs.Refusing.{short-given}
use Rattle.listing_call.proofs.Answering.{kept}
use Rattle.export.specs.Exports.{exported, export_of, ExportKeeps}

-- six stores fill the first six places
pub six_written : (a b c d e f : ℕ) (l : List ℕ) → 6 ≤ length l → set (set (set (set (set (set l 0 a) 1 b) 2 c) 3 d) 4 e) 5 f ≡ filled (a ∷ b ∷ c ∷ d ∷ e ∷ f ∷ []) l
six_written a b c d e f (x1 ∷ x2 ∷ x3 ∷ x4 ∷ x5 ∷ x6 ∷ l) h = refl
six_written a b c d e f [] h = absurd (omega arith)
six_written a b c d e f (x1 ∷ []) h = absurd (omega arith)
six_written a b c d e f (x1 ∷ x2 ∷ []) h = absurd (omega arith)
six_written a b c d e f (x1 ∷ x2 ∷ x3 ∷ []) h = absurd (omega arith)
six_written a b c d e f (x1 ∷ x2 ∷ x3 ∷ x4 ∷ []) h = absurd (omega arith)
six_written a b c d e f (x1 ∷ x2 ∷ x3 ∷ x4 ∷ x5 ∷ []) h = absurd (omega arith)

module _ (w : Bool) (sheet : List ℕ) (k : ℕ) (b : Buffers) (held limit : ℕ) (result : List ℕ) {r : Result Ran Refusal} {after : Buffers} (h : CalledAs r after (listing_with (edition_of w) sheet k b held limit (ltb (length result) 6))) where
  -- a run is answered only where there are six result words
  pub ran-long : {run : Ran} → r ≡ Ok run → 6 ≤ length result
  unfolding listing_with
  ran-long {run} q = go (ltb (length result) 6) refl
    where
      given : (n : ℕ) × (first_given (host_grounds k b held true) ≡ some n)
      given = short-given k b held

      go : (short : Bool) → ltb (length result) 6 ≡ short → 6 ≤ length result
      go false f = ltb-false _ _ f
      go true f =
          let a : answer_of (Ok run) ≡ refused (by_host given.0) = rw (q, f, listing_with, given.1) at h.answer-is in
          let z : ◌≡◌ {A = ℕ} 0 1 = cc in
          absurd (omega arith)

  export_told : {returned : ℕ} {words : List ℕ} → exported_of result after (answer_of r) ≡ exported returned after words → export_with (edition_of w) sheet k b held limit result ≡ exported returned after words
  unfolding export_with
  export_told e = rw (← h.answer-is, ← h.after_is) e

  -- what the export returns and leaves is what the model's export does, and it keeps the promise
  pub export_answered : {returned : ℕ} {words : List ℕ} → exported_of result after (answer_of r) ≡ exported returned after words
      → (export_of w sheet k b held limit result ≡ exported returned after words) × ExportKeeps (edition_of w) sheet k b held limit result returned after words
  unfolding export_call weights_export
  export_answered {returned} {words} e =
      let f : export_with (edition_of w) sheet k b held limit result ≡ exported returned after words = export_told e in
      (exports w f, rw (← h.answer-is) (e, kept w sheet k b held limit (ltb (length result) 6) h))
    where
      exports : (u : Bool) {x : Exported} → export_with (edition_of u) sheet k b held limit result ≡ x → export_of u sheet k b held limit result ≡ x
      exports false f = f
      exports true f = f
