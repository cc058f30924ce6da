-- Two cabins: any two calls of one edition's export on one sheet that returned 0, whatever else differs, never contradict each other. Assumes nothing.
use mathlib.Core.Path.{◌≡◌, refl, ap, ◌∙◌}
use mathlib.Core.Logic.{inl, inr}
use mathlib.Core.Bool.{Bool, false}
use mathlib.Core.List.{List}
use Prim.Native.Nat.{ℕ}
use native.Mathlib.Omega.{arith}
use lib.Dec.{ltb}
use lib.ListN.{length, get_or}
use Rattle.model.specs.Lists.{filled}
use Rattle.model.specs.Sheet.{Edition, edition_of}
use Rattle.model.specs.Listing.{Ending}
use Rattle.model.specs.Calls.{Refusal, by_host, by_author, refusal_number, refused, answered, Answer, Counts, ran, unfinished, Called, result_words, listing_with, Exported, exported_of}
use Rattle.theory.specs.Refusals.{RefusalNumber}
use Rattle.theory.specs.Demand3.{PromisedBy}
use Rattle.theory.specs.Shown.{ShownOn, SameValues}
use Rattle.theory.specs.TwoRuns.{ListOn, NoContradiction}
use Rattle.theory.proofs.Refusals.{listing-refusal}
use Rattle.theory.proofs.Corollaries.{no_contradiction, promised-list, same-values, promised-values}
use Rattle.export.specs.Exports.{exported}
use Rattle.export.specs.TwoExports.{CallOf, ExportCall, listed, list_of}

-- no refusal has the number 0
numbered : (e : Edition) (r : Refusal) → RefusalNumber e r → refusal_number r ≡ 0 → ⊥
numbered e (by_host n) (inl h) z = omega (arith, h.0)
numbered e (by_host n) (inr h) z = omega (arith, h)
numbered e (by_author n) (inl h) z = omega (arith, h.0)
numbered e (by_author n) (inr h) z = omega (arith, h.1)

-- a call that returned 0 is a run that keeps the promise, with as many states listed as result word 1 says
record Ran {w : Bool} {sheet : List ℕ} (c : CallOf w sheet) : Type 0 where
  ending : Ending
  counts : Counts
  struck : Bool
  promise : PromisedBy (edition_of w) sheet c.k c.before c.held c.limit (answered (ran ending counts)) c.after struck
  count : counts.listed ≡ listed c

module _ (w : Bool) {sheet : List ℕ} where
  export_ran : (c : CallOf w sheet) → Ran c
  unfolding exported_of
  export_ran c = go called.answer refl
    where
      called : Called
      called = listing_with (edition_of w) sheet c.k c.before c.held c.limit (ltb (length c.result) 6)

      told : exported_of c.result c.after called.answer ≡ exported c.returned c.after c.words
      told = c.ensures.1.0

      promise : PromisedBy (edition_of w) sheet c.k c.before c.held c.limit called.answer c.after called.struck
      promise = c.ensures.1.1

      go : (a : Answer) → called.answer ≡ a → Ran c
      go (refused r) e =
          let number : refusal_number r ≡ c.returned = ap (λ (x : Exported). x.returned) (rw e at told) in
          absurd (numbered (edition_of w) r (listing-refusal (edition_of w) sheet c.k c.before c.held c.limit (ltb (length c.result) 6) r e) (number ∙ c.accepted))
      go (answered unfinished) e = absurd (rw e at promise)
      go (answered (ran f n)) e =
          let words : filled (result_words f n) c.result ≡ c.words = ap (λ (x : Exported). x.result) (rw e at told) in
          record { ending = f; counts = n; struck = called.struck; promise = rw e at promise; count = ap (λ (l : List ℕ). get_or l 1 0) words }

  -- the list of a call that returned 0 begins the one list that the sheet alone defines
  pub export_list : (c : CallOf w sheet) → ListOn (edition_of w) sheet (listed c) (list_of c)
  export_list c = let r = export_ran c in rw (← r.count) (promised-list w r.promise)

  pub two-exports_of : (c d : CallOf w sheet) → NoContradiction (listed c) (listed d) (list_of c) (list_of d)
  two-exports_of c d = no_contradiction w (export_list c) (export_list d)

  -- it shows each state that it lists
  export_values : (c : CallOf w sheet) → ShownOn (edition_of w) sheet (listed c) c.after
  export_values c = let r = export_ran c in rw (← r.count) (promised-values w r.promise)

  -- what two cabins see: where both list a state, they show the same values of all variables
  pub two-exports_show_of : (c d : CallOf w sheet) → SameValues (listed c) (listed d) c.after d.after
  two-exports_show_of c d = same-values w (export_values c) (export_values d)

-- of any two calls of `leading_list`
module _ {sheet : List ℕ} (c d : ExportCall sheet) where
  pub two-exports : NoContradiction (listed c) (listed d) (list_of c) (list_of d)
  two-exports = two-exports_of false c d

  pub two-exports_show : SameValues (listed c) (listed d) c.after d.after
  two-exports_show = two-exports_show_of false c d
