-- Two cabins: any two calls of `list` on one sheet, whatever else differs, never contradict each other. Assumes nothing.
use mathlib.Core.List.{List}
use Prim.Native.Nat.{ℕ}
use mathlib.Core.Bool.{false}
use Rattle.model.specs.Sheet.{edition1}
use Rattle.theory.specs.Shown.{ShownOn, SameValues}
use Rattle.theory.specs.TwoRuns.{ListOn, NoContradiction}
use Rattle.theory.proofs.Corollaries.{no_contradiction, promised-list, same-values, promised-values}
use Rattle.listing_call.specs.TwoCalls.{ListCall, list_of}

module _ {sheet : List ℕ} where
  -- the list of a call begins the one list that the sheet alone defines
  pub call-list : (c : ListCall sheet) → ListOn edition1 sheet c.counts.listed (list_of c)
  call-list c =
      let promise = c.ensures.1 in
      promised-list false (rw c.run at promise)

  pub two_calls : (c d : ListCall sheet) → NoContradiction c.counts.listed d.counts.listed (list_of c) (list_of d)
  two_calls c d = no_contradiction false (call-list c) (call-list d)

  -- a call shows each state that it lists
  call-values : (c : ListCall sheet) → ShownOn edition1 sheet c.counts.listed c.after
  call-values c =
      let promise = c.ensures.1 in
      promised-values false (rw c.run at promise)

  -- what two cabins see: where both list a state, they show the same values of all variables
  pub two_calls_show : (c d : ListCall sheet) → SameValues c.counts.listed d.counts.listed c.after d.after
  two_calls_show c d = same-values false (call-values c) (call-values d)
