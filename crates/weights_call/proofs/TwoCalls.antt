-- Two cabins: any two calls of `list_weights` on one sheet, whatever else differs, never contradict each other. Assumes nothing.
use mathlib.Core.List.{List}
use Prim.Native.Nat.{ℕ}
use mathlib.Core.Bool.{true}
use Rattle.model.specs.Sheet.{edition2}
use Rattle.theory.specs.Shown.{ShownOn, SameValues}
use Rattle.theory.specs.TwoRuns.{ListOn, NoContradiction}
use Rattle.theory.proofs.Corollaries.{no_contradiction, promised-list, same-values, promised-values}
use Rattle.weights_call.specs.TwoCalls.{WeightsCall, list_of}

module _ {sheet : List ℕ} where
  -- the list of a call begins the one list that the sheet alone defines
  pub call-list : (c : WeightsCall sheet) → ListOn edition2 sheet c.counts.listed (list_of c)
  call-list c =
      let promise = c.ensures.1 in
      promised-list true (rw c.run at promise)

  pub two-weights_calls : (c d : WeightsCall sheet) → NoContradiction c.counts.listed d.counts.listed (list_of c) (list_of d)
  two-weights_calls c d = no_contradiction true (call-list c) (call-list d)

  -- a call shows each state that it lists
  call-values : (c : WeightsCall sheet) → ShownOn edition2 sheet c.counts.listed c.after
  call-values c =
      let promise = c.ensures.1 in
      promised-values true (rw c.run at promise)

  -- what two cabins see: where both list a state, they show the same values of all variables
  pub two-weights_calls_show : (c d : WeightsCall sheet) → SameValues c.counts.listed d.counts.listed c.after d.after
  two-weights_calls_show c d = same-values true (call-values c) (call-values d)
