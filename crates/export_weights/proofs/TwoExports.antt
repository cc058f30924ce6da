-- Two cabins: any two calls of `leading_list_weights` on one sheet that returned 0, whatever else differs, never contradict each other. Assumes nothing.
use mathlib.Core.Bool.{true}
use mathlib.Core.List.{List}
use Prim.Native.Nat.{ℕ}
use Rattle.theory.specs.Shown.{SameValues}
use Rattle.theory.specs.TwoRuns.{NoContradiction}
use Rattle.export.specs.TwoExports.{CallOf, listed, list_of}
use Rattle.export.proofs.TwoExports.{two-exports_of, two-exports_show_of}

module _ {sheet : List ℕ} (c d : CallOf true sheet) where
  pub two-weights-exports : NoContradiction (listed c) (listed d) (list_of c) (list_of d)
  two-weights-exports = two-exports_of true c d

  -- where both list a state, they show the same values of all variables
  pub two-weights-exports_show : SameValues (listed c) (listed d) c.after d.after
  two-weights-exports_show = two-exports_show_of true c d
