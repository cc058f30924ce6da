-- `children::lowest_free` meets its contract. The loop's invariant: the variables passed are assigned. Assumes nothing.
use mathlib.Core.Path.{◌≡◌}
use Prim.Native.Nat.{ℕ}
use lib.ListN.{length}
use Rattle.model.specs.Assignment.{Assignment}
use Rattle.theory.specs.Words.{Words}
use Rattle.theory.specs.Nodes.{Filled}
use Rattle.children.proofs.lowest_free.Given as goal

abbrev pub invariant-loop-v : goal.invariant-loop-v
invariant-loop-v l = (n : Assignment) (values : ℕ) → Words n l.mask values → length n ≡ l.d → Filled l.v n
