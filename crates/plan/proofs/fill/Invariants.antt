-- `fill` meets its contract. The loop: the bytes before v are taken over, and those from v on are as they came. Assumes nothing.
use Prim.Native.Nat.{◌≤◌}
use lib.ListN.{length}
use Rattle.clauses.specs.Numbers.{variables}
use Rattle.plan.proofs.Filled.{Filling}
use Rattle.plan.proofs.fill.Given as goal

abbrev pub invariant-loop-v : goal.invariant-loop-v
invariant-loop-v l = Filling l.initial.vals l.plan l.vals l.v × (length l.initial.vals ≤ variables)
