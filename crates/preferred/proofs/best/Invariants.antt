-- `preferred::best` meets its contract. The loop's invariant: the value so far is the best of the values below x. Assumes nothing.
use Prim.Native.Nat.{◌<◌}
use lib.ListN.{take}
use Rattle.theory.specs.Value.{Better, BestValue}
use Rattle.preferred.proofs.best.Given as goal

abbrev pub invariant-loop-x : goal.invariant-loop-x
invariant-loop-x l = (l.value < l.x) × BestValue (Better l.weighed) (take l.x l.row) l.value
