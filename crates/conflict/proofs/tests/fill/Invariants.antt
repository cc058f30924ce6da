-- `tests::fill` meets its contract. The loop: the bytes before v are those of the variables. Assumes nothing.
use Prim.Native.Nat.{ℕ, ◌<◌}
use mathlib.Core.Path.{◌≡◌}
use mathlib.Core.Option.{none}
use lib.ListN.{length, get_or}
use Rattle.model.specs.Assignment.{assignment_of}
use Rattle.theory.specs.Words.{byte}
use Rattle.conflict.proofs.tests.fill.Given as goal

abbrev pub invariant-loop-v : goal.invariant-loop-v
invariant-loop-v l = (length l.vals ≡ length l.initial.vals) × ((k : ℕ) → k < l.v → get_or l.vals k 0 ≡ byte (get_or (assignment_of l.d l.mask l.values) k none))
