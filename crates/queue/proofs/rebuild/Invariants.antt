-- `queue::rebuild` meets its contract. The invariant: from place i on the queue is in order, and it is a permutation of the queue at the start. The measure is i. Assumes nothing.
use mathlib.Core.Path.{◌≡◌}
use Prim.Native.Nat.{◌*◌, ◌≤◌}
use lib.ListN.{length, take}
use Rattle.queue.specs.Entries.{pairs, Same}
use Rattle.queue.specs.Inside.{HeapFrom}
use Rattle.queue.proofs.rebuild.Given as goal

abbrev pub invariant-loop-i : goal.invariant-loop-i
invariant-loop-i l = (length l.queue ≡ length l.initial.queue) × (2 * l.i ≤ l.n) × HeapFrom l.i l.n (pairs l.queue) × Same (take l.n (pairs l.initial.queue)) (take l.n (pairs l.queue))
