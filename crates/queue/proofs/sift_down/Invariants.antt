-- `queue::sift_down` meets its contract. The invariant: with e at the open place i, the queue is in order but for i, and is a permutation of the queue at the start with e at `from`. The measure is how far i is from the end. Assumes nothing.
use mathlib.Core.Path.{◌≡◌}
use Prim.Native.Nat.{◌+◌, ◌-◌, ◌<◌}
use lib.ListN.{length}
use Rattle.queue.specs.Entries.{pairs}
use Rattle.queue.specs.Inside.{HeapFrom}
use Rattle.queue.proofs.SiftLaws.{Sinking}
use Rattle.queue.proofs.sift_down.Given as goal

abbrev pub invariant-loop-i : goal.invariant-loop-i
invariant-loop-i l = (length l.queue ≡ length l.initial.queue) × (l.i < l.n) × (HeapFrom (l.from + 1) l.n (pairs l.initial.queue) → Sinking l.from l.n (l.e.a, l.e.b) (pairs l.initial.queue) (pairs l.queue) l.i)

abbrev pub decreases-loop-i : goal.decreases-loop-i
decreases-loop-i l = l.n - l.i
