-- `queue::push` meets its contract. The invariant: with the entry at the open place i, the queue is in order but for i, and is a permutation of the queue at the start with the entry in front. The measure is i. Assumes nothing.
use mathlib.Core.Path.{◌≡◌}
use Prim.Native.Nat.{◌≤◌}
use lib.ListN.{length}
use Rattle.queue.specs.Entries.{pairs}
use Rattle.queue.specs.Queue.{Ready}
use Rattle.queue.proofs.SiftLaws.{Rising}
use Rattle.queue.proofs.push.Given as goal

abbrev pub invariant-loop-i : goal.invariant-loop-i
invariant-loop-i l = (length l.queue ≡ length l.initial.queue) × (l.i ≤ l.n) × (Ready l.n l.initial.queue → Rising l.n (l.entry.a, l.entry.b) (pairs l.initial.queue) (pairs l.queue) l.i)

abbrev pub decreases-loop-i : goal.decreases-loop-i
decreases-loop-i l = l.i
