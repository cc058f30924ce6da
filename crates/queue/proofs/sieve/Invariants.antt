-- `queue::sieve` meets its contract. The invariant: what stands in front is what any test that says what `stays` answers keeps of the entries read, and the others stand as they were. The measure is how many are left to read. Assumes nothing.
use mathlib.Core.Path.{◌≡◌}
use mathlib.Core.Bool.{Bool}
use Prim.Native.Nat.{◌≤◌}
use lib.ListN.{length}
use Rattle.queue.specs.Order.{Item}
use Rattle.queue.specs.Entries.{pairs}
use Rattle.queue.proofs.SieveLaws.{Answers, Sieving}
use Rattle.queue.proofs.sieve.Given as goal

abbrev pub invariant-loop-i : goal.invariant-loop-i
invariant-loop-i l =
    (length l.queue ≡ length l.initial.queue) × (l.i ≤ l.n) × (l.count ≤ l.i) × ((test : Item → Bool) → Answers l.weighed l.conflict.mask l.conflict.values l.n (pairs l.initial.queue) test → Sieving test (pairs l.initial.queue) (pairs l.queue) l.count l.i)
