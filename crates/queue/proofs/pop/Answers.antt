-- `queue::pop` meets its contract: the first entry is due first, and the last takes its place and sinks. Assumes nothing.
use mathlib.Core.Path.{ap, ◌∙◌}
use Prim.Native.Nat.{ℕ, ◌+◌, ◌-◌}
use native.Mathlib.Omega.{arith}
use Rattle.queue.specs.Entries.{pairs, entries}
use Rattle.queue.specs.Queue.{Ready}
use Rattle.queue.proofs.PairLaws.{room}
use Rattle.queue.proofs.SumLaws.{first_out, only_out}
use Rattle.queue.proofs.HeapLaws.{heap-part, all_first}
use Rattle.queue.proofs.HoldsLaws.{holds_pop}
use Rattle.queue.proofs.pop.Goals as goal

pub returns-then-n-gt1 : goal.returns-then-n-gt1
unfolding Ready entries
returns-then-n-gt1 c ss o node rest keyed valid ordered h =
    let n = c.args.n in
    let xs = pairs c.args.queue.now in
    let e = c.entry_at-first in
    let last = c.entry_at-last in
    let d = c.sift_down.ensures (heap-part 0 n 1 (n - 1) xs (omega arith) (omega arith) h.ready) in
    holds_pop ss keyed valid ordered h (rw e.ensures at (all_first n xs h.ready)) _ d.heap
    (λ w. (rw (last.ensures, e.ensures) at (first_out xs n (omega arith) (room c.args.queue.now n c.requires.n_in_bounds) w)) ∙ ap (λ (m : ℕ). w (e.result.a, e.result.b) + m) (d.same w))

pub returns-else-n-gt1 : goal.returns-else-n-gt1
unfolding Ready entries
returns-else-n-gt1 c ss o node rest keyed valid ordered h =
    let n = c.args.n in
    let xs = pairs c.args.queue.now in
    let e = c.entry_at-first in
    holds_pop ss keyed valid ordered h (rw e.ensures at (all_first n xs h.ready)) _ (heap-part 0 n 0 (n - 1) xs (omega arith) (omega arith) h.ready)
    (rw e.ensures at (only_out xs n (omega arith) (omega arith) (room c.args.queue.now n c.requires.n_in_bounds)))
