-- `queue::rebuild` meets its contract. The invariant: from place i on the queue is in order, and it is a permutation of the queue at the start. The measure is i. Assumes nothing.
use mathlib.Core.Path.{◌≡◌, refl, ◌∙◌}
use Prim.Native.Nat.{◌+◌, ◌-◌, ◌/◌}
use native.Mathlib.Omega.{arith}
use lib.Seq.{set-get_or}
use Rattle.queue.specs.Entries.{pairs}
use Rattle.queue.proofs.HeapLaws.{leaves}
use Rattle.queue.proofs.rebuild.Goals as goal

pub loop-i-init : goal.loop-i-init
loop-i-init c = (refl, omega arith, leaves c.args.n (c.args.n / 2) (pairs c.args.queue.now) (omega arith), λ w. refl)

pub loop-i-preserved : goal.loop-i-preserved
loop-i-preserved c =
    let l = c.loop-i in
    let e = c.entry_at-e in
    let same : l.i - 1 + 1 ≡ l.i = omega arith in
    let d = c.sift_down.ensures (rw same l.invariant.2) in (
      c.sift_down.auto.queue ∙ l.invariant.0,
      omega arith,
      d.heap,
      λ w. l.invariant.3 w ∙ rw (← e.ensures, set-get_or (pairs l.queue) (l.i - 1) (0, 0)) at (d.same w),
    )

pub shape_of-queue : goal.shape_of-queue
shape_of-queue c = c.loop-i.invariant.0

pub returns : goal.returns
returns c =
    let l = c.loop-i in
    let first : l.i ≡ 0 = omega arith in
    record { heap = rw first at l.invariant.2; same = l.invariant.3 }
