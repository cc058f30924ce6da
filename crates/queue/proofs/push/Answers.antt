-- `queue::push` meets its contract. The invariant: with the entry at the open place i, the queue is in order but for i, and is a permutation of the queue at the start with the entry in front. The measure is i. Assumes nothing.
use mathlib.Core.Path.{refl, sym, ◌∙◌}
use Prim.Native.Nat.{◌+◌, ◌-◌, ◌/◌}
use native.Mathlib.Omega.{arith}
use Rattle.queue.specs.Order.{Item}
use Rattle.queue.specs.Entries.{pairs, entries}
use Rattle.queue.specs.Queue.{Ready}
use Rattle.queue.proofs.OrderLaws.{due-before}
use Rattle.queue.proofs.PairLaws.{room}
use Rattle.queue.proofs.HeapLaws.{due-by}
use Rattle.queue.proofs.SiftLaws.{rise_start, rise_step, rise_top, rise_stop}
use Rattle.queue.proofs.HoldsLaws.{holds-push}
use Rattle.queue.proofs.push.Goals as goal
use Rattle.queue.proofs.push.Goals.{else-loop-i-test, then-loop-i-test+then-not-comes_before}

pub loop-i-init : goal.loop-i-init
unfolding Ready
loop-i-init c =
    (refl, omega arith, rise_start c.args.n (c.args.entry.a, c.args.entry.b) (pairs c.args.queue.now) (omega (arith, room c.args.queue.now (c.args.n + 1) (omega arith))))

pub comes_before-requires : goal.comes_before-requires
comes_before-requires c = tt

pub loop-i-preserved : goal.loop-i-preserved
loop-i-preserved c =
    let l = c.loop-i in
    let e = c.entry_at-parent in
    let t = c.comes_before in
    let v : Item = (c.args.entry.a, c.args.entry.b) in
    let due = due-by refl e.ensures (due-before v (e.result.a, e.result.b) (sym t.ensures ∙ c.if-not-comes_before.false)) in (
      c.put.auto.queue ∙ l.invariant.0,
      omega arith,
      λ h. rw (c.put.ensures, ← e.ensures) (rise_step (l.invariant.2 h) ((l.i - 1) / 2) (omega arith) due),
    )

pub shape_of-queue : goal.shape_of-queue
shape_of-queue c = c.put-2.auto.queue ∙ c.loop-i.invariant.0

pub returns : goal.returns
unfolding Ready entries
returns c o nodes node h is =
    let l = c.loop-i in
    holds-push o _ _ _ nodes node _ h is
    (rw c.put-2.ensures (elim c.loop-i-test.branch [
      | else-loop-i-test w ↦ rise_top (l.invariant.2 h.ready) w.loop-i-test.false
      | then-loop-i-test+then-not-comes_before w ↦ rise_stop (l.invariant.2 h.ready) ((l.i - 1) / 2) (omega arith) (due-by w.entry_at-parent.ensures refl (sym w.comes_before.ensures ∙ w.if-not-comes_before.true))
    ]))
    (λ w. rw c.put-2.ensures ((l.invariant.2 h.ready).same w))
