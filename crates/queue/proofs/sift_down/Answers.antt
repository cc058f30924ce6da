-- `queue::sift_down` meets its contract. The invariant: with e at the open place i, the queue is in order but for i, and is a permutation of the queue at the start with e at `from`. The measure is how far i is from the end. Assumes nothing.
use mathlib.Core.Path.{refl, sym, ◌∙◌}
use Rattle.queue.specs.Order.{Item}
use Rattle.queue.specs.Entries.{pairs}
use Rattle.queue.proofs.OrderLaws.{due-before}
use Rattle.queue.proofs.PairLaws.{room}
use Rattle.queue.proofs.HeapLaws.{due-by}
use Rattle.queue.proofs.SiftLaws.{sink_start, sink_step, sink_bottom, sink_stop}
use Rattle.queue.proofs.sift_down.Goals as goal
use Rattle.queue.proofs.sift_down.Goals.{else-loop-i-test, then-loop-i-test+then-not-comes_before}

pub loop-i-init : goal.loop-i-init
loop-i-init c =
    (refl, c.requires.from_lt_n, sink_start c.args.from c.args.n (c.args.e.a, c.args.e.b) (pairs c.args.queue.now) c.requires.from_lt_n (room c.args.queue.now c.args.n c.requires.n_in_bounds))

pub comes_before-requires : goal.comes_before-requires
comes_before-requires c = tt

pub loop-i-preserved : goal.loop-i-preserved
loop-i-preserved c =
    let e = c.entry_at-child in
    let m = c.lesser_child-c in
    let v : Item = (c.args.e.a, c.args.e.b) in
    let due = due-by e.ensures refl (due-before (e.result.a, e.result.b) v (sym c.comes_before.ensures ∙ c.if-not-comes_before.false)) in (
      c.put.auto.queue ∙ c.loop-i.invariant.0,
      m.ensures.within,
      λ h. rw (c.put.ensures, ← e.ensures) (sink_step (c.loop-i.invariant.2 h) m.ensures due),
    )

pub shape_of-queue : goal.shape_of-queue
shape_of-queue c = c.put-2.auto.queue ∙ c.loop-i.invariant.0

pub returns : goal.returns
returns c h =
    let l = c.loop-i in
    record {
      heap = rw c.put-2.ensures (elim c.loop-i-test.branch [
        | else-loop-i-test w ↦ sink_bottom (l.invariant.2 h) w.loop-i-test.false
        | then-loop-i-test+then-not-comes_before w ↦ sink_stop (l.invariant.2 h) w.lesser_child-c.ensures (due-by refl w.entry_at-child.ensures (sym w.comes_before.ensures ∙ w.if-not-comes_before.true))
      ]);
      same = rw c.put-2.ensures (l.invariant.2 h).same;
    }
