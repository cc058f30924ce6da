-- `judge` meets its contract: one law for each way out. Assumes nothing.
use Rattle.trials.proofs.Endings.{was_consistent, was_inconsistent, was_spent}
use Rattle.conflict.proofs.Given.{ready-again, as_ended}
use Rattle.judge.proofs.Judging.{listed-less, can_count, codes-place, values-place, judge-most, judge-spent, judge-learn, judge-listed}
use Rattle.judge.proofs.judge.Goals as goal

pub learn-requires : goal.learn-requires
learn-requires c =
    (ready-again c.requires.0 c.test_shown-test.ensures.long, can_count c.requires.1.1 c.if-g-eq-MOST_TESTED.false, c.requires.1.1.turn.standing.room)

pub list-requires : goal.list-requires
list-requires c =
    let t = c.requires.1.1 in
    (can_count t c.if-g-eq-MOST_TESTED.false, listed-less t, codes-place t, values-place t)

pub returns-then-g-eq-MOST_TESTED-clause-answer : goal.returns-then-g-eq-MOST_TESTED-clause-answer
returns-then-g-eq-MOST_TESTED-clause-answer c q prices tb t full = judge-most t c.args.queue.now c.if-g-eq-MOST_TESTED.true

pub returns-in-Spent-clause-answer : goal.returns-in-Spent-clause-answer
returns-in-Spent-clause-answer c q prices tb t full =
    let shown = c.test_shown-test.ensures.answer q.plant prices tb t.parent (c.values-held.ensures c.args.weighed q.plant t.parent t.is) t.is.valid in
    judge-spent t c.if-g-eq-MOST_TESTED.false c.args.queue.now (was_spent _ _ _ _ _ (as_ended shown.0) c.in-Spent.is).0

pub returns-in-Inconsistent-clause-answer : goal.returns-in-Inconsistent-clause-answer
returns-in-Inconsistent-clause-answer c q prices tb t full =
    let shown = c.test_shown-test.ensures.answer q.plant prices tb t.parent (c.values-held.ensures c.args.weighed q.plant t.parent t.is) t.is.valid in
    rw (judge-learn t c.if-g-eq-MOST_TESTED.false (was_inconsistent _ _ _ _ _ (as_ended shown.0) c.in-Inconsistent.is).0) (c.learn.ensures.answer q prices _ _ tb t)

pub returns-in-Consistent-clause-answer : goal.returns-in-Consistent-clause-answer
returns-in-Consistent-clause-answer c q prices tb t full =
    let shown = c.test_shown-test.ensures.answer q.plant prices tb t.parent (c.values-held.ensures c.args.weighed q.plant t.parent t.is) t.is.valid in
    let l = c.list.ensures in
    rw (l.codes-are, l.values-are, l.counts-are) (judge-listed t c.if-g-eq-MOST_TESTED.false full (was_consistent _ _ _ _ _ (as_ended shown.0) c.in-Consistent.is) shown.1)
