-- `conflict_of` meets its contract: each way out is one way that the test goes, and the reduction after it. Assumes nothing.
use Rattle.conflict_call.proofs.Asking.{answers-none, answers-spent, answers-whole, answers-conflict, answers-stopped}
use Rattle.conflict_call.proofs.conflict_of.Goals as goal

pub returns-then-not-minimal : goal.returns-then-not-minimal
returns-then-not-minimal c p costs t a w v =
    rw c.with_values-then-not-minimal.ensures (answers-whole p _ a (c.test_shown-test.ensures.answer p costs t a w v) c.in-Inconsistent.is c.if-not-minimal.true)

pub returns-in-Consistent : goal.returns-in-Consistent
returns-in-Consistent c p costs t a w v =
    rw c.with_values.ensures (answers-none p _ a (c.test_shown-test.ensures.answer p costs t a w v) c.in-Consistent.is)

pub returns-in-Spent : goal.returns-in-Spent
returns-in-Spent c p costs t a w v =
    rw c.with_values-in-Spent.ensures (answers-spent p _ a (c.test_shown-test.ensures.answer p costs t a w v) c.in-Spent.is)

pub returns-in-Ok : goal.returns-in-Ok
returns-in-Ok c p costs t a w v =
    rw c.with_values-in-Ok.ensures (answers-conflict p _ a (c.test_shown-test.ensures.answer p costs t a w v) c.in-Inconsistent.is c.if-not-minimal.false _ (c.reduce.ensures.answer p costs t a w v) c.in-Ok.is)

pub returns-in-Err : goal.returns-in-Err
returns-in-Err c p costs t a w v =
    rw c.with_values-in-Err.ensures (answers-stopped p _ a (c.test_shown-test.ensures.answer p costs t a w v) c.in-Inconsistent.is c.if-not-minimal.false _ (c.reduce.ensures.answer p costs t a w v) c.in-Err.is)
