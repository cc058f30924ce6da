-- `learn` meets its contract: one law for each way out. Assumes nothing.
use Rattle.judge.proofs.Judging.{learn-unkept, learn-spent, learn-conflict}
use Rattle.judge.proofs.learn.Goals as goal

pub returns-then-store-g-clause-answer : goal.returns-then-store-g-clause-answer
returns-then-store-g-clause-answer c q prices codes values tb t = rw c.counted.ensures (learn-unkept t _ c.if-store-g.true)

pub returns-in-Err-clause-answer : goal.returns-in-Err-clause-answer
returns-in-Err-clause-answer c q prices codes values tb t =
    let reduced = c.reduce.ensures.answer q.plant prices tb t.parent (c.values-held.ensures c.args.weighed q.plant t.parent t.is) t.is.valid in
    rw c.counted-in-Err.ensures (learn-spent t _ c.if-store-g.false _ reduced c.args.queue.now c.in-Err.is)

pub returns-in-Ok-clause-answer : goal.returns-in-Ok-clause-answer
returns-in-Ok-clause-answer c q prices codes values tb t =
    let reduced = c.reduce.ensures.answer q.plant prices tb t.parent (c.values-held.ensures c.args.weighed q.plant t.parent t.is) t.is.valid in
    let s = c.sieve-left in
    rw c.counted-in-Ok.ensures (learn-conflict t _ c.if-store-g.false _ reduced c.in-Ok.is _ _ _ _ s.auto.queue c.learn-stored.ensures.kept s.ensures)
