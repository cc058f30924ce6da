-- `step` meets its contract: one law for each way out. Assumes nothing.
use native.Mathlib.Omega.{arith}
use Rattle.steps.proofs.Removing.{step-enough, step-all, removes, step-removed}
use Rattle.steps.proofs.step.Goals as goal

pub returns-then-g-eq0-clause-answer : goal.returns-then-g-eq0-clause-answer
returns-then-g-eq0-clause-answer c t = step-all t (omega arith)

pub returns-then-query-g-clause-answer : goal.returns-then-query-g-clause-answer
returns-then-query-g-clause-answer c t = step-enough t (omega arith) (omega arith)

pub expand-requires : goal.expand-requires
expand-requires c = removes c.requires (omega arith) (omega arith) _ c.pop-entry.auto.queue _ _ _ c.pop-entry.ensures c.from_entry-node.ensures

pub returns-clause-answer : goal.returns-clause-answer
returns-clause-answer c t =
    rw (step-removed t (omega arith) (omega arith) _ c.pop-entry.auto.queue _ _ _ c.pop-entry.ensures c.from_entry-node.ensures) at
    (c.expand.ensures.answer (removes t (omega arith) (omega arith) _ c.pop-entry.auto.queue _ _ _ c.pop-entry.ensures c.from_entry-node.ensures))
