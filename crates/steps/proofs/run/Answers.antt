-- `run` meets its contract. The loop's invariant: lent slices keep their lengths, and the run from the start ends as the run from here. The measure is the weight of the queue, read off its words. Assumes nothing.
use mathlib.Core.Path.{refl, ◌∙◌}
use Prim.Native.Nat.{suc}
use native.Mathlib.Omega.{arith}
use Rattle.model.specs.Sheet.{decision_sizes}
use Rattle.theory.specs.Nodes.{weights}
use Rattle.steps.proofs.Running.{reached-start, reached-steps, reached-end, reached-next}
use Rattle.steps.proofs.run.Goals as goal

pub loop-more-init : goal.loop-more-init
loop-more-init c = (c.requires.tables.planned, refl, refl, refl, refl, λ t fuel h. reached-start t fuel h)

pub step-requires : goal.step-requires
step-requires c =
    let t = c.requires in
    reached-steps t c.loop-more.invariant.0 (c.loop-more.invariant.5 t (suc (weights (decision_sizes t.question.plant) t.state.queue)) (omega arith))

pub returns-in-Break : goal.returns-in-Break
returns-in-Break c t fuel h =
    let reached = c.loop-more.invariant.5 t fuel h in
    reached-end reached _ _ _ _ _ c.in-Break.is (c.step.ensures.answer (reached-steps t c.loop-more.invariant.0 reached))

pub loop-more-smaller : goal.loop-more-smaller
loop-more-smaller c =
    let t = c.requires in
    let reached = c.loop-more.invariant.5 t (suc (weights (decision_sizes t.question.plant) t.state.queue)) (omega arith) in
    (reached-next reached _ _ _ _ t.tables.tabled t.tables.accepted t.asked c.step.auto.queue c.step.auto.store _ c.in-Continue.is (c.step.ensures.answer (reached-steps t c.loop-more.invariant.0 reached))).1

pub loop-more-preserved : goal.loop-more-preserved
loop-more-preserved c = (
  c.step.ensures.long,
  c.step.auto.codes ∙ c.loop-more.invariant.1,
  c.step.auto.values ∙ c.loop-more.invariant.2,
  c.step.auto.queue ∙ c.loop-more.invariant.3,
  c.step.auto.store ∙ c.loop-more.invariant.4,
  λ t fuel h. let reached = c.loop-more.invariant.5 t fuel h in
      (reached-next reached _ _ _ _ t.tables.tabled t.tables.accepted t.asked c.step.auto.queue c.step.auto.store _ c.in-Continue.is (c.step.ensures.answer (reached-steps t c.loop-more.invariant.0 reached))).0,
)
