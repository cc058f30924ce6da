-- `tables::mark_clause` meets its contract. The loop: the rows of the literals from this one on are still to come. Assumes nothing.
use mathlib.Core.Path.{refl, ◌∙◌}
use Rattle.clauses.proofs.Marks.{marking_first, marking_step, marking_end}
use Rattle.clauses.proofs.Parts.{below_step, rows_step, rows_none, mentions-step, mentions-none}
use native.Mathlib.Omega.{arith}
use Rattle.clauses.proofs.tables.mark_clause.Goals as goal

pub loop-variable-init : goal.loop-variable-init
loop-variable-init c = (refl, refl, c.requires.0, marking_first _ _ _, marking_first _ _ _)

pub mark-requires : goal.mark-requires
mark-requires c =
    let b = below_step _ _ c.as_chunks.ensures.front _ c.loop-variable-test.true _ c.loop-variable.invariant.2 in
    omega (arith, c.from-var.ensures)

pub add-requires : goal.add-requires
add-requires c =
    let b = below_step _ _ c.as_chunks.ensures.front _ c.loop-variable-test.true _ c.loop-variable.invariant.2 in
    omega (arith, c.from-var.ensures)

pub loop-variable-preserved : goal.loop-variable-preserved
loop-variable-preserved c =
    let h = c.loop-variable.invariant in
    let lt = c.loop-variable-test.true in
    let f = c.as_chunks.ensures.front in
    let x = c.from-var.ensures in
    let m = c.mark in
    let n = c.add in (
      m.auto.sat ∙ h.0,
      n.auto.table ∙ h.1,
      (below_step _ _ f _ lt _ h.2).1,
      marking_step _ _ _ _ _ _ _ _ h.3 m.ensures (λ r. rw x (rows_step _ _ f _ lt r)),
      marking_step _ _ _ _ _ _ _ _ h.4 n.ensures (λ r. rw x (mentions-step _ _ f _ lt r)),
    )

pub shape_of-sat : goal.shape_of-sat
shape_of-sat c = c.loop-variable.invariant.0

pub shape_of-uses : goal.shape_of-uses
shape_of-uses c = c.loop-variable.invariant.1

pub returns : goal.returns
returns c =
    let h = c.loop-variable.invariant in
    let f = c.as_chunks.ensures.front in
    record {
      satisfies = marking_end _ _ _ _ _ h.3 (rows_none _ _ f _ c.loop-variable-test.false);
      mentioned = marking_end _ _ _ _ _ h.4 (mentions-none _ _ f _ c.loop-variable-test.false);
    }
