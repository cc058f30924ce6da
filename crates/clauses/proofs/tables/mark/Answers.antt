-- `tables::mark` meets its contract. An equal literal has one row or none. The loop, for an unequal one: the rows of the values from x on are still to come. Assumes nothing.
use mathlib.Core.Path.{◌≡◌, refl, sym, ap, ◌∙◌}
use lib.ListN.{length}
use Rattle.clauses.proofs.Marks.{marking_first, marking_step, marking_skip, marking_end, equal-marked, beyond_marked, rows_all, rows_end, rows-fail, rows_hold}
use native.Mathlib.Omega.{arith}
use Rattle.clauses.proofs.tables.mark.Goals as goal
use Rattle.clauses.proofs.tables.mark.Goals.{then-holds, else-holds}

pub shape_of-sat-then-sign-eq0 : goal.shape_of-sat-then-sign-eq0
shape_of-sat-then-sign-eq0 c = c.add.auto.table

pub returns-then-value-lt-UNASSIGNED : goal.returns-then-value-lt-UNASSIGNED
returns-then-value-lt-UNASSIGNED c =
    rw c.if-sign-eq0.true (equal-marked _ _ _ _ _ c.if-value-lt-UNASSIGNED.true (rw c.from.ensures at c.add.ensures))

pub returns-else-value-lt-UNASSIGNED : goal.returns-else-value-lt-UNASSIGNED
returns-else-value-lt-UNASSIGNED c = rw c.if-sign-eq0.true (beyond_marked _ _ _ _ c.if-value-lt-UNASSIGNED.false)

pub loop-x-init : goal.loop-x-init
loop-x-init c = (refl, marking_skip _ _ _ _ _ _ (marking_first _ _ _) (λ r. sym (rows_all _ _ _ r)))

pub loop-x-preserved : goal.loop-x-preserved
loop-x-preserved c =
    let h = c.loop-x in
    let s = c.args in
    elim c.if-holds.branch [
      | then-holds w ↦ (
        ap length w.sat-is ∙ w.add-then-holds.auto.table ∙ h.invariant.0,
        rw w.sat-is (marking_step _ _ _ _ _ _ _ _ h.invariant.1 w.add-then-holds.ensures
            (λ r. rw w.from-then-holds.ensures (rows_hold s.var s.sign s.value h.x r (omega arith) (sym c.holds.ensures ∙ w.if-holds.true)))),
      )
      | else-holds w ↦ (
        ap length w.sat-is ∙ h.invariant.0,
        rw w.sat-is (marking_skip _ _ _ _ _ _ h.invariant.1 (λ r. rows-fail s.var s.sign s.value h.x r (sym c.holds.ensures ∙ w.if-holds.false))),
      )
    ]

pub shape_of-sat : goal.shape_of-sat
shape_of-sat c = c.loop-x.invariant.0

pub returns : goal.returns
returns c =
    let h = c.loop-x in
    let e : h.x ≡ 16 = omega arith in
    marking_end _ _ _ _ _ h.invariant.1 (rw e (rows_end _ _ _))
