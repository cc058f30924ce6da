-- `fill` meets its contract. The loop: the bytes before v are taken over, and those from v on are as they came. Assumes nothing.
use native.Mathlib.Omega.{arith}
use lib.Seq.{set-get_or}
use Rattle.plan.proofs.Filled.{filling_first, filling_past, filling_free, filling_end}
use Rattle.plan.proofs.fill.Goals as goal
use Rattle.plan.proofs.fill.Goals.{then-value-eq-UNASSIGNED, else-value-eq-UNASSIGNED}

pub loop-v-init : goal.loop-v-init
loop-v-init c = (filling_first _ _, c.requires)

pub loop-v-preserved : goal.loop-v-preserved
loop-v-preserved c =
    let l = c.loop-v in
    elim c.if-value-eq-UNASSIGNED.branch [
      | then-value-eq-UNASSIGNED d ↦ (rw d.vals-is (filling_free _ _ _ _ l.invariant.0 (omega (arith, l.invariant.0.long)) d.if-value-eq-UNASSIGNED.true), l.invariant.1)
      | else-value-eq-UNASSIGNED d ↦ (rw (d.vals-is, set-get_or c.loop-v.vals c.loop-v.v 0) (filling_past _ _ _ _ l.invariant.0 d.if-value-eq-UNASSIGNED.false), l.invariant.1)
    ]

pub shape_of-vals : goal.shape_of-vals
shape_of-vals c = c.loop-v.invariant.0.long

pub returns : goal.returns
returns c = filling_end _ _ _ _ c.loop-v.invariant.0 (omega (arith, c.loop-v.invariant.0.long))
