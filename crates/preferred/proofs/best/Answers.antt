-- `preferred::best` meets its contract: what is better takes the place of the value so far, and else that stays the best. Assumes nothing.
use mathlib.Core.Path.{sym, ◌∙◌}
use native.Mathlib.Omega.{arith}
use Rattle.theory.proofs.Value.{better-compares, better-true, better-false, better-next, no_better-next}
use Rattle.preferred.proofs.best.Goals as goal
use Rattle.preferred.proofs.best.Goals.{then-better, else-better}

pub loop-x-preserved : goal.loop-x-preserved
loop-x-preserved c =
    let s = c.args in
    let l = c.loop-x in
    elim c.if-better.branch [
      | then-better w ↦ rw w.value-is (omega arith, better-next (better-compares s.weighed) s.row.now l.x l.value (omega arith) l.invariant.1 (better-true s.weighed _ _ (sym c.better.ensures ∙ w.if-better.true)))
      | else-better w ↦ rw w.value-is (omega arith, no_better-next (better-compares s.weighed) s.row.now l.x l.value (omega arith) l.invariant.1 (better-false s.weighed _ _ (sym c.better.ensures ∙ w.if-better.false)))
    ]
