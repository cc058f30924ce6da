-- `children::lowest_free` meets its contract. The loop's invariant: the variables passed are assigned. Assumes nothing.
use mathlib.Core.Path.{sym, ◌∙◌}
use native.Mathlib.Omega.{arith}
use Rattle.children.proofs.Walk.{is_none, assigned-is, filled_next}
use Rattle.children.proofs.lowest_free.Goals as goal

pub returns-then-not-is_assigned : goal.returns-then-not-is_assigned
returns-then-not-is_assigned c =
    let l = c.loop-v in record {
      inside = omega arith;
      lowest = λ n values w e. (l.invariant n values w e, is_none _ (sym (assigned-is w (omega arith) _ c.is_assigned.ensures) ∙ c.if-not-is_assigned.true));
    }

pub loop-v-preserved : goal.loop-v-preserved
loop-v-preserved c n values w e =
    let l = c.loop-v in
    filled_next n l.v (l.invariant n values w e) (sym (assigned-is w (omega arith) _ c.is_assigned.ensures) ∙ c.if-not-is_assigned.false)
