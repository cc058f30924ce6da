-- `sets::store_less` meets its contract. The loop: the words of the row before k are stored. Assumes nothing.
use mathlib.Core.Path.{◌≡◌}
use Rattle.clauses.proofs.Rows.{storing_first, storing_step, storing_end}
use native.Mathlib.Omega.{arith}
use Rattle.clauses.proofs.sets.store_less.Goals as goal

pub loop-k-init : goal.loop-k-init
loop-k-init c = storing_first _ _ _ _

pub loop-k-preserved : goal.loop-k-preserved
loop-k-preserved c =
    let h = c.loop-k in
    storing_step _ _ _ c.args.row h.to h.k (omega arith) (omega (arith, h.invariant.long)) h.invariant

pub shape_of-to : goal.shape_of-to
shape_of-to c = c.loop-k.invariant.long

pub returns : goal.returns
returns c =
    let h = c.loop-k in
    let e : h.k ≡ 8 = omega arith in
    storing_end _ _ _ _ _ (rw e at h.invariant)
