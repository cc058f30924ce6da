-- `sets::covers` meets its contract. The loop: `Lacking`, no bit lacks exactly if the words before k have none that the set has not. Assumes nothing.
use mathlib.Core.Path.{◌≡◌}
use Rattle.clauses.proofs.Rows.{lacking_first, lacking_step, lacking_end}
use native.Mathlib.Omega.{arith}
use Rattle.clauses.proofs.sets.covers.Goals as goal

pub loop-k-init : goal.loop-k-init
loop-k-init c = lacking_first _ _ _

pub loop-k-preserved : goal.loop-k-preserved
loop-k-preserved c =
    let h = c.loop-k in
    lacking_step _ _ _ _ h.k (c.shared_slice_known-1.given _).fits h.invariant

pub returns : goal.returns
returns c =
    let h = c.loop-k in
    let e : h.k ≡ 8 = omega arith in
    lacking_end _ _ _ _ (rw e at h.invariant)
