-- `sets::joined` meets its contract. The loop: the words before k are joined, and those from k on are as they were. Assumes nothing.
use mathlib.Core.Path.{◌≡◌}
use Rattle.clauses.proofs.Rows.{joining_first, joining_step, joining_end}
use native.Mathlib.Omega.{arith}
use Rattle.clauses.proofs.sets.joined.Goals as goal

pub loop-k-init : goal.loop-k-init
loop-k-init c = joining_first _ _ _ (omega arith)

pub loop-k-preserved : goal.loop-k-preserved
loop-k-preserved c =
    let h = c.loop-k in
    joining_step _ _ _ h.word-items h.k (omega arith) h.invariant

pub returns : goal.returns
returns c =
    let h = c.loop-k in
    let e : h.k ≡ 8 = omega arith in
    joining_end _ _ _ _ (rw e at h.invariant)
