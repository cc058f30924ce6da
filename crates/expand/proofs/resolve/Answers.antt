-- `resolve` meets its contract by the law of step 4. Assumes nothing.
use Rattle.expand.proofs.Expanding.{removed-step, removed-valid, resolved_is}
use Rattle.expand.proofs.resolve.Goals as goal

pub returns : goal.returns
returns c q limit codes values t tables k found w =
    let r = c.resolve in
    resolved_is t _ r.auto.queue k _ _ found (r.ensures (removed-step t) tables k w (removed-valid t k found)) c.put.ensures
