-- `branch` meets its contract by the law of step 5. Assumes nothing.
use Rattle.expand.proofs.Expanding.{removed-step, branched_is}
use Rattle.expand.proofs.branch.Goals as goal

pub returns : goal.returns
returns c q limit codes values t tables found free =
    let r = c.branch-choices in
    branched_is t _ r.auto.queue _ _ found free (r.ensures (removed-step t) tables) c.put.ensures
