-- `search` meets its contract: `descend` with the trials left, told with the trials made. Assumes nothing.
use native.Mathlib.Omega.{arith}
use Rattle.plan.proofs.Filled.{told-afterwards}
use Rattle.pair_search.proofs.search.Goals as goal

pub with_trials_made-requires : goal.with_trials_made-requires
with_trials_made-requires c =
    (c.descend-answer.ensures.few, omega (arith, c.trials_left-left.ensures, c.ranges.used.fits, c.ranges.limit.fits))

pub returns : goal.returns
returns c =
    let f = c.descend-answer.ensures in
    record {
      finds = λ sizes vals p. rw (c.with_trials_made.ensures, told-afterwards _ _ vals _ _) (f.finds sizes vals _ _ p c.trials_left-left.ensures);
      long = f.long;
    }
