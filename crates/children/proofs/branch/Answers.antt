-- `children::branch` meets its contract: where all variables are assigned there are no children, and otherwise they are the variants of the lowest that is not. Assumes nothing.
use Rattle.children.proofs.Walk.{branch_none, lowest, branch_puts}
use Rattle.children.proofs.branch.Goals as goal

pub returns-in_default : goal.returns-in_default
returns-in_default c s t = branch_none s t c.in_default.ensures.lowest

pub returns : goal.returns
returns c s t =
    let v = c.in-Some.v in
    let told = c.in-Some.ensures in
    branch_puts s t v told.inside told.lowest _ _ (c.put_values.ensures s t (lowest s t v told.inside told.lowest).1)
