-- `test_call` meets its contract: by what is answered, where the conflict is the whole. Assumes nothing.
use Rattle.conflict_call.proofs.Asking.{test-answered, test-refused}
use Rattle.conflict_call.proofs.test_call.Goals as goal

pub returns-in-Ok : goal.returns-in-Ok
returns-in-Ok c =
    let r = test-answered _ _ _ _ c.in-Ok.ensures _ c.ending.ensures in
    record { answer = r.0; values = r.1.0; right = r.1.1 }

pub returns-in-Err : goal.returns-in-Err
returns-in-Err c =
    let r = test-refused c.args.sheet.now c.args.mask c.args.values c.args.limit c.in-Err.refusal c.in-Err.ensures.0 in
    record { answer = r.0; values = r.1.0; right = r.1.1 }
