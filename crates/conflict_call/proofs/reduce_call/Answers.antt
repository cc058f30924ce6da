-- `reduce_call` meets its contract: by what is answered, where a minimal conflict is asked for. Assumes nothing.
use Rattle.std.proofs.lemmas.Result.{err_from_is_err_and}
use Rattle.conflict_call.proofs.Asking.{reduce-answered, reduce-refused}
use Rattle.conflict_call.proofs.reduce_call.Goals as goal

pub returns : goal.returns
returns c =
    let r = reduce-answered _ _ _ _ c.in_ok-asked.ensures in
    record { answer = r.0; right = r.1 }

pub returns-in_err-asked : goal.returns-in_err-asked
returns-in_err-asked c =
    let e = err_from_is_err_and c.from_residual.result c.from_residual.ensures.1 in
    let r = reduce-refused c.args.sheet.now c.args.mask c.args.values c.args.limit e.0 (rw e.2 c.in_err-asked.ensures.1) in
    rw e.1 record { answer = r.0; right = r.1 }
