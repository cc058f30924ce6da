-- `conflict_tables` meets its contract: words that no ground refuses hold an assignment of the plant, and the prepared sets make the tables ready for its test. Assumes nothing.
use native.Mathlib.Omega.{arith}
use Rattle.std.proofs.lemmas.Result.{err_from_is_err_and}
use Rattle.theory.proofs.Digits.{zero-at}
use Rattle.clauses.specs.Numbers.{sat_words, uses_words}
use Rattle.clauses.proofs.Callers.{tables_more}
use Rattle.conflict_call.proofs.Asking.{plant-refuses, plant-answers}
use Rattle.conflict.proofs.Given.{plan_long}
use Rattle.conflict_call.proofs.conflict_tables.Goals as goal

pub returns-in_err-fit : goal.returns-in_err-fit
returns-in_err-fit c p costs t =
    let r = err_from_is_err_and c.from_residual.result c.from_residual.ensures.1 in
    rw (r.1, r.2) (plant-refuses t c.args.mask c.args.values c.args.limit c.in_err-fit.ensures)

pub prepare-requires : goal.prepare-requires
prepare-requires c =
    (tables_more _ 48 _ _ c.requires.few c.requires.tables, omega arith, omega arith, zero-at sat_words, zero-at uses_words)

pub conflict_of-requires : goal.conflict_of-requires
conflict_of-requires c =
    record { limits = c.requires; prepared = c.prepare.ensures; planned = plan_long }

pub returns : goal.returns
returns c p costs t =
    plant-answers t _ _ _ (rw c.in_ok-fit.was at c.fit.ensures) c.ranges.mask.fits c.ranges.values.fits (c.conflict_of.ensures p costs t)
