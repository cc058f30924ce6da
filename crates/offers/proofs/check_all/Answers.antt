-- `check_all` meets its contract. The loop's invariant: the check of all offers is the check of those behind place i, with the survivors so far. Assumes nothing.
use mathlib.Core.Path.{refl, ◌∙◌}
use native.Mathlib.Omega.{arith}
use Rattle.std.proofs.lemmas.Result.{err_from_is_err_and}
use Rattle.theory.proofs.Tables.{tabled-count, tabled-few}
use Rattle.offers.proofs.Offering.{checked-start, checked-next, checked_broken, checked-end}
use Rattle.offers.proofs.check_all.Goals as goal

pub loop-i-init : goal.loop-i-init
loop-i-init c = (refl, c.requires.0.planned, omega arith, λ p costs t. checked-start (omega (arith, tabled-count t, tabled-few t)))

pub returns-in_err-offered-clause-answer : goal.returns-in_err-offered-clause-answer
returns-in_err-offered-clause-answer c p costs t =
    let so_far = c.loop-i.invariant.3 p costs t in
    let e = err_from_is_err_and c.from_residual.result c.from_residual.ensures.1 in
    rw (e.1, e.2) (checked_broken so_far (c.in_err-offered.ensures.one p costs t c.args.held so_far.found (omega arith) (omega arith) so_far.long so_far.keeps))

pub loop-i-preserved : goal.loop-i-preserved
loop-i-preserved c = (
  c.check.auto.store ∙ c.loop-i.invariant.0,
  c.check.ensures.long,
  omega (arith, c.in_ok-offered.ensures.few),
  λ p costs t. let so_far = c.loop-i.invariant.3 p costs t in
      checked-next so_far (c.in_ok-offered.ensures.one p costs t c.args.held so_far.found (omega arith) (omega arith) so_far.long so_far.keeps),
)

pub returns-clause-answer : goal.returns-clause-answer
returns-clause-answer c p costs t = checked-end (c.loop-i.invariant.3 p costs t) (omega arith)
