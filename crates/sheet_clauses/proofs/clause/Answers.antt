-- `sheet_clauses::clause` meets its contract: the literals in the table so far and the rest of the readings are the whole clause. Assumes nothing.
use mathlib.Core.Path.{◌≡◌, refl, sym, ◌∙◌}
use native.Mathlib.Omega.{arith}
use lib.ListN.{length-set}
use Rattle.model.specs.Tables.{literals}
use Rattle.sheet_clauses.proofs.Tables.{literals-write}
use Rattle.readings.proofs.Laws.{turn, stop, done, refused_as}
use Rattle.sheet_clauses.proofs.Laws.{clause-got}
use Rattle.sheet_clauses.proofs.clause.Goals as goal

pub loop-i-init : goal.loop-i-init
unfolding literals
loop-i-init c = record {
  small = omega (arith, c.in_ok-count.ensures.fits);
  sheet = c.field.ensures.sheet;
  place = omega arith;
  room = refl;
  reading = clause-got _ _ _ _ _ (sym c.in_ok-count.ensures.read);
}

pub returns-in_err-one-clause-read : goal.returns-in_err-one-clause-read
returns-in_err-one-clause-read c =
    let loop = c.loop-i.invariant in
    refused_as _ _ _ c.from_residual-in_err-one.result c.from_residual-in_err-one.ensures.1 (stop loop.reading (omega arith) (sym (rw loop.sheet at c.in_err-one.ensures.read)))

pub loop-i-preserved : goal.loop-i-preserved
loop-i-preserved c =
    let loop = c.loop-i.invariant in record {
      small = loop.small;
      sheet = c.literal_at.ensures.sheet ∙ loop.sheet;
      place = omega (arith, c.literal_at.ensures.place);
      room = simp length-set loop.room;
      reading = turn loop.reading (omega arith) (sym (rw loop.sheet at c.in_ok-one.ensures.read)) (literals-write c.loop-i.lits c.loop-i.i _ _ _ (omega arith));
    }

pub returns-clause-read : goal.returns-clause-read
returns-clause-read c =
    let all : c.in_ok-count.field-0 ≡ c.loop-i.i = omega arith in
    rw all (sym (done c.loop-i.invariant.reading (omega arith)))
