-- `sheet_variables::row` meets its contract: the figures in the table so far and the rest of the readings are the whole row. Assumes nothing.
use Prim.Native.Nat.{◌+◌, ◌<◌}
use mathlib.Core.Path.{◌≡◌, sym, ap, ◌∙◌}
use mathlib.Core.List.{◌++◌}
use native.Mathlib.Omega.{arith}
use lib.ListN.{length, take, drop, length-set}
use lib.Seq.{length-take-le, take_all, take_at}
use Rattle.model.specs.Sheet.{got}
use Rattle.readings.proofs.Tables.{take_write}
use Rattle.readings.proofs.Laws.{turn, stop, done, refused_as}
use Rattle.sheet_variables.proofs.Laws.{decision_got}
use Rattle.sheet_variables.proofs.row.Goals as goal

pub loop-cost-init : goal.loop-cost-init
loop-cost-init c = record {
  small = omega (arith, c.in_ok-size.ensures.fits);
  sheet = c.field.ensures.sheet;
  place = omega arith;
  long = length-take-le c.from.result c.args.costs.now (omega (arith, c.in_ok-size.ensures.fits)) ∙ c.from.ensures;
  reading = decision_got _ _ _ _ _ (sym c.in_ok-size.ensures.read);
}

pub returns-in_err-cost-clause-read : goal.returns-in_err-cost-clause-read
returns-in_err-cost-clause-read c =
    let loop = c.loop-cost.invariant in
    refused_as _ _ _ c.from_residual-in_err-cost.result c.from_residual-in_err-cost.ensures.1 (stop loop.reading (omega arith) (sym (rw loop.sheet at c.in_err-cost.ensures.read)))

pub loop-cost-preserved : goal.loop-cost-preserved
loop-cost-preserved c =
    let l = c.loop-cost in
    let loop = l.invariant in
    let room : l.cost-index < length l.figures = omega arith in record {
      small = loop.small;
      sheet = c.figure.ensures.sheet ∙ loop.sheet;
      place = omega (arith, c.figure.ensures.place);
      long = length-set l.figures l.cost-index _ ∙ loop.long;
      reading = turn loop.reading (omega arith) (sym (rw loop.sheet at c.in_ok-cost.ensures.read)) (take_write l.figures l.cost-index _ room);
    }

pub returns-clause-read : goal.returns-clause-read
returns-clause-read c =
    let l = c.loop-cost in
    let front : take (c.in_ok-size.field-0 + 1) (l.figures ++ drop c.from.result c.args.costs.now) ≡ l.figures = take_at _ _ _ l.invariant.long in
    let all : take l.cost-index l.figures ≡ l.figures = take_all l.cost-index l.figures (omega arith) in
    ap (λ s. got s l.reader.place) (front ∙ sym all) ∙ sym (done l.invariant.reading (omega arith))
