-- `sheet_variables::decisions` meets its contract: the rows in the table so far and the rest of the readings are all of them. Assumes nothing.
use Prim.Native.Nat.{◌*◌}
use mathlib.Core.Path.{◌≡◌, refl, sym, ap, ◌∙◌}
use native.Mathlib.Omega.{arith}
use lib.ListN.{take, length-set}
use lib.Seq.{take_all}
use borrow.Rule.Slice.PartMut.{same_len_mid}
use Rattle.model.specs.Sheet.{got}
use Rattle.theory.specs.Tables.{rows}
use Rattle.readings.proofs.Tables.{part-long}
use Rattle.sheet_variables.proofs.Tables.{rows_write, lengths-write}
use Rattle.readings.proofs.Laws.{begin, turn, stop, done, refused_as}
use Rattle.sheet_variables.proofs.decisions.Goals as goal

pub loop-i-init : goal.loop-i-init
unfolding rows
loop-i-init c = record { sheet = refl; place = omega arith; sizes = refl; costs = refl; lengths = refl; reading = begin _ _ }

pub returns-in_err-size-clause-read : goal.returns-in_err-size-clause-read
returns-in_err-size-clause-read c =
    let loop = c.loop-i.invariant in
    refused_as _ _ _ c.from_residual.result c.from_residual.ensures.1 (stop loop.reading (omega arith) (sym (rw loop.sheet at c.in_err-size.ensures.read)))

pub loop-i-preserved : goal.loop-i-preserved
loop-i-preserved c =
    let l = c.loop-i in
    let loop = l.invariant in
    let row = c.row in
    let part = row.new.costs in
    let n = c.in_ok-size.field-0 in
    let long = part-long l.costs part (16 * l.i) 16 row.auto.costs (omega arith) in
    let more = rows_write l.sizes l.costs part l.i n (omega arith) (omega arith) c.in_ok-size.ensures.size in record {
      sheet = row.ensures.sheet ∙ loop.sheet;
      place = omega (arith, row.ensures.place);
      sizes = length-set l.sizes l.i n ∙ loop.sizes;
      costs = same_len_mid (16 * l.i) _ l.costs part row.auto.costs ∙ loop.costs;
      lengths = lengths-write l.sizes part l.i n (rows (take l.i l.sizes) l.costs) _ (omega arith) (omega (arith, c.in_ok-size.ensures.size)) loop.lengths more;
      reading = turn loop.reading (omega arith) (sym (rw loop.sheet at c.in_ok-size.ensures.read)) more;
    }

pub returns : goal.returns
returns c =
    let l = c.loop-i in
    let loop = l.invariant in
    let all : take l.i l.sizes ≡ l.sizes = take_all l.i l.sizes (omega arith) in record {
      sheet = loop.sheet;
      place = omega arith;
      lengths = rw all at loop.lengths;
      read = ap (λ s. got (rows s l.costs) l.reader.place) (sym all) ∙ sym (done loop.reading (omega arith));
    }
