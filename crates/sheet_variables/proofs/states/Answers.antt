-- `sheet_variables::states` meets its contract: the sizes in the table so far and the rest of the readings are all of them. Assumes nothing.
use Prim.Native.Nat.{◌<◌}
use mathlib.Core.Path.{◌≡◌, refl, sym, ap, ◌∙◌}
use native.Mathlib.Omega.{arith}
use lib.ListN.{length, take, length-set}
use lib.Seq.{take_all}
use Rattle.model.specs.Sheet.{got}
use Rattle.readings.proofs.Tables.{take_write}
use Rattle.readings.proofs.Laws.{begin, turn, stop, done, refused_as}
use Rattle.sheet_variables.proofs.Laws.{state-got, state-past}
use Rattle.sheet_variables.proofs.states.Goals as goal

pub loop-size-init : goal.loop-size-init
loop-size-init c = record { sheet = refl; place = omega arith; long = refl; reading = begin _ _ }

pub returns-in_err-less-clause-read : goal.returns-in_err-less-clause-read
returns-in_err-less-clause-read c =
    let loop = c.loop-size.invariant in
    refused_as _ _ _ c.from_residual.result c.from_residual.ensures.1 (stop loop.reading c.loop-size-test.true (state-past _ _ _ (sym (rw loop.sheet at c.in_err-less.ensures.read))))

pub loop-size-preserved : goal.loop-size-preserved
loop-size-preserved c =
    let l = c.loop-size in
    let loop = l.invariant in
    let one = state-got _ _ _ _ (sym (rw loop.sheet at c.in_ok-less.ensures.read)) in
    let room : l.size-index < length l.sizes = omega arith in record {
      sheet = c.field.ensures.sheet ∙ loop.sheet;
      place = omega (arith, c.field.ensures.place);
      long = length-set l.sizes l.size-index _ ∙ loop.long;
      reading = turn loop.reading c.loop-size-test.true one (take_write l.sizes l.size-index _ room);
    }

pub returns-clause-read : goal.returns-clause-read
returns-clause-read c =
    let l = c.loop-size in
    let all : take l.size-index l.sizes ≡ l.sizes = take_all l.size-index l.sizes (omega arith) in
    ap (λ s. got s l.reader.place) (sym all) ∙ sym (done l.invariant.reading (omega arith))
