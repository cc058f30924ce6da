-- `write_variables::states` meets its contract. The loop's invariant: the fields of the sizes before place i are put. Assumes nothing.
use native.Mathlib.Omega.{arith}
use Rattle.theory.specs.Plant.{Sized}
use Rattle.theory.proofs.Lists.{all-at}
use Rattle.write_variables.proofs.Laws.{fields-start, fields-room, fields-step, fields-end}
use Rattle.write_variables.proofs.states.Goals as goal

pub loop-size-init : goal.loop-size-init
loop-size-init c = fields-start c.requires.1

pub put-at-requires : goal.put-at-requires
put-at-requires c =
    let most = (all-at 0 Sized c.args.sizes.now c.requires.0 c.loop-size.size-index c.loop-size-test.true).1 in
    let room = fields-room c.loop-size.invariant c.loop-size-test.true in
    (omega arith, omega arith, room, omega arith)

pub loop-size-preserved : goal.loop-size-preserved
loop-size-preserved c = fields-step c.loop-size.invariant c.loop-size-test.true c.from.ensures (omega arith) c.put-at.ensures

pub shape_of-sheet : goal.shape_of-sheet
shape_of-sheet c = c.loop-size.invariant.long

pub returns : goal.returns
returns c = fields-end c.loop-size.invariant c.loop-size-test.false
