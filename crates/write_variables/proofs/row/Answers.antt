-- `write_variables::row` meets its contract. The loop's invariant: the fields of the costs before place i are put behind the size's. Assumes nothing.
use Prim.Native.Nat.{◌-◌}
use native.Mathlib.Omega.{arith}
use lib.ListN.{length}
use Rattle.model.specs.Sheet.{edition1}
use Rattle.theory.proofs.Digits.{digits_length}
use Rattle.theory.proofs.Puts.{puts_then}
use Rattle.theory.proofs.Bits.{bits_length}
use Rattle.write_variables.proofs.Laws.{fields-start, fields-room, fields-step, fields-end, row_length}
use Rattle.write_variables.proofs.row.Goals as goal

pub put-at-requires : goal.put-at-requires
put-at-requires c = let long = row_length c.args.costs.now in (omega arith, omega arith, omega arith, omega arith)

pub loop-cost-init : goal.loop-cost-init
loop-cost-init c =
    let costs = c.args.costs.now in
    fields-start (omega (arith, row_length costs, digits_length 2 4 (length costs - 1)))

pub put-at-requires-in-loop-cost : goal.put-at-requires-in-loop-cost
put-at-requires-in-loop-cost c =
    let room = fields-room c.loop-cost.invariant c.loop-cost-test.true in
    (omega arith, omega arith, room, omega arith)

pub loop-cost-preserved : goal.loop-cost-preserved
loop-cost-preserved c = fields-step c.loop-cost.invariant c.loop-cost-test.true c.from.ensures (omega arith) c.put-at-in-loop-cost.ensures

pub returns : goal.returns
unfolding edition1
returns c =
    let put = c.put-at in
    puts_then (omega (arith, bits_length c.args.sheet.now)) put.ensures (fields-end c.loop-cost.invariant c.loop-cost-test.false)
