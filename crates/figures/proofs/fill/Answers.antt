-- `figures::fill` meets its contract. The loop's invariant: whatever function says what the calls answer, the list is filled with its values at the first i codes. Assumes nothing.
use Rattle.std.proofs.Common.{arith}
use Rattle.figures.proofs.Products.{filled_next}
use Rattle.figures.proofs.fill.Goals as goal

pub loop-i-preserved : goal.loop-i-preserved
loop-i-preserved g c give answers =
    let h = c.loop-i in
    filled_next give c.args.codes.now c.args.figures.now h.i c.loop-i-test.true (omega arith) (h.invariant give answers) (answers h.i c.loop-i-test.true c.figure.result c.figure.ensures)
