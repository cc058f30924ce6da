-- `write_variables::decisions` meets its contract. The loop's invariant: the rows before place i are put, and the costs that are left belong to the others. Assumes nothing.
use native.Mathlib.Omega.{arith}
use Rattle.write_variables.proofs.Laws.{rows_start, row-there, row_sized, row_room, rows_step, rows_end}
use Rattle.write_variables.proofs.decisions.Goals as goal

pub loop-size-init : goal.loop-size-init
loop-size-init c = rows_start c.requires.0 c.requires.1 c.requires.2

pub split_at-requires : goal.split_at-requires
split_at-requires c = omega (arith, row-there c.loop-size.invariant c.loop-size-test.true)

pub row-at-requires : goal.row-at-requires
row-at-requires c =
    let h = c.loop-size in
    rw (c.split_at.ensures.front, c.from.ensures) (row_sized h.invariant c.loop-size-test.true, row_room h.invariant c.loop-size-test.true, omega arith)

pub loop-size-preserved : goal.loop-size-preserved
loop-size-preserved c =
    let halves = c.split_at.ensures in
    rw (halves.back, c.from.ensures) (rows_step c.loop-size.invariant c.loop-size-test.true (omega arith) (rw (halves.front, c.from.ensures) at c.row-at.ensures))

pub shape_of-sheet : goal.shape_of-sheet
shape_of-sheet c = c.loop-size.invariant.long

pub returns : goal.returns
returns c = rows_end c.loop-size.invariant c.loop-size-test.false
