-- `read_call::fill_costs` meets its contract. The loop's invariant: the costs of the variables before the place are put. Assumes nothing.
use Rattle.read_call.proofs.Rows.{rows_start, row_length, rows_step, rows_end, row-put}
use Rattle.read_call.proofs.fill_costs.Goals as goal

pub loop-size-init : goal.loop-size-init
loop-size-init c = rows_start c.requires.0 c.requires.1

pub loop-size-preserved : goal.loop-size-preserved
loop-size-preserved c =
    let h = c.loop-size in
    let more = c.loop-size-test.true in
    rw (c.split_at.ensures.back, c.copy_from_slice.ensures.after, c.split_at.ensures.front, c.from-n.ensures)
    (rows_step h.invariant more c.requires.2 (row-put h.at _ _ h.out (row_length h.invariant more)))

pub returns : goal.returns
returns c = rows_end c.loop-size-test.false c.loop-size.invariant
