-- `queue::lesser_child` meets its contract: of two children it returns the one that the test says, and else the only one. Assumes nothing.
use native.Mathlib.Omega.{arith}
use Rattle.queue.specs.Entries.{pairs}
use Rattle.queue.proofs.HeapLaws.{only_child, lesser_by, byte_small}
use Rattle.queue.proofs.lesser_child.Goals as goal

pub overflow_add-result : goal.overflow_add-result
overflow_add-result c = omega (arith, byte_small c.comes_before.result)

pub returns-then-c-n : goal.returns-then-c-n
returns-then-c-n c =
    let x = c.entry_at-x in
    let y = c.entry_at-y in
    rw c.from.ensures (lesser_by c.args.n c.args.i (pairs c.args.queue.now) (x.result.a, x.result.b) (y.result.a, y.result.b) c.comes_before.result (omega arith) x.ensures y.ensures c.comes_before.ensures)

pub returns-else-c-n : goal.returns-else-c-n
returns-else-c-n c = only_child (omega arith) (omega arith) (omega arith) (omega arith)
