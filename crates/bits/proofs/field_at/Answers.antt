-- `bits::field_at` meets its contract: the bytes that a field needs are there exactly when its end is at most the sheet's. Assumes nothing.
use Prim.Native.Nat.{◌+◌, ◌*◌, ◌≤◌, ◌<◌}
use native.Mathlib.Omega.{arith}
use borrow.Author.Tests.{le-leb, lt-leb}
use lib.ListN.{length}
use Rattle.model.specs.Sheet.{field}
use Rattle.bits.proofs.field_at.Goals as goal

pub returns-then-last-sheet : goal.returns-then-last-sheet
unfolding field
returns-then-last-sheet c =
    let fits : c.args.place + c.args.w ≤ 8 * length c.args.sheet.now = omega arith in
    rw (field, le-leb _ _ fits, c.value.ensures)

pub returns-else-last-sheet : goal.returns-else-last-sheet
unfolding field
returns-else-last-sheet c =
    let past : 8 * length c.args.sheet.now < c.args.place + c.args.w = omega arith in
    rw (field, lt-leb _ _ past)
