-- `write_clauses::clauses` meets its contract. The loop's invariant: the clauses before the clause i are put, and the bytes that are left hold those of the others. Assumes nothing.
use Prim.Native.Nat.{◌*◌}
use native.Mathlib.Omega.{arith}
use lib.ListN.{length}
use Rattle.theory.proofs.Bits.{bits_length}
use Rattle.write_clauses.proofs.Tables.{clauses-first, bytes-there, bytes_most, bytes-narrow, clause-room, clauses-next, clauses-put}
use Rattle.write_clauses.proofs.clauses.Goals as goal

pub loop-count-init : goal.loop-count-init
loop-count-init c = let p = c.requires in clauses-first p.0 p.1 p.2

pub split_at-requires : goal.split_at-requires
split_at-requires c = omega (arith, bytes-there c.loop-count-test.true c.loop-count.invariant)

pub clause-at-requires : goal.clause-at-requires
clause-at-requires c =
    let h = c.loop-count.invariant in
    let room = clause-room c.loop-count-test.true h (8 * length c.args.sheet.now) c.requires.3 in
    rw (c.split_at.ensures.front, c.from.ensures) (bytes_most c.loop-count-test.true h, bytes-narrow c.loop-count-test.true h, omega (arith, room), omega arith)

pub loop-count-preserved : goal.loop-count-preserved
loop-count-preserved c =
    let halves = c.split_at.ensures in
    rw (halves.back, c.from.ensures) (clauses-next c.loop-count-test.true c.loop-count.invariant (omega (arith, bits_length c.args.sheet.now)) (rw (halves.front, c.from.ensures) at c.clause-at.ensures))

pub returns : goal.returns
returns c = clauses-put c.loop-count-test.false c.loop-count.invariant
