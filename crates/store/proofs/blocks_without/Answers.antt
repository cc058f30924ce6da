-- `store::blocks_without` meets its contract: where neither four of a block has an entry that passes the test, none of the eight does. Assumes nothing.
use Prim.Native.Nat.{◌*◌}
use native.Mathlib.Omega.{arith}
use Rattle.theory.proofs.Lists.{or_neither}
use Rattle.store.proofs.Scan.{eight_more}
use Rattle.store.proofs.blocks_without.Goals as goal

pub loop-block-preserved : goal.loop-block-preserved
loop-block-preserved g c =
    let h = c.loop-block in
    let first = c.one_of_four in
    let second = c.one_of_four-in-loop-block in
    let neither = or_neither first.result second.result c.if-one_of_four.false in
    eight_more _ (8 * h.block) _ (omega arith) h.invariant (first.ensures neither.0) (second.ensures neither.1)
