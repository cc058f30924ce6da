-- `store::blocks_without` meets its contract. The loop's invariant: no entry of the blocks before this one passes the test. Assumes nothing.
use Prim.Native.Nat.{ℕ, ◌*◌, ◌<◌}
use mathlib.Core.Bool.{false}
use Rattle.store.specs.Store.{pair_at}
use Rattle.store.proofs.blocks_without.Given as goal

abbrev pub invariant-loop-block : goal.invariant-loop-block
invariant-loop-block g l = (i : ℕ) → i < 8 * l.block → goal.F-post g l.passes (pair_at l.store i) false
