-- `store::first_from` meets its contract. The loop's invariant: where no entry before the given place passes the test, none before this one does. Assumes nothing.
use Prim.Native.Nat.{ℕ, ◌<◌}
use mathlib.Core.Bool.{false}
use Rattle.store.specs.Store.{pair_at}
use Rattle.store.proofs.first_from.Given as goal

abbrev pub invariant-loop-i : goal.invariant-loop-i
invariant-loop-i g l = ((i : ℕ) → i < l.from → goal.F-post g l.passes (pair_at l.store i) false) → (i : ℕ) → i < l.i → goal.F-post g l.passes (pair_at l.store i) false
