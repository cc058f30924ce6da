-- `next_free` meets its contract. The loop: the variables before v are assigned. Assumes nothing.
use mathlib.Core.Path.{◌≡◌}
use Prim.Native.Nat.{ℕ, ◌<◌, ◌≤◌}
use lib.ListN.{get_or}
use Rattle.clauses.specs.Numbers.{unassigned}
use Rattle.row_search.proofs.next_free.Given as goal

abbrev pub invariant-loop-v : goal.invariant-loop-v
invariant-loop-v l = (u : ℕ) → l.from ≤ u → u < l.v → get_or l.vals u 0 ≡ unassigned → ⊥
