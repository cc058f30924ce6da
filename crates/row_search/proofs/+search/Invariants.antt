-- `search` meets its contract. The loop over the values of v: `Turn`, and each way out of a turn is a law of `Turns`.
-- The measure is the variables from `from` on; each descent sets the first unassigned one of them and begins behind it (`fewer-set` of trials/proofs/Descents). Assumes nothing.
use Prim.Native.Nat.{◌-◌}
use lib.ListN.{length}
use Rattle.clauses.specs.Numbers.{most_clauses}
use Rattle.clauses.specs.Sets.{in_set}
use Rattle.trials.specs.Searches.{Any}
use Rattle.trials.proofs.Turns.{Turn}
use Rattle.row_search.specs.Room.{Room}
use Rattle.row_search.proofs.+search.Given as goal

abbrev pub decreases-search : goal.decreases-search
decreases-search l = length l.sizes.now - l.from

abbrev pub invariant-loop-x : goal.invariant-loop-x
invariant-loop-x l =
    Turn most_clauses Any l.sizes (in_set l.sat) (in_set l.last) l.initial.vals (in_set l.held 0) l.from l.v l.used l.limit l.size l.vals l.u l.x
    × Room l.sizes l.sat l.last l.initial.vals l.from
