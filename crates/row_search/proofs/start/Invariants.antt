-- `start` meets its contract. The loop, from the last variable down: the sets are those of the variables from v on. Assumes nothing.
use mathlib.Core.Path.{◌≡◌}
use mathlib.Core.List.{List}
use lib.ListN.{length}
use Rattle.model.specs.Sheet.{Literal}
use Rattle.clauses.specs.Numbers.{most_clauses, uses_words}
use Rattle.clauses.specs.Sets.{in_set}
use Rattle.trials.specs.Searches.{Lent, Clauses, SetsFrom}
use Rattle.row_search.proofs.start.Given as goal

abbrev pub invariant-loop-v : goal.invariant-loop-v
invariant-loop-v l =
    (length l.last ≡ length l.initial.last)
    × Lent uses_words l.vals l.sat l.uses l.initial.last
    × ((cs : List (List Literal)) → Clauses cs l.vals l.sat l.uses → SetsFrom most_clauses cs l.vals (in_set l.last) (in_set l.held 0) (in_set l.free 0) l.v)
