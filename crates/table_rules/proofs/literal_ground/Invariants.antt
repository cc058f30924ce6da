-- `table_rules::literal_ground` meets its contract: the first ground of all literals is that of those that are left. Assumes nothing.
use mathlib.Core.Path.{◌≡◌}
use mathlib.Core.List.{map}
use lib.ListN.{drop}
use Rattle.model.specs.Lists.{in_turn}
use Rattle.model.specs.Calls.{first_given}
use Rattle.model.specs.TableCalls.{literal_grounds}
use Rattle.table_rules.specs.Triple.{literal_of}
use Rattle.table_rules.proofs.literal_ground.Given as goal

abbrev pub invariant-loop-variable : goal.invariant-loop-variable
invariant-loop-variable l =
    first_given (in_turn (literal_grounds l.domains) (map literal_of l.variable-items)) ≡ first_given (in_turn (literal_grounds l.domains) (map literal_of (drop l.variable-index l.variable-items)))
