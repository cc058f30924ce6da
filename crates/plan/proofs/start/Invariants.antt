-- `start` meets its contract. The loop, from the last variable down: what is made is the plan from v on. Assumes nothing.
use mathlib.Core.Path.{◌≡◌}
use lib.ListN.{length}
use Rattle.clauses.specs.Pairs.{of_pair}
use Rattle.trials.specs.Searches.{Lent}
use Rattle.plan.specs.Plans.{plan_words, Planned}
use Rattle.plan.proofs.start.Given as goal

abbrev pub invariant-loop-v : goal.invariant-loop-v
invariant-loop-v l =
    Lent plan_words l.vals l.sat l.uses l.plan
    × (length l.vals ≡ length l.sizes)
    × Planned l.sizes l.vals l.sat l.uses l.plan l.s.next (of_pair l.s.held) (of_pair l.s.open) l.v
