-- `run` meets its contract. The loop's invariant: lent slices keep their lengths, and the run from the start ends as the run from here. The measure is the weight of the queue, read off its words. Assumes nothing.
use mathlib.Core.Path.{◌≡◌}
use Prim.Native.Nat.{ℕ, ◌/◌, ◌<◌}
use lib.ListN.{length, take}
use Rattle.plan.specs.Plans.{plan_words}
use Rattle.model.specs.Sheet.{decision_sizes}
use Rattle.model.specs.Listing.{run}
use Rattle.theory.specs.Nodes.{weights}
use Rattle.judge.specs.Standing.{order_in}
use Rattle.steps.specs.Run.{Steps}
use Rattle.steps.proofs.Running.{queue_weight, Reached}
use Rattle.steps.proofs.run.Given as goal

abbrev pub invariant-loop-more : goal.invariant-loop-more
invariant-loop-more l =
    (length l.plan ≡ plan_words) × (length l.codes ≡ length l.initial.codes) × (length l.values ≡ length l.initial.values) × (length l.queue ≡ length l.initial.queue) × (length l.store ≡ length l.initial.store)
    × ((t : Steps l.query l.initial.plan l.initial.codes l.initial.values l.initial.queue l.initial.store l.initial.g) (fuel : ℕ) → weights (decision_sizes t.question.plant) t.state.queue < fuel
    → Reached t.question l.query.wanted l.query.limit (run t.question.plant (order_in t.question) l.query.wanted (length l.initial.queue / 2) (length l.initial.store / 2) l.query.limit fuel t.state) l.queue l.store l.codes l.values l.g)

abbrev pub decreases-loop-more : goal.decreases-loop-more
decreases-loop-more l = queue_weight l.query.weighed (take l.query.plant.decisions l.query.plant.sizes.now) l.g.queued l.queue
