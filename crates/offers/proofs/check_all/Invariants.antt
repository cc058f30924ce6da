-- `check_all` meets its contract. The loop's invariant: the check of all offers is the check of those behind place i, with the survivors so far. Assumes nothing.
use mathlib.Core.Path.{◌≡◌}
use Prim.Native.Nat.{◌≤◌}
use lib.ListN.{length}
use Rattle.plan.specs.Plans.{plan_words}
use Rattle.conflict.specs.Given.{ForPlantOf}
use Rattle.offers.proofs.Offering.{CheckedTo}
use Rattle.offers.proofs.check_all.Given as goal

abbrev pub invariant-loop-i : goal.invariant-loop-i
invariant-loop-i l =
    (length l.store ≡ length l.initial.store) × (length l.plan ≡ plan_words) × (l.offered.survivors ≤ l.i) × ForPlantOf l.plant (λ p. CheckedTo p l.limit l.held l.initial.store l.i l.store l.offered)
