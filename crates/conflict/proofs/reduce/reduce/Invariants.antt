-- `reduce::reduce` meets its contract. The loop: the model's reduction from v on, with what the two words hold, is the whole. Assumes nothing.
use mathlib.Core.Path.{◌≡◌}
use lib.ListN.{length}
use Rattle.plan.specs.Plans.{plan_words}
use Rattle.conflict.specs.Given.{ForWordsOf}
use Rattle.conflict.proofs.Turns.{Going}
use Rattle.conflict.proofs.reduce.reduce.Given as goal

abbrev pub invariant-loop-v : goal.invariant-loop-v
invariant-loop-v l =
    (length l.plan ≡ plan_words)
    × ForWordsOf l.plant l.mask l.values (λ p a. Going p l.limit l.plant.decisions a l.used l.now.mask l.now.values l.now.trials l.v)
