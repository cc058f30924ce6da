-- `children::resolve` meets its contract. The loop's invariant: the children of the members passed have been put, and what is left is the children of the node with those members at the conflict's values. Assumes nothing.
use Rattle.model.specs.Sheet.{decision_sizes}
use Rattle.model.specs.Assignment.{Assignment, Valid}
use Rattle.theory.specs.Words.{Words}
use Rattle.children.specs.Children.{Tables, Step}
use Rattle.children.proofs.Members.{Midway}
use Rattle.children.proofs.resolve.Given as goal

abbrev pub invariant-loop-v : goal.invariant-loop-v
invariant-loop-v l =
    (s : Step l.choices.weighed l.initial.passed l.initial.queue l.n l.store l.m) → Tables s.plant l.choices → (c : Assignment) → Words c l.conflict.mask l.conflict.values → Valid (decision_sizes s.plant) c → Midway s c l.v l.passed l.queue l.entries
