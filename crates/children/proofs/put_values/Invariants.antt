-- `children::put_values` meets its contract. The loop's invariant: the children of the values passed have been put. Assumes nothing.
use mathlib.Core.Path.{◌≡◌}
use mathlib.Core.Option.{none}
use lib.ListN.{get_or}
use Rattle.std.proofs.Common.{Ok}
use Rattle.model.specs.Lists.{values_from}
use Rattle.children.specs.Children.{Tables, Step, Puts, variants}
use Rattle.children.proofs.put_values.Given as goal

abbrev pub invariant-loop-x : goal.invariant-loop-x
invariant-loop-x l =
    (s : Step l.choices.weighed l.node l.initial.queue l.n l.store l.m) → Tables s.plant l.choices → get_or s.parent l.v none ≡ none
    → Puts s (variants s.parent l.v l.but (values_from 0 l.x)) l.queue (Ok l.entries)
