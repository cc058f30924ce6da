-- `words::cost` meets its contract. The loop's invariant: the sum so far, with what the variables left cost, is the cost. Assumes nothing.
use Prim.Native.Nat.{◌+◌, ◌*◌, ◌≤◌}
use mathlib.Core.Path.{◌≡◌}
use mathlib.Core.Bool.{false}
use Rattle.model.specs.Digits.{digits}
use Rattle.model.specs.Order.{cost}
use Rattle.theory.specs.Words.{sixteens}
use Rattle.words.proofs.Loops.{figure_from}
use Rattle.words.proofs.cost.Given as goal

abbrev pub invariant-loop-v : goal.invariant-loop-v
invariant-loop-v l = (l.sum ≤ 65535 * l.v) × (l.sum + figure_from false l.d l.costs (digits 16 16 l.code) l.v ≡ cost (sixteens l.d l.costs) (digits 16 16 l.code))
