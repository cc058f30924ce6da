-- `figures::product` meets its contract. The loop's invariant: the product so far is of v factors, and with that of the variables left it is the product of all. Assumes nothing.
use Rattle.std.proofs.Common.{◌≡◌, ◌*◌, ◌^◌, ◌≤◌, true}
use Rattle.model.specs.Digits.{digits}
use Rattle.model.specs.Order.{chance}
use Rattle.theory.specs.Words.{sixteens}
use Rattle.words.proofs.Loops.{figure_from}
use Rattle.figures.specs.Weights.{ReadsWeights}
use Rattle.figures.proofs.product.Given as goal

abbrev pub invariant-loop-v : goal.invariant-loop-v
invariant-loop-v l = (l.so_far ≤ 255 ^ l.v) × (ReadsWeights l.d l.prices l.code → l.so_far * figure_from true l.d l.prices (digits 16 16 l.code) l.v ≡ chance (sixteens l.d l.prices) (digits 16 16 l.code))
