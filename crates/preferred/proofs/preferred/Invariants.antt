-- `preferred::preferred` meets its contract. The loop's invariant: the word so far hands in the best values of the first v variables. Assumes nothing.
use lib.ListN.{take}
use Rattle.theory.specs.Tables.{rows}
use Rattle.theory.specs.Value.{Better, BestValues}
use Rattle.preferred.proofs.preferred.Given as goal

abbrev pub invariant-loop-v : goal.invariant-loop-v
invariant-loop-v l = BestValues (Better l.weighed) (take l.v (rows (take l.d l.sizes) l.costs)) l.word
