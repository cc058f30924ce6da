-- `sets::store_less` meets its contract. The loop: the words of the row before k are stored. Assumes nothing.
use Rattle.clauses.proofs.Rows.{Storing}
use Rattle.clauses.proofs.sets.store_less.Given as goal

abbrev pub invariant-loop-k : goal.invariant-loop-k
invariant-loop-k l = Storing l.initial.to l.table l.held-items l.row l.to l.k
