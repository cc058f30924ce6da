-- `write_variables::decisions` meets its contract. The loop's invariant: the rows before place i are put, and the costs that are left belong to the others. Assumes nothing.
use Rattle.write_variables.proofs.Laws.{RowsTo}
use Rattle.write_variables.proofs.decisions.Given as goal

abbrev pub invariant-loop-size : goal.invariant-loop-size
invariant-loop-size l = RowsTo l.place l.sizes l.costs l.initial.sheet l.size-index l.left l.at l.sheet
