-- `read_call::fill_costs` meets its contract. The loop's invariant: the costs of the variables before the place are put. Assumes nothing.
use Rattle.read_call.proofs.Rows.{RowsTo}
use Rattle.read_call.proofs.fill_costs.Given as goal

abbrev pub invariant-loop-size : goal.invariant-loop-size
invariant-loop-size l = RowsTo l.sizes l.costs l.initial.out l.size-index l.left l.at l.out
