-- `write_variables::row` meets its contract. The loop's invariant: the fields of the costs before place i are put behind the size's. Assumes nothing.
use Rattle.write_variables.proofs.Laws.{FieldsTo}
use Rattle.write_variables.proofs.row.Given as goal

abbrev pub invariant-loop-cost : goal.invariant-loop-cost
invariant-loop-cost l = FieldsTo 16 (λ n. n) l.initial.at l.costs l.initial.sheet l.cost-index l.at l.sheet
