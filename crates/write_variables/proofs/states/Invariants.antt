-- `write_variables::states` meets its contract. The loop's invariant: the fields of the sizes before place i are put. Assumes nothing.
use Prim.Native.Nat.{◌-◌}
use Rattle.write_variables.proofs.Laws.{FieldsTo}
use Rattle.write_variables.proofs.states.Given as goal

abbrev pub invariant-loop-size : goal.invariant-loop-size
invariant-loop-size l = FieldsTo 4 (λ n. n - 1) l.place l.sizes l.initial.sheet l.size-index l.at l.sheet
