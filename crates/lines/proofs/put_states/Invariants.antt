-- `lines::put_states` meets its contract. The loop's invariant: the lines before place i are put. Assumes nothing.
use Rattle.lines.proofs.Lines.{LinesTo}
use Rattle.lines.proofs.put_states.Given as goal

abbrev pub invariant-loop-i : goal.invariant-loop-i
invariant-loop-i l = LinesTo l.at l.codes l.costs l.initial.out l.listed l.i l.next l.out
