-- `tables::prepare` meets its contract. The loop: both tables have the clauses before i, whose literals end at `at`. Assumes nothing.
use Rattle.clauses.proofs.Filling.{Filling}
use Rattle.clauses.proofs.tables.prepare.Given as goal

abbrev pub invariant-loop-i : goal.invariant-loop-i
invariant-loop-i l = Filling l.counts l.lits l.initial.sat l.initial.uses l.sat l.uses l.at l.i
