-- `write_clauses::clause` meets its contract. The loop's invariant: the literals before the byte i are put. Assumes nothing.
use Rattle.theory.specs.Puts.{bits_of}
use Rattle.write_clauses.proofs.Literals.{LiteralsTo}
use Rattle.write_clauses.proofs.clause.Given as goal

abbrev pub invariant-loop-triple : goal.invariant-loop-triple
invariant-loop-triple l = LiteralsTo l.initial.at l.triples (bits_of l.initial.sheet) l.triple-index l.at (bits_of l.sheet)
