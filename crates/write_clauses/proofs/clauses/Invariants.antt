-- `write_clauses::clauses` meets its contract. The loop's invariant: the clauses before the clause i are put, and its literals begin at the byte `from`. Assumes nothing.
use Rattle.theory.specs.Puts.{bits_of}
use Rattle.write_clauses.proofs.Tables.{ClausesTo}
use Rattle.write_clauses.proofs.clauses.Given as goal

abbrev pub invariant-loop-count : goal.invariant-loop-count
invariant-loop-count l = ClausesTo l.place l.counts l.lits (bits_of l.initial.sheet) l.count-index l.left l.at (bits_of l.sheet)
