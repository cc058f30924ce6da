-- `tables::mark` meets its contract. An equal literal has one row or none. The loop, for an unequal one: the rows of the values from x on are still to come. Assumes nothing.
use mathlib.Core.Path.{◌≡◌}
use lib.ListN.{length}
use Rattle.clauses.specs.Sets.{literal_rows}
use Rattle.clauses.proofs.Marks.{Marking, rows_from}
use Rattle.clauses.proofs.tables.mark.Given as goal

abbrev pub invariant-loop-x : goal.invariant-loop-x
invariant-loop-x l = (length l.sat ≡ length l.initial.sat) × Marking (rows_from l.var l.sign l.value l.x) (literal_rows l.var l.sign l.value) l.initial.sat l.c l.sat
