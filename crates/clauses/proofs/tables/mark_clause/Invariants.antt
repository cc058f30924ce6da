-- `tables::mark_clause` meets its contract. The loop: the rows of the literals from this one on are still to come. Assumes nothing.
use mathlib.Core.Path.{◌≡◌}
use Prim.Native.Nat.{◌*◌, ◌<◌}
use lib.ListN.{length, drop}
use Rattle.model.specs.Lists.{All}
use Rattle.model.specs.Tables.{literals}
use Rattle.theory.specs.Search.{mentions}
use Rattle.clauses.specs.Numbers.{variables}
use Rattle.clauses.specs.Sets.{clause_rows}
use Rattle.clauses.proofs.Marks.{Marking}
use Rattle.clauses.proofs.tables.mark_clause.Given as goal

abbrev pub invariant-loop-variable : goal.invariant-loop-variable
invariant-loop-variable l =
    (length l.sat ≡ length l.initial.sat)
    × (length l.uses ≡ length l.initial.uses)
    × All (λ l. l.variable < variables) (literals (drop (3 * l.variable-index) l.part))
    × Marking (clause_rows (literals (drop (3 * l.variable-index) l.part))) (clause_rows (literals l.part)) l.initial.sat l.c l.sat
    × Marking (λ v. mentions v (literals (drop (3 * l.variable-index) l.part))) (λ v. mentions v (literals l.part)) l.initial.uses l.c l.uses
