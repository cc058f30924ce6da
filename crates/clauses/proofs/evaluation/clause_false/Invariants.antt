-- `evaluation::clause_false` meets its contract. The loop: the clause is false exactly if the literals from i on fail. Assumes nothing.
use mathlib.Core.Path.{◌≡◌}
use mathlib.Core.List.{map}
use Prim.Native.Nat.{◌*◌, ◌<◌}
use lib.ListN.{length, drop}
use Rattle.model.specs.Lists.{All}
use Rattle.model.specs.Consistency.{clause_false}
use Rattle.model.specs.Tables.{literals}
use Rattle.clauses.specs.Bytes.{given}
use Rattle.clauses.proofs.evaluation.clause_false.Given as goal

abbrev pub invariant-loop-variable : goal.invariant-loop-variable
invariant-loop-variable l =
    All (λ w. w.variable < length l.vals) (literals (drop (3 * l.variable-index) l.part))
    × (clause_false (map given l.vals) (literals l.part) ≡ clause_false (map given l.vals) (literals (drop (3 * l.variable-index) l.part)))
