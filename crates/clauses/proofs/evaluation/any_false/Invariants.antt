-- `evaluation::any_false` meets its contract. Where the set has all clauses, none is false. The loop: some clause is false exactly if one from i on is; a clause of the set is known not to be. Assumes nothing.
use mathlib.Core.Path.{◌≡◌}
use mathlib.Core.List.{map}
use lib.ListN.{length, drop}
use Rattle.model.specs.Consistency.{any_false}
use Rattle.model.specs.Tables.{clauses}
use Rattle.theory.proofs.TableClauses.{Along}
use Rattle.clauses.specs.Bytes.{given}
use Rattle.clauses.proofs.evaluation.any_false.Given as goal

abbrev pub invariant-loop-i : goal.invariant-loop-i
invariant-loop-i l =
    Along (length l.vals) l.counts l.lits l.i l.at
    × (any_false (map given l.vals) (clauses l.counts l.lits) ≡ any_false (map given l.vals) (drop l.i (clauses l.counts l.lits)))
