-- `sets::covers` meets its contract. The loop: `Lacking`, no bit lacks exactly if the words before k have none that the set has not. Assumes nothing.
use Rattle.clauses.proofs.Rows.{Lacking}
use Rattle.clauses.proofs.sets.covers.Given as goal

abbrev pub invariant-loop-k : goal.invariant-loop-k
invariant-loop-k l = Lacking l.table l.held-items l.row l.lacks l.k
