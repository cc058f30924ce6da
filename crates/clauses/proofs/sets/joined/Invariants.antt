-- `sets::joined` meets its contract. The loop: the words before k are joined, and those from k on are as they were. Assumes nothing.
use Rattle.clauses.proofs.Rows.{Joining}
use Rattle.clauses.proofs.sets.joined.Given as goal

abbrev pub invariant-loop-k : goal.invariant-loop-k
invariant-loop-k l = Joining l.table l.initial.word-items l.row l.word-items l.k
