-- `evaluation::literal_fails` meets its contract: 16 gives nothing, and any other byte its value. Assumes nothing.
use Rattle.clauses.specs.Bytes.{fails_at}
use Rattle.clauses.proofs.Bytes.{given-none, given_some}
use Rattle.clauses.proofs.evaluation.literal_fails.Goals as goal

pub returns-then-a-eq-UNASSIGNED : goal.returns-then-a-eq-UNASSIGNED
unfolding fails_at
returns-then-a-eq-UNASSIGNED c = rw (given-none _ c.if-a-eq-UNASSIGNED.true)

pub returns : goal.returns
unfolding fails_at
returns c = rw (given_some _ c.if-a-eq-UNASSIGNED.false, c.holds.ensures)
