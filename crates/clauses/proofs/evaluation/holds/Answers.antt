-- `evaluation::holds` meets its contract: each return rewrites with the test that led there. Assumes nothing.
use borrow.Author.Tests.{eq-eqb, ne_eqb}
use Rattle.model.specs.Consistency.{holds_at}
use Rattle.clauses.proofs.evaluation.holds.Goals as goal

pub returns-then-sign-eq0 : goal.returns-then-sign-eq0
unfolding holds_at
returns-then-sign-eq0 c = rw (holds_at, eq-eqb _ _ c.if-sign-eq0.true)

pub returns : goal.returns
unfolding holds_at
returns c = rw (holds_at, ne_eqb _ _ c.if-sign-eq0.false)
