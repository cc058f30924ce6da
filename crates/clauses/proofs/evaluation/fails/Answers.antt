-- `evaluation::fails` meets its contract: a clear clause is known not to be false. Assumes nothing.
use mathlib.Core.Path.{sym}
use Rattle.clauses.proofs.evaluation.fails.Goals as goal

pub returns-then-clear : goal.returns-then-clear
returns-then-clear c = sym (c.requires.1 c.if-clear.true)
