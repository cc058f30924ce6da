-- `sets::joined_if` meets its contract: one case for each way. Assumes nothing.
use mathlib.Core.Path.{sym}
use mathlib.Core.Bool.{or-false}
use Rattle.clauses.proofs.sets.joined_if.Goals as goal

pub joined-requires : goal.joined-requires
joined-requires c = c.requires c.if-on.true

pub returns-then-on : goal.returns-then-on
returns-then-on c = rw c.if-on.true c.joined.ensures

pub returns : goal.returns
returns c = record { has = λ k l. rw c.if-on.false (sym (or-false _)) }
