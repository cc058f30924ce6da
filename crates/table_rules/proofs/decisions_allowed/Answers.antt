-- `table_rules::decisions_allowed` meets its contract: its tests are the model's. Assumes nothing.
use borrow.Author.Rules.{rules}
use borrow.Author.Tests.{tests}
use Rattle.model.specs.Sheet.{edition1, decisions_allowed}
use Rattle.table_rules.proofs.decisions_allowed.Goals as goal

pub returns-then-d-ge1 : goal.returns-then-d-ge1
unfolding edition1 decisions_allowed
returns-then-d-ge1 c = search (rules, tests)

pub returns-else-d-ge1 : goal.returns-else-d-ge1
unfolding edition1 decisions_allowed
returns-else-d-ge1 c = search (rules, tests)
