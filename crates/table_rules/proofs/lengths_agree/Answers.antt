-- `table_rules::lengths_agree` meets its contract: its tests are the model's, in their order. Assumes nothing.
use borrow.Author.Rules.{rules}
use borrow.Author.Tests.{tests}
use Rattle.model.specs.TableCalls.{lengths_agree}
use Rattle.table_rules.proofs.lengths_agree.Goals as goal

pub returns-then-counts-c : goal.returns-then-counts-c
unfolding lengths_agree
returns-then-counts-c c prices bytes ep eb = search (rules, tests)

pub returns-else-counts-c : goal.returns-else-counts-c
unfolding lengths_agree
returns-else-counts-c c prices bytes ep eb = search (rules, tests)
