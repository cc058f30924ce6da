-- `table_rules::fields_fit` meets its contract: its tests are the model's, in their order. Assumes nothing.
use borrow.Author.Rules.{rules}
use borrow.Author.Tests.{tests}
use Rattle.model.specs.TableCalls.{fields_fit}
use Rattle.table_rules.proofs.fields_fit.Goals as goal

pub returns-then-counted : goal.returns-then-counted
unfolding fields_fit
returns-then-counted c d s e costs = search (rules, tests)

pub returns-else-counted : goal.returns-else-counted
unfolding fields_fit
returns-else-counted c d s e costs = search (rules, tests)
