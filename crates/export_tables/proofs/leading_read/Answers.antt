-- `leading_read` meets its contract: the number of a refusal, or 0 with the tables that the call filled. Assumes nothing.
use mathlib.Core.Path.{◌∙◌}
use Rattle.read_call.specs.Lent.{tables_lent}
use Rattle.export_tables.proofs.Saving.{read-exported, refused_returns, tables_returns}
use Rattle.export_tables.proofs.leading_read.Goals as goal

pub returns-in-Err : goal.returns-in-Err
returns-in-Err c =
    let called = c.read_call in
    let s = c.args in
    let told = read-exported s.sheet.now (tables_lent s.sizes.now s.costs.now s.counts.now s.literals.now s.numbers.now) _ _ (c.number.ensures ∙ refused_returns s.sheet.now called.result called.ensures.equation.0 c.in-Err.is) called.ensures.equation.1 called.ensures.right in
    record { equation = told.0; right = told.1 }

pub returns-in-Ok : goal.returns-in-Ok
returns-in-Ok c =
    let called = c.read_call in
    let s = c.args in
    let told = read-exported s.sheet.now (tables_lent s.sizes.now s.costs.now s.counts.now s.literals.now s.numbers.now) _ _ (tables_returns s.sheet.now called.result called.ensures.equation.0 c.in-Ok.is) called.ensures.equation.1 called.ensures.right in
    record { equation = told.0; right = told.1 }
