-- `table_rules::literal_ground` meets its contract: the first ground of all literals is that of those that are left. Assumes nothing.
use mathlib.Core.Path.{sym, ◌∙◌}
use native.Mathlib.Omega.{arith}
use borrow.Author.Tests.{ltb-true, ltb-false}
use Rattle.table_rules.proofs.Laws.{triples-step, triples-end, absent, outside, inside, no_literal}
use Rattle.table_rules.proofs.literal_ground.Goals as goal

pub returns-in_default : goal.returns-in_default
returns-in_default c =
    let loop = c.loop-variable in
    let items = c.triples-variable-items in
    rw (← items.ensures) (sym (loop.invariant ∙ absent c.args.domains.now (triples-step items.result.now loop.variable-index c.loop-variable-test.true) (omega (arith, ltb-false _ _ (sym c.in_default.ensures.lookup.0)))))

pub returns-then-value-size : goal.returns-then-value-size
returns-then-value-size c =
    let loop = c.loop-variable in
    let items = c.triples-variable-items in
    let there = c.in-Some.ensures.lookup in
    rw (← items.ensures) (sym (loop.invariant ∙ outside c.args.domains.now (triples-step items.result.now loop.variable-index c.loop-variable-test.true) (omega (arith, ltb-true _ _ (sym there.0))) (omega (arith, rw c.from.ensures at (there.3.1 0)))))

pub loop-variable-preserved : goal.loop-variable-preserved
loop-variable-preserved c =
    let loop = c.loop-variable in
    let items = c.triples-variable-items in
    let there = c.in-Some.ensures.lookup in
    loop.invariant ∙ inside c.args.domains.now (triples-step items.result.now loop.variable-index c.loop-variable-test.true) (omega (arith, ltb-true _ _ (sym there.0))) (omega (arith, rw c.from.ensures at (there.3.1 0)))

pub returns : goal.returns
returns c =
    let loop = c.loop-variable in
    let items = c.triples-variable-items in
    rw (← items.ensures) (sym (loop.invariant ∙ no_literal c.args.domains.now (triples-end items.result.now loop.variable-index c.loop-variable-test.false)))
