-- `evaluation::clause_false` meets its contract. The loop: the clause is false exactly if the literals from this one on fail. Assumes nothing.
use mathlib.Core.Path.{sym, ◌∙◌}
use native.Mathlib.Omega.{arith}
use Rattle.clauses.proofs.Parts.{below_step, false-step, false-end}
use Rattle.clauses.proofs.evaluation.clause_false.Goals as goal

pub bounds-vals-from : goal.bounds-vals-from
bounds-vals-from c =
    let b = below_step _ _ c.as_chunks.ensures.front _ c.loop-variable-test.true _ c.loop-variable.invariant.0 in
    omega (arith, c.from.ensures)

pub loop-variable-preserved : goal.loop-variable-preserved
loop-variable-preserved c =
    let b = below_step _ _ c.as_chunks.ensures.front _ c.loop-variable-test.true _ c.loop-variable.invariant.0 in
    let e = rw c.from.ensures at c.literal_fails.ensures in
    (b.1, c.loop-variable.invariant.1 ∙ false-step _ _ c.as_chunks.ensures.front _ c.loop-variable-test.true c.args.vals.now _ b.0 e ∙ rw c.if-not-literal_fails.false)

pub returns-then-not-literal_fails : goal.returns-then-not-literal_fails
returns-then-not-literal_fails c =
    let b = below_step _ _ c.as_chunks.ensures.front _ c.loop-variable-test.true _ c.loop-variable.invariant.0 in
    let e = rw c.from.ensures at c.literal_fails.ensures in
    sym (c.loop-variable.invariant.1 ∙ false-step _ _ c.as_chunks.ensures.front _ c.loop-variable-test.true c.args.vals.now _ b.0 e ∙ rw c.if-not-literal_fails.true)

pub returns : goal.returns
returns c = sym (c.loop-variable.invariant.1 ∙ false-end _ _ c.as_chunks.ensures.front _ c.loop-variable-test.false _)
