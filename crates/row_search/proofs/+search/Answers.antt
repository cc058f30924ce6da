-- `search` meets its contract: each way out of a turn is a law of `Turns`. Assumes nothing.
use mathlib.Core.Path.{refl}
use native.Mathlib.Omega.{arith}
use Rattle.clauses.specs.Numbers.{most_clauses}
use Rattle.trials.proofs.Turns.{none_left, turn-first, turn_end, turn-stop, turn-again, deep-found, deep-stop, deep-again}
use Rattle.row_search.proofs.+search.Goals as goal
use Rattle.row_search.proofs.+search.Goals.{then-covers_with+in-Inconsistent, else-covers_with}

pub returns-in_default : goal.returns-in_default
returns-in_default t c = none_left most_clauses _ _ _ _ _ _ _ c.requires.bytes c.in_default.ensures c.requires.bytes.same _ _ _ _ refl

pub loop-x-init : goal.loop-x-init
loop-x-init t c = (turn-first most_clauses _ _ _ _ _ _ _ _ _ _ _ c.requires.bytes c.in-Some.ensures.1 (λ q. omega (arith, c.in-Some.ensures.0, c.requires.bytes.same)) refl, c.requires)

pub returns-then-u-limit : goal.returns-then-u-limit
returns-then-u-limit t c =
    turn-stop most_clauses _ _ _ _ _ _ _ _ _ _ _ _ _ _ c.loop-x.invariant.0 c.loop-x-test.true c.if-u-limit.true _ refl

pub returns-in-Consistent : goal.returns-in-Consistent
returns-in-Consistent t c =
    deep-found most_clauses _ _ _ _ _ _ _ _ _ _ _ _ _ _ c.loop-x.invariant.0 c.loop-x-test.true c.if-u-limit.false
    _ _ (rw c.from.ensures) c.covers_with.ensures c.if-covers_with.true _ c.joined-more.ensures.has
    _ _ _ c.search.ensures c.in-Consistent.is _ refl

pub returns-in-Spent : goal.returns-in-Spent
returns-in-Spent t c =
    deep-stop most_clauses _ _ _ _ _ _ _ _ _ _ _ _ _ _ c.loop-x.invariant.0 c.loop-x-test.true c.if-u-limit.false
    _ _ (rw c.from.ensures) c.covers_with.ensures c.if-covers_with.true _ c.joined-more.ensures.has
    _ _ _ c.search.ensures c.in-Spent.is _ refl

pub loop-x-preserved : goal.loop-x-preserved
loop-x-preserved t c =
    let h = c.loop-x.invariant.0 in
    let lt = c.loop-x-test.true in
    let ul = c.if-u-limit.false in
    let e = c.from.ensures in (
      elim c.if-covers_with.branch [
        | then-covers_with+in-Inconsistent w ↦ deep-again most_clauses _ _ _ _ _ _ _ _ _ _ _ _ _ _ h lt ul _ _ (rw e) c.covers_with.ensures w.if-covers_with.true _ w.joined-more.ensures.has
            _ _ _ w.search.ensures w.in-Inconsistent.is w.search.auto.vals _ _ w.vals-is w.u-is
        | else-covers_with w ↦ turn-again most_clauses _ _ _ _ _ _ _ _ _ _ _ _ _ _ h lt ul _ _ (rw e) c.covers_with.ensures w.if-covers_with.false _ _ w.vals-is w.u-is
      ],
      c.loop-x.invariant.1,
    )

pub returns : goal.returns
returns t c = turn_end most_clauses _ _ _ _ _ _ _ _ _ _ _ _ _ _ c.loop-x.invariant.0 c.loop-x-test.false _ refl
