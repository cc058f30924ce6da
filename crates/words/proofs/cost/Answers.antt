-- `words::cost` meets its contract. The loop's invariant: the sum so far, with what the variables left cost, is the cost. Assumes nothing.
use mathlib.Core.Bool.{false}
use native.Mathlib.Omega.{arith}
use Rattle.model.specs.Digits.{digits}
use Rattle.theory.proofs.Digits.{digits_length}
use Rattle.words.proofs.Loops.{figure-step}
use Rattle.words.proofs.cost.Goals as goal

pub loop-v-preserved : goal.loop-v-preserved
loop-v-preserved c =
    let s = c.args in
    let x = c.digit_at in
    let step = rw (← x.ensures.0) at (figure-step false s.d s.costs.now (digits 16 16 s.code) c.loop-v.v (omega arith) (rw (digits_length 16 16 s.code) (omega arith)) (rw (← x.ensures.0) x.ensures.1)) in
    (omega arith, omega (arith, c.from-sum.ensures))
