-- `reduce::reduce` meets its contract. The loop: the model's reduction from v on, with what the two words hold, is the whole. Assumes nothing.
use native.Mathlib.Omega.{arith}
use Rattle.std.proofs.lemmas.Result.{err_from_is_err_and}
use Rattle.conflict.proofs.Given.{ready-again}
use Rattle.conflict.proofs.Turns.{members, going-first, going_next, going-stop, going_end}
use Rattle.conflict.proofs.reduce.reduce.Goals as goal

pub loop-v-init : goal.loop-v-init
loop-v-init c = (c.requires.planned, λ p costs t a w valid. going-first w valid (members t a valid))

pub without-requires : goal.without-requires
without-requires c =
    (ready-again c.requires c.loop-v.invariant.0, omega arith)

pub returns-in_err-now : goal.returns-in_err-now
returns-in_err-now c =
    let q = err_from_is_err_and c.from_residual.result c.from_residual.ensures.1 in
    record {
      answer = λ p costs t a w valid.
          let g = c.loop-v.invariant.1 p costs t a w valid in
          rw (q.1, q.2) (going-stop g (omega arith) _ (c.without.ensures.answer p costs t g.now g.held.words g.held.valid) c.in_err-now.was);
      long = c.without.ensures.long;
    }

pub loop-v-preserved : goal.loop-v-preserved
loop-v-preserved c =
    let h = c.loop-v in (
      c.without.ensures.long,
      λ p costs t a w valid.
          let g = h.invariant.1 p costs t a w valid in
          going_next g (omega arith) _ (c.without.ensures.answer p costs t g.now g.held.words g.held.valid) c.in_ok-now.was,
    )

pub returns : goal.returns
returns c = record {
  answer = λ p costs t a w valid. going_end (c.loop-v.invariant.1 p costs t a w valid) (omega arith);
  long = c.loop-v.invariant.0;
}
