-- `answer_text::leading_text` meets its contract: the call's answer is the model's, and its lines are put. Assumes nothing.
use mathlib.Core.Path.{sym, ap, ◌∙◌}
use native.Mathlib.Omega.{arith}
use Rattle.model.specs.Text.{refusal_line, program_buffers}
use Rattle.lines.proofs.Room.{refusal-most}
use Rattle.refusal.specs.Refusal.{refusal_of}
use Rattle.listing.specs.Listing.{buffers}
use Rattle.answer_text.proofs.Room.{run-most}
use Rattle.answer_text.proofs.Answering.{refused_text, ran_text, puts_whole}
use Rattle.answer_text.proofs.leading_text.Goals as goal

pub put_refusal-requires : goal.put_refusal-requires
put_refusal-requires c = omega (arith, refusal-most c.number.result)

pub put_run-requires : goal.put_run-requires
put_run-requires c =
    let promised = rw c.in-Ok.is at c.list.ensures.1 in (
      omega (arith, promised.3.at-most-k),
      omega (arith, promised.3.at-most-k),
      omega (arith, run-most c.list.new.codes c.list.new.costs c.in-Ok.ran (omega (arith, promised.3.at-most-k))),
    )

pub returns-in-Err : goal.returns-in-Err
unfolding program_buffers
returns-in-Err c =
    let number = c.number in
    let sheet = c.args.sheet.now in
    let after = buffers c.list.new.codes c.list.new.costs c.list.new.values c.list.new.queue c.list.new.store in
    let put = puts_whole
    (refused_text sheet (refusal_of c.in-Err.refusal) after (rw c.in-Err.is at c.list.ensures.0) ∙ ap refusal_line (sym number.ensures))
    (omega (arith, refusal-most number.result))
    c.put_refusal.ensures in
    record { out_after = put.0; within = put.1 }

pub returns-in-Ok : goal.returns-in-Ok
unfolding program_buffers
returns-in-Ok c =
    let sheet = c.args.sheet.now in
    let after = buffers c.list.new.codes c.list.new.costs c.list.new.values c.list.new.queue c.list.new.store in
    let promised = rw c.in-Ok.is at c.list.ensures.1 in
    let put = puts_whole
    (ran_text sheet c.in-Ok.ran after (rw c.in-Ok.is at c.list.ensures.0))
    (omega (arith, run-most c.list.new.codes c.list.new.costs c.in-Ok.ran (omega (arith, promised.3.at-most-k))))
    c.put_run.ensures in
    record { out_after = put.0; within = put.1 }
