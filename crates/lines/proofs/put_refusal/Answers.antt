-- `lines::put_refusal` meets its contract: the word, the number and the line feed are put. Assumes nothing.
use native.Mathlib.Omega.{arith}
use Rattle.model.specs.Text.{refusal_line}
use Rattle.theory.proofs.Puts.{puts_then}
use Rattle.lines.proofs.Lines.{refusal_length}
use Rattle.lines.proofs.put_refusal.Goals as goal

pub put_named-numbered-requires : goal.put_named-numbered-requires
put_named-numbered-requires c = omega (arith, refusal_length c.args.number)

pub put_bytes-requires : goal.put_bytes-requires
put_bytes-requires c = omega (arith, refusal_length c.args.number)

pub returns : goal.returns
unfolding refusal_line
returns c = puts_then (omega arith) c.put_named-numbered.ensures c.put_bytes.ensures
