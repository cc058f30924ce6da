-- `lines::put_named` meets its contract: the number is put after the word. Assumes nothing.
use native.Mathlib.Omega.{arith}
use Rattle.theory.proofs.Puts.{puts_then}
use Rattle.lines.proofs.put_named.Goals as goal

pub returns : goal.returns
returns c = puts_then (omega arith) c.put_bytes-next.ensures c.put_decimal.ensures
