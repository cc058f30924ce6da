-- `write_sheet::head` meets its contract: four fields, one after another. Assumes nothing.
use mathlib.Core.List.{append_assoc}
use native.Mathlib.Omega.{arith}
use borrow.Author.Rules.{rules}
use Rattle.model.specs.Digits.{digits}
use Rattle.theory.proofs.Puts.{puts_then}
use Rattle.write_sheet.proofs.head.Goals as goal

pub put-at-requires-2 : goal.put-at-requires-2
unfolding digits
put-at-requires-2 c = search rules

pub put-at-requires-3 : goal.put-at-requires-3
unfolding digits
put-at-requires-3 c = search rules

pub put-requires : goal.put-requires
unfolding digits
put-requires c = search rules

pub returns : goal.returns
returns c = simp append_assoc at (puts_then (omega arith) (puts_then (omega arith) (puts_then (omega arith) c.put-at.ensures c.put-at-2.ensures) c.put-at-3.ensures) c.put.ensures)
