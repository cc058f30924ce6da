-- `sheet::ending` meets its contract: the filler is zero exactly where its bits are zero as a number. Assumes nothing.
use mathlib.Core.Path.{sym}
use native.Mathlib.Omega.{arith}
use Rattle.sheet.proofs.Ways.{end-filled, end_early, end-there}
use Rattle.sheet.proofs.ending.Goals as goal

pub returns-then-value-ne0 : goal.returns-then-value-ne0
returns-then-value-ne0 c = λ p. sym (end-filled _ p _ (λ z. omega arith))

pub returns-then-end-reader : goal.returns-then-end-reader
returns-then-end-reader c = λ p. sym (end_early _ p _ (omega arith) (λ e. omega arith))

pub returns : goal.returns
returns c = λ p. sym (end-there _ p _ (omega arith) (omega arith))
