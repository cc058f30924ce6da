-- `words::after` meets its contract: a shift past the first nibbles leaves those after them. Assumes nothing.
use native.Mathlib.Omega.{arith}
use native.Mathlib.Nat.{mod-one}
use Rattle.theory.proofs.Digits.{zero-from}
use Rattle.theory.proofs.WordsSet.{values_beyond}
use Rattle.words.proofs.after.Goals as goal

pub returns-then-d-eq-DECISIONS : goal.returns-then-d-eq-DECISIONS
returns-then-d-eq-DECISIONS c =
    rw (c.if-d-eq-DECISIONS.true, zero-from 16 16 16 c.args.values (omega arith) (omega arith), mod-one c.args.values)

pub returns : goal.returns
returns c = values_beyond c.args.values c.args.d (omega arith)
