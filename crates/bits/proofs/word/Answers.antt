-- `bits::word` meets its contract: the law of three bytes. Assumes nothing.
use native.Mathlib.Omega.{arith}
use Prim.Native.Nat.{◌/◌}
use Rattle.bits.proofs.Laws.{three}
use Rattle.bits.proofs.word.Goals as goal

pub returns : goal.returns
returns c =
    omega (arith, three c.args.sheet.now (c.args.place / 8))
