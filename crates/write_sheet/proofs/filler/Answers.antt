-- `write_sheet::filler` meets its contract: a field of the number 0 is zero bits. Assumes nothing.
use Prim.Native.Nat.{◌-◌, ◌%◌}
use native.Mathlib.Omega.{arith}
use lib.Pow.{pow_pos}
use Rattle.theory.proofs.Digits.{digits-zero}
use Rattle.write_sheet.proofs.filler.Goals as goal

pub put-requires : goal.put-requires
put-requires c = (omega arith, pow_pos _, omega arith, omega arith)

pub returns : goal.returns
returns c =
    let place = c.args.place in
    rw (digits-zero 2 ((8 - place % 8) % 8)) at c.put.ensures
