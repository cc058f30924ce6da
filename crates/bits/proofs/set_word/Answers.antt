-- `bits::set_word` meets its contract: the law of three bytes blended one by one. Assumes nothing.
use Prim.Native.Nat.{◌/◌}
use native.Mathlib.Omega.{arith}
use Rattle.theory.proofs.Fields.{below_all}
use Rattle.bits.proofs.Putting.{blended-three}
use Rattle.bits.proofs.set_word.Goals as goal

pub returns : goal.returns
returns c =
    let bytes = below_all 256 c.args.sheet.now (λ v. omega (arith, c.slice_known-1.given v)) in
    blended-three c.args.sheet.now bytes (c.args.place / 8) c.args.keep c.args.field c.set_byte.new.sheet c.set_byte-2.new.sheet c.set_byte-3.new.sheet
    c.set_byte.ensures c.set_byte-2.ensures c.set_byte-3.ensures
