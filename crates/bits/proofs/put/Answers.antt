-- `bits::put` meets its contract: the law of a field blended into the three bytes around its place. Assumes nothing.
use native.Mathlib.Omega.{arith}
use lib.Pow.{shl_exact}
use Rattle.theory.proofs.Digits.{digits_length}
use Rattle.theory.proofs.Fields.{below_all}
use Rattle.bits.proofs.Putting.{put-blended}
use Rattle.bits.proofs.put.Goals as goal

pub returns : goal.returns
returns c =
    let a = c.args in
    let rest = c.after-rest.result in
    let bytes = below_all 256 a.sheet.now (λ v. omega (arith, c.slice_known-1.given v)) in
    let now = rw (c.outside.ensures, shl_exact a.w rest 32 c.requires.1 (omega arith)) at c.set_word.ensures in
    record {
      buffer = rw now (put-blended a.sheet.now bytes a.place a.w a.v rest c.after-rest.ensures c.requires.0 c.requires.1 c.requires.2);
      ends = omega (arith, digits_length 2 a.w a.v);
    }
