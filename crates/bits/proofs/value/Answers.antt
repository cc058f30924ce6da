-- `bits::value` meets its contract: the law of a field in three bytes. Assumes nothing.
use native.Mathlib.Omega.{arith}
use lib.Pow.{pow_pos}
use Rattle.theory.proofs.Fields.{below_all}
use Rattle.bits.proofs.Laws.{one_shifted, in_three}
use Rattle.bits.proofs.value.Goals as goal

pub overflow_sub-result : goal.overflow_sub-result
overflow_sub-result c = rw (one_shifted c.args.w (omega arith)) (pow_pos c.args.w)

pub returns : goal.returns
returns c =
    let bytes = below_all 256 c.args.sheet.now (λ v. omega (arith, c.type_inv.sheet v)) in
    in_three c.args.sheet.now bytes c.args.place c.args.w c.word-all.result c.after-behind.result c.requires c.word-all.ensures c.after-behind.ensures
