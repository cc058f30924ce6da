-- `bits::outside` meets its contract: the shifts are powers. Assumes nothing.
use Prim.Native.Nat.{◌+◌, ◌^◌, ◌≤◌}
use native.Mathlib.Omega.{arith}
use lib.Pow.{pow_pos, pow_mono}
use Rattle.bits.proofs.Laws.{one_shifted}
use Rattle.bits.proofs.outside.Goals as goal

pub overflow_sub-result : goal.overflow_sub-result
overflow_sub-result c = rw (one_shifted (c.args.w + c.args.behind) (omega arith)) (pow_mono {j = 24} c.requires)

pub overflow_sub-result-2 : goal.overflow_sub-result-2
overflow_sub-result-2 c = rw (one_shifted c.args.behind (omega arith)) (pow_pos c.args.behind)

pub overflow_add-result-2 : goal.overflow_add-result-2
overflow_add-result-2 c =
    let low : 2 ^ c.args.behind ≤ 2 ^ 24 = pow_mono {j = 24} (omega arith) in
    omega arith

pub returns : goal.returns
returns c = rw (one_shifted (c.args.w + c.args.behind) (omega arith), one_shifted c.args.behind (omega arith))
