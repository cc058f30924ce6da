-- `figures::product` meets its contract. The loop's invariant: the product so far is of v factors, and with that of the variables left it is the product of all. Assumes nothing.
use Rattle.std.proofs.Common.{◌+◌, ◌*◌, arith}
use Rattle.figures.proofs.Products.{factors_most, eight-most, product-next}
use Rattle.figures.proofs.product.Goals as goal

pub times-so_far-requires : goal.times-so_far-requires
times-so_far-requires c =
    let h = c.loop-v in
    let more = factors_most h.v h.so_far c.factor.result h.invariant.0 c.factor.ensures.1 in
    omega (arith, eight-most (h.v + 1) (h.so_far * c.factor.result) (omega arith) more)

pub loop-v-preserved : goal.loop-v-preserved
loop-v-preserved c =
    let h = c.loop-v in
    let s = c.args in
    let x = c.digit_at in
    let b = c.factor in (
      rw c.times-so_far.ensures (factors_most h.v h.so_far b.result h.invariant.0 b.ensures.1),
      rw c.times-so_far.ensures
          (product-next s.d s.prices.now s.code h.v h.so_far (omega arith) h.invariant.1 x.result b.result (omega arith) x.ensures b.ensures.0),
    )

pub returns-clause-most : goal.returns-clause-most
returns-clause-most c = eight-most c.loop-v.v c.loop-v.so_far (omega arith) c.loop-v.invariant.0
