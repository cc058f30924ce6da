-- `tests::fill` meets its contract. The loop: the bytes before v are those of the variables. Assumes nothing.
use Prim.Native.Nat.{◌-◌}
use mathlib.Core.Path.{◌∙◌}
use native.Mathlib.Omega.{arith}
use borrow.Author.Count.{below_more}
use lib.ListN.{length, length-set}
use lib.Seq.{get_or-set_same, get_or-set_other}
use Rattle.model.specs.Assignment.{assignment_of}
use Rattle.theory.proofs.Words.{assignment_length}
use Rattle.conflict.proofs.Bytes.{by_bytes}
use Rattle.conflict.proofs.tests.fill.Goals as goal

pub loop-v-init : goal.loop-v-init
loop-v-init c = (omega arith, λ k h. absurd (omega arith))

pub loop-v-preserved : goal.loop-v-preserved
loop-v-preserved c =
    let h = c.loop-v in (
      simp length-set h.invariant.0,
      below_more _ _ (λ k l. get_or-set_other h.vals h.v k c.byte_at.result 0 (λ e. omega arith) ∙ h.invariant.1 k l)
          (get_or-set_same h.vals h.v c.byte_at.result 0 (omega (arith, h.invariant.0)) ∙ c.byte_at.ensures),
    )

pub shape_of-vals : goal.shape_of-vals
shape_of-vals c = c.loop-v.invariant.0

pub returns : goal.returns
returns c =
    let h = c.loop-v in
    by_bytes (assignment_of c.args.d c.args.mask c.args.values) (length c.args.vals.now - c.args.d) h.vals
    (omega (arith, h.invariant.0, assignment_length c.args.d c.args.mask c.args.values c.requires.0))
    (λ k l. h.invariant.1 k (omega arith))
