-- `start` meets its contract. The loop, from the last variable down: what is made is the plan from v on. Assumes nothing.
use mathlib.Core.Path.{◌≡◌}
use Prim.Native.Nat.{◌+◌, ◌-◌}
use native.Mathlib.Omega.{arith}
use lib.ListN.{length, set, length-set}
use lib.Seq.{get_or-set_same}
use Rattle.plan.specs.Plans.{count_place, plan_words}
use Rattle.plan.proofs.Plans.{lent_longer, planned-end}
use Rattle.plan.proofs.start.Goals as goal

pub loop-v-init : goal.loop-v-init
loop-v-init c =
    let p = c.requires in
    let long : length (set c.args.plan.now count_place (length c.args.vals.now)) ≡ plan_words = simp length-set p.2 in
    (lent_longer _ _ _ _ _ _ (omega (arith, long)) p.0, p.1, planned-end _ _ _ _ _ (get_or-set_same c.args.plan.now count_place _ 0 (omega (arith, p.2))) long)

pub taken_in-s-requires : goal.taken_in-s-requires
taken_in-s-requires c =
    let h = c.loop-v in
    (h.invariant.0, omega arith, h.invariant.1)

pub loop-v-preserved : goal.loop-v-preserved
loop-v-preserved c =
    let h = c.loop-v in
    let e : h.v ≡ h.v - 1 + 1 = omega arith in
    let p = c.taken_in-s.ensures (rw e at h.invariant.2) in
    (lent_longer _ _ _ _ _ _ (omega (arith, p.long)) h.invariant.0, h.invariant.1, p)

pub returns : goal.returns
returns c =
    let h = c.loop-v in
    let e : h.v ≡ 0 = omega arith in
    rw e at h.invariant.2
