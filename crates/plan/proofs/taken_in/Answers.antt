-- `taken_in` meets its contract: nothing is noted at v, and its row is written where it is unassigned. Assumes nothing.
use mathlib.Core.Path.{refl}
use native.Mathlib.Omega.{arith}
use Rattle.plan.proofs.Plans.{planned-blanked, lent_longer, planned-free, planned-set}
use Rattle.plan.proofs.taken_in.Goals as goal

pub returns-then-a-eq-UNASSIGNED : goal.returns-then-a-eq-UNASSIGNED
returns-then-a-eq-UNASSIGNED c =
    λ p.
    let k = planned-blanked _ _ _ _ _ _ c.args.v _ _ c.requires.0.few (omega (arith, c.requires.0.few, c.requires.1)) p in
    let z = planned-free _ _ _ _ _ _ _ _ _ _ c.args.v (lent_longer _ _ _ _ _ _ (omega (arith, k.0.long)) c.requires.0) c.requires.1 k.0 k.1 _ _ _ refl refl refl c.if-a-eq-UNASSIGNED.true in
    rw (c.with.ensures, c.without-due.ensures, c.at-mentions.ensures, c.from.ensures) z

pub returns : goal.returns
returns c =
    λ p.
    let k = planned-blanked _ _ _ _ _ _ c.args.v _ _ c.requires.0.few (omega (arith, c.requires.0.few, c.requires.1)) p in
    rw (c.with-2.ensures, c.at.ensures, c.from-2.ensures)
    (planned-set _ _ _ _ _ _ _ _ _ _ c.args.v (lent_longer _ _ _ _ _ _ (omega (arith, k.0.long)) c.requires.0) c.requires.1 k.0 k.1 c.if-a-eq-UNASSIGNED.false)
