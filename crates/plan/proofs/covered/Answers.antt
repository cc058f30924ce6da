-- `covered` meets its contract: a word that `and` leaves alone has no clause that the set has not. Assumes nothing.
use mathlib.Core.Path.{◌≡◌}
use Prim.Native.Nat.{ℕ}
use native.Mathlib.Omega.{arith}
use borrow.Author.Tests.{eqb-true, eq-eqb}
use Rattle.plan.proofs.Pairs.{covered_all, covered_first, covered_second}
use Rattle.plan.proofs.covered.Goals as goal

pub returns-then-due-set : goal.returns-then-due-set
returns-then-due-set c =
    let s = c.args in
    record {
      all = λ e. absurd (let z : ◌≡◌ {A = ℕ} 0 1 = cc in omega arith);
      only = λ f. absurd (c.if-due-set.true (covered_first s.plan.now s.v s.set.first s.set.second f (c.shared_slice_known-1.given _).fits));
    }

pub returns : goal.returns
returns c =
    let s = c.args in
    record {
      all = λ e. covered_all s.plan.now s.v s.set.first s.set.second c.if-due-set.false (eqb-true _ _ e);
      only = λ f. eq-eqb _ _ (covered_second s.plan.now s.v s.set.first s.set.second f (c.shared_slice_known-2-1.given _).fits);
    }
