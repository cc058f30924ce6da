-- `sets::covers_with` meets its contract: a first word that is not covered ends it; otherwise the joined set tells. Assumes nothing.
use mathlib.Core.Path.{◌≡◌}
use Prim.Native.Nat.{ℕ}
use native.Mathlib.Omega.{arith}
use Rattle.clauses.proofs.Rows.{first-inside, covers-joined}
use Rattle.clauses.proofs.sets.covers_with.Goals as goal

pub returns-then-due-set : goal.returns-then-due-set
returns-then-due-set c =
    let s = c.args in
    record {
      all = λ e. absurd (let z : ◌≡◌ {A = ℕ} 0 1 = cc in omega arith);
      only = λ f. absurd (c.if-due-set.true (first-inside s.table.now s.set s.other.now s.row s.at f (c.shared_slice_known-1.given _).fits));
    }

pub returns : goal.returns
returns c = covers-joined _ _ _ _ _ _ _ c.joined.ensures c.covers.ensures
