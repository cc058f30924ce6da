-- For callers: tables over more variables. Assumes nothing.
use mathlib.Core.List.{List}
use Prim.Native.Nat.{ℕ, ◌<◌, ◌≤◌}
use native.Mathlib.Omega.{arith}
use Rattle.model.specs.Sheet.{Literal}
use Rattle.model.specs.Tables.{clauses}
use Rattle.theory.proofs.Lists.{all_map}
use Rattle.clauses.specs.Tables.{Tables}

-- tables over n variables are tables over more
pub tables_more : (n m : ℕ) (counts lits : List ℕ) → n ≤ m → Tables n counts lits → Tables m counts lits
tables_more n m counts lits h t = record {
  most = t.most;
  room = t.room;
  below = all_map (all_map {P = λ (l : Literal). l.variable < n} {Q = λ (l : Literal). l.variable < m} (λ l b. omega arith)) (clauses counts lits) t.below;
}
