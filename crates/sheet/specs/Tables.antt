-- What is known of tables that hold an accepted sheet, besides their plant. Assumes nothing: these are definitions.
use Rattle.std.specs.Prelude.{ℕ, ◌*◌, ◌≤◌, ◌≡◌, List, map, length, take}
use Rattle.model.specs.Tables.{total}
use Rattle.theory.specs.Tables.{rows}
use Rattle.readings.specs.Lengths.{clause_bytes}

-- the counts' bounds, that a row is as long as its size says, and that the literals are there
pub record Held (d s c : ℕ) (sizes costs counts lits : List ℕ) : Type 0 where
  pub at_least_one : 1 ≤ d
  pub decisions : d ≤ 16
  pub states : s ≤ 32
  pub clauses : c ≤ 512
  pub lengths : map length (rows (take d sizes) costs) ≡ take d sizes
  pub room : 3 * total (take c counts) ≤ clause_bytes * c
