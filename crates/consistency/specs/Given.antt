-- What is given to the test. Assumes nothing: these are definitions.
use Rattle.std.specs.Prelude.{◌≡◌, List, ℕ, ◌≤◌, length, get_or}
use Rattle.model.specs.Tables.{clauses}
use Rattle.clauses.specs.Numbers.{variables, values, unassigned}
use Rattle.clauses.specs.Tables.{Tables, Prepared}
use Rattle.clauses.specs.declared.tables.Decoded.{Decoded}

-- what the test is given: at most 48 variables with at most 16 values, a byte for each, their clauses, and the tables made of these
pub record Given (sizes counts lits sat uses vals : List ℕ) : Type 0 where
  pub few : length sizes ≤ variables
  pub small : (v : ℕ) → get_or sizes v 0 ≤ values
  pub same : length vals ≡ length sizes
  pub bytes : (v : ℕ) → get_or vals v 0 ≤ unassigned
  pub tables : Tables (length sizes) counts lits
  pub ready : Prepared (clauses counts lits) sat uses

-- the same of a plant's tables in one
abbrev pub GivenFor : Decoded → (vals : List ℕ) → Type 0
GivenFor plant vals = Given plant.sizes.now plant.counts.now plant.lits.now plant.sat.now plant.uses.now vals
