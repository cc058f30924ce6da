-- The plant that decoded tables hold. Assumes nothing: these are definitions.
use Rattle.std.specs.Prelude.{ℕ, ◌*◌, ◌≤◌, ◌≡◌, List, [], ◌∷◌, map, length, take, drop}
use Rattle.model.specs.Sheet.{Plant, edition1}
use Rattle.model.specs.Tables.{Tables, total, clauses}
use Rattle.theory.specs.Plant.{Accepted}

-- the costs: each decision variable has sixteen entries, of which the first are its costs, as many as its size; the others say nothing
unfoldable pub rows : List ℕ → List ℕ → List (List ℕ)
rows [] costs = []
rows (n ∷ sizes) costs = take n (take 16 costs) ∷ rows sizes (drop 16 costs)

-- the plant that the tables hold: d decision variables, s state variables, c clauses
abbrev pub plant_in : (d s c : ℕ) (sizes costs counts lits : List ℕ) → Plant
plant_in d s c sizes costs counts lits = record {
  costs = rows (take d sizes) costs;
  states = take s (drop d sizes);
  clauses = clauses (take c counts) lits;
}

-- the same where the slices are as long as the plant says: a size for each variable, a count for each clause
abbrev pub plant_from : (d : ℕ) (sizes costs counts lits : List ℕ) → Plant
plant_from d sizes costs counts lits = record {
  costs = rows (take d sizes) costs;
  states = drop d sizes;
  clauses = clauses counts lits;
}

-- a plant's tables: slices as long as it says, of an accepted sheet or of one with no decision variable
pub record Tabled (p : Plant) (d : ℕ) (sizes costs counts lits : List ℕ) : Type 0 where
  pub plant : p ≡ plant_from d sizes costs counts lits
  pub accepted : Accepted edition1 p
  pub decisions : d ≤ length sizes
  pub lengths : map length (rows (take d sizes) costs) ≡ take d sizes
  pub cost-room : 16 * d ≤ length costs
  pub literal-room : 3 * total counts ≤ length lits

-- tables as a call is given them: the three numbers and the four tables
abbrev pub tables_given : (d s c : ℕ) (sizes costs counts literals : List ℕ) → Tables
tables_given d s c sizes costs counts literals = record { decisions = d; states = s; clauses = c; sizes = sizes; costs = costs; counts = counts; literals = literals }
