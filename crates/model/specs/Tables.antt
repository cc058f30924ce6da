-- Specification, "Tables": the tables of a plant, and the sheet that is written of them, field by field as it is read. Assumes nothing: these are definitions.
use Rattle.std.specs.Prelude.{List, [], ◌∷◌, ◌++◌, map, ℕ, zero, suc, ◌+◌, ◌-◌, ◌*◌, ◌/◌, length, take, drop}
use Rattle.model.specs.Lists.{in_turn}
use Rattle.model.specs.Digits.{number, digits}
use Rattle.model.specs.Sheet.{Literal, Plant, sizes, Edition}

-- ---- tables

-- the numbers of decision variables, of state variables and of clauses; the size of each domain, decision variables first; for each decision variable the cost of each of its values in turn; the literal count of each clause; the literals, three bytes each. No table has gaps.
pub record Tables : Type 0 where
  pub decisions : ℕ
  pub states : ℕ
  pub clauses : ℕ
  pub sizes : List ℕ
  pub costs : List ℕ
  pub counts : List ℕ
  pub literals : List ℕ

-- what bytes and counts add up to
unfoldable pub total : List ℕ → ℕ
total [] = 0
total (n ∷ counts) = n + total counts

-- the costs: the first decision variable has as many as the first size says, and so on, without gaps
unfoldable pub cost_rows : List ℕ → List ℕ → List (List ℕ)
cost_rows [] costs = []
cost_rows (n ∷ sizes) costs = take n costs ∷ cost_rows sizes (drop n costs)

-- the literals that the bytes hold: variable, sign, value, three bytes each
unfoldable pub literals : List ℕ → List Literal
literals [] = []
literals (v ∷ []) = []
literals (v ∷ s ∷ []) = []
literals (v ∷ s ∷ x ∷ bytes) = record { variable = v; sign = s; value = x } ∷ literals bytes

-- the clauses: the first has as many literals as the first count says, and so on, without gaps
unfoldable pub clauses : List ℕ → List ℕ → List (List Literal)
clauses [] bytes = []
clauses (n ∷ counts) bytes = literals (take (3 * n) bytes) ∷ clauses counts (drop (3 * n) bytes)

-- the plant that tables hold
abbrev pub plant_of : Tables → Plant
plant_of t = record {
  costs = cost_rows (take t.decisions t.sizes) t.costs;
  states = drop t.decisions t.sizes;
  clauses = clauses t.counts t.literals;
}

-- the three bytes of a literal
abbrev pub literal_bytes : Literal → List ℕ
literal_bytes l = l.variable ∷ l.sign ∷ l.value ∷ []

-- the tables of a plant
abbrev pub tables_of : Plant → Tables
tables_of p = record {
  decisions = length p.costs;
  states = length p.states;
  clauses = length p.clauses;
  sizes = sizes p;
  costs = in_turn (λ row. row) p.costs;
  counts = map length p.clauses;
  literals = in_turn (in_turn literal_bytes) p.clauses;
}

-- ---- the sheet of a plant

-- a decision variable: domain size less 1, then for each value a cost
abbrev pub decision_written : Edition → List ℕ → List ℕ
decision_written e costs = digits 2 4 (length costs - 1) ++ in_turn (digits 2 e.cost_bits) costs

-- a state variable: domain size less 1
abbrev pub state_written : ℕ → List ℕ
state_written size = digits 2 4 (size - 1)

-- a literal: variable, sign, value
abbrev pub literal_written : Literal → List ℕ
literal_written l = digits 2 6 l.variable ++ (digits 2 1 l.sign ++ digits 2 4 l.value)

-- a clause: the literal count, then the literals
abbrev pub clause_written : List Literal → List ℕ
clause_written c = digits 2 4 (length c) ++ in_turn literal_written c

-- what follows the four counts
abbrev pub body_written : Edition → Plant → List ℕ
body_written e p = in_turn (decision_written e) p.costs ++ (in_turn state_written p.states ++ in_turn clause_written p.clauses)

-- the edition, the numbers of decision variables, of state variables and of clauses, and what follows them
unfoldable pub plant_written : Edition → Plant → List ℕ
plant_written e p =
    digits 2 8 e.number ++ (digits 2 5 (length p.costs) ++ (digits 2 6 (length p.states) ++ (digits 2 10 (length p.clauses) ++ body_written e p)))

-- n bytes of bits, most significant first; behind the last bit there are zeros
unfoldable pub packed : ℕ → List ℕ → List ℕ
packed zero bits = []
packed (suc n) bits = number 2 8 (take 8 bits) ∷ packed n (drop 8 bits)

-- the sheet of a plant: as many bytes as its bits need
unfoldable pub sheet_of : Edition → Plant → List ℕ
sheet_of e p = packed ((length (plant_written e p) + 7) / 8) (plant_written e p)
