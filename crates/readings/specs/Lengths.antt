-- How many bits the variables of a sheet have at most, and how long the tables are that hold the largest plant. Assumes nothing: these are definitions.
use Rattle.std.specs.Prelude.{ℕ, ◌+◌, ◌*◌}
use Rattle.theory.specs.Longest.{state_bits}

-- ---- bits of a sheet

-- a decision variable at most: its size and sixteen costs
abbrev pub decision_bits : ℕ
decision_bits = 4 + 16 * 16

-- the variables at most
abbrev pub variable_bits : ℕ
variable_bits = 16 * decision_bits + 32 * state_bits

-- ---- lengths of tables

-- a size for each variable
abbrev pub size_entries : ℕ
size_entries = 48

-- sixteen costs for each decision variable
abbrev pub cost_entries : ℕ
cost_entries = 16 * 16

-- a literal count for each clause
abbrev pub count_entries : ℕ
count_entries = 512

-- three bytes for each of a clause's literals at most, and for those of all clauses
abbrev pub clause_bytes : ℕ
clause_bytes = 15 * 3

abbrev pub literal_bytes : ℕ
literal_bytes = count_entries * clause_bytes
