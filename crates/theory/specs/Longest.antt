-- Specification, "Plant sheet": the most bits of each part of a sheet, and the bytes of the longest. Assumes nothing: these are definitions.
use Rattle.std.specs.Prelude.{ℕ, ◌+◌, ◌*◌, ◌/◌}
use Rattle.model.specs.Sheet.{Edition}

-- the edition and the three counts
abbrev pub head_bits : ℕ
head_bits = 8 + 5 + 6 + 10

-- a decision variable: its size, and the costs of sixteen values
abbrev pub decision_bits : Edition → ℕ
decision_bits e = 4 + 16 * e.cost_bits

-- a state variable: its size
abbrev pub state_bits : ℕ
state_bits = 4

-- a literal: variable, sign and value
abbrev pub literal_bits : ℕ
literal_bits = 6 + 1 + 4

-- a clause: its count, and fifteen literals
abbrev pub clause_bits : ℕ
clause_bits = 4 + 15 * literal_bits

-- up to the clauses: as many decision variables as the edition allows, and 32 state variables
abbrev pub variable_bits : Edition → ℕ
variable_bits e = head_bits + e.most * decision_bits e + 32 * state_bits

-- all fields: 512 clauses besides
abbrev pub field_bits : Edition → ℕ
field_bits e = variable_bits e + 512 * clause_bits

-- the bytes of the longest sheet: its fields, and the filler up to a byte's end
unfoldable pub longest_sheet : Edition → ℕ
longest_sheet e = (field_bits e + 7) / 8

-- the first bytes of a sheet that decide what it is read as: one more
abbrev pub deciding_bytes : Edition → ℕ
deciding_bytes e = longest_sheet e + 1
