-- Numbers by the names that they have in the code: what a plant has at most (crate `limits`), and how long sets of clauses and their tables are. Assumes nothing: these are definitions.
use Rattle.std.specs.Prelude.{ℕ}

-- variables, and values of one; as a byte in an assignment, one that is unassigned
abbrev pub variables : ℕ
variables = 48

abbrev pub values : ℕ
values = 16

abbrev pub unassigned : ℕ
unassigned = 16

-- clauses, and those that a set of two words has room for
abbrev pub most_clauses : ℕ
most_clauses = 512

abbrev pub pair_clauses : ℕ
pair_clauses = 128

-- words of a set, of the table with a set for each variable and value, and of that with a set for each variable
abbrev pub set_words : ℕ
set_words = 8

abbrev pub sat_words : ℕ
sat_words = 6144

abbrev pub uses_words : ℕ
uses_words = 384
