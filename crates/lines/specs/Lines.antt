-- The lines of states and of counts as their words give them, and the bytes that none exceeds. Assumes nothing: these are definitions.
use Rattle.std.specs.Prelude.{List, ℕ, ◌+◌, ◌*◌, take}
use Rattle.model.specs.Calls.{entries_of}
use Rattle.model.specs.Text.{most_decimals, code_digits, state_line, state_lines, counts_line}

-- the line of one state
abbrev pub line_of : (rank cost code : ℕ) → List ℕ
line_of rank cost code = state_line rank (record { code = code; figure = cost })

-- the lines of the states listed, from the first
abbrev pub lines_of : (codes costs : List ℕ) (listed : ℕ) → List ℕ
lines_of codes costs listed = state_lines 1 (entries_of (take listed codes) (take listed costs))

-- the line of the counts
abbrev pub counts_of : (listed tested learned unkept trials : ℕ) → List ℕ
counts_of listed tested learned unkept trials = counts_line (record { listed = listed; tested = tested; learned = learned; unkept = unkept; trials = trials })

-- ---- room

-- the bytes of a state's line at most: rank, cost and code, two spaces and a line feed
abbrev pub line_bytes : ℕ
line_bytes = most_decimals + most_decimals + code_digits + 3

-- the bytes of the counts at most: five numbers, four names and a line feed
abbrev pub counts_bytes : ℕ
counts_bytes = 5 * most_decimals + 33 + 1

-- the bytes of a refusal's line at most: the word, the number and a line feed
abbrev pub refusal_bytes : ℕ
refusal_bytes = 8 + most_decimals + 1
