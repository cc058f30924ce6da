-- No line is longer than its bound. Assumes nothing.
use mathlib.Core.List.{List, [], ◌∷◌}
use Prim.Native.Nat.{ℕ, ◌+◌, ◌*◌, ◌≤◌}
use native.Mathlib.Omega.{arith}
use lib.ListN.{length, take, length-append, length-take}
use Rattle.model.specs.Order.{Entry}
use Rattle.model.specs.Calls.{entries_of}
use Rattle.model.specs.Text.{state_line, state_lines, refusal_line}
use Rattle.theory.proofs.Decimal.{decimal-most}
use Rattle.lines.specs.Lines.{lines_of, counts_of, line_bytes, counts_bytes, refusal_bytes}
use Rattle.lines.proofs.Lines.{line_length, counts_length, refusal_length}

-- a state's line
line_most : (rank : ℕ) (e : Entry) → length (state_line rank e) ≤ line_bytes
line_most rank e = omega (arith, line_length rank e.figure e.code, decimal-most rank, decimal-most e.figure)

-- the lines of states
lines-most : (rank : ℕ) (es : List Entry) → length (state_lines rank es) ≤ line_bytes * length es
unfolding state_lines
lines-most rank [] = omega arith
lines-most rank (e ∷ es) = omega (arith, length-append (state_line rank e) (state_lines (rank + 1) es), line_most rank e, lines-most (rank + 1) es)

-- no more states than codes
entries-most : (codes costs : List ℕ) → length (entries_of codes costs) ≤ length codes
entries-most [] ds = omega arith
entries-most (c ∷ cs) [] = omega arith
entries-most (c ∷ cs) (d ∷ ds) = omega (arith, entries-most cs ds)

-- the lines of the states listed
pub listed-most : (codes costs : List ℕ) (listed : ℕ) → length (lines_of codes costs listed) ≤ line_bytes * listed
listed-most codes costs listed =
    omega
    (arith, lines-most 1 (entries_of (take listed codes) (take listed costs)), entries-most (take listed codes) (take listed costs), length-take listed codes)

-- the counts
pub counts-most : (listed tested learned unkept trials : ℕ) → length (counts_of listed tested learned unkept trials) ≤ counts_bytes
counts-most listed tested learned unkept trials =
    omega (arith, counts_length listed tested learned unkept trials, decimal-most listed, decimal-most tested, decimal-most learned, decimal-most unkept, decimal-most trials)

-- a refusal's line
pub refusal-most : (n : ℕ) → length (refusal_line n) ≤ refusal_bytes
refusal-most n = omega (arith, refusal_length n, decimal-most n)
