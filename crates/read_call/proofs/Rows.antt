-- Costs put row by row, without gaps: start, step and end of the loop. Assumes nothing.
use mathlib.Core.Path.{◌≡◌, refl, ap, ◌∙◌}
use mathlib.Core.List.{List, ◌∷◌, ◌++◌, append_assoc}
use Prim.Native.Nat.{ℕ, ◌+◌, ◌-◌, ◌*◌, ◌≤◌, ◌<◌}
use native.Mathlib.Omega.{arith}
use native.Mathlib.Numerals.{add-one}
use lib.ListN.{length, get_or, take, drop, length-drop, drop_of_length-le}
use lib.Seq.{drop-cons, drop-drop, length-take-le}
use Rattle.model.specs.Lists.{All, in_turn, filled}
use Rattle.theory.specs.Plant.{Sized}
use Rattle.theory.specs.Puts.{Puts, written}
use Rattle.theory.specs.Tables.{rows}
use Rattle.theory.proofs.Puts.{written_length, puts-front, PutsBefore, part-start, part_step, part_end}

-- the costs of decision variables, without gaps
abbrev pub costs_of : (sizes costs : List ℕ) → List ℕ
costs_of sizes costs = in_turn (λ row. row) (rows sizes costs)

-- the costs of the variables before the place v are put; those that are left are of the others
pub record RowsTo (sizes costs before : List ℕ) (v : ℕ) (left : List ℕ) (next : ℕ) (out : List ℕ) : Type 0 where
  pub most : next ≤ 16 * v
  pub kept : length out ≡ length before
  pub sized : All Sized (drop v sizes)
  pub there : 16 * length (drop v sizes) ≤ length left
  pub put : PutsBefore 0 (costs_of sizes costs) (costs_of (drop v sizes) left) before next out

module _ {sizes costs before : List ℕ} where
  pub rows_start : All Sized sizes → 16 * length sizes ≤ length costs → RowsTo sizes costs before 0 costs 0 before
  rows_start sized there = record { most = omega arith; kept = refl; sized = sized; there = there; put = part-start 0 (costs_of sizes costs) before }

  module _ {v next : ℕ} {left out : List ℕ} (s : RowsTo sizes costs before v left next out) (l : v < length sizes) where
    opened : drop v sizes ≡ get_or sizes v 0 ∷ drop (v + 1) sizes
    opened = rw (add-one, drop-cons sizes v 0 l)

    both : Sized (get_or sizes v 0) × All Sized (drop (v + 1) sizes)
    both = rw opened at s.sized

    count : length (drop v sizes) ≡ 1 + length (drop (v + 1) sizes)
    count = ap length opened ∙ omega arith

    -- the variable has at most sixteen values
    pub row-most : get_or sizes v 0 ≤ 16
    row-most = both.0.1

    -- sixteen entries are there
    pub row-there : 16 ≤ length left
    row-there = omega (arith, s.there, count)

    -- its costs
    abbrev pub row_at : List ℕ
    row_at = take (get_or sizes v 0) (take 16 left)

    pub row_length : length row_at ≡ get_or sizes v 0
    row_length = length-take-le (get_or sizes v 0) (take 16 left) (rw (length-take-le 16 left row-there) row-most)

    -- they find room
    pub rows-room : 16 * length sizes ≤ length before → next + get_or sizes v 0 ≤ length out
    rows-room h = omega (arith, s.most, s.kept, row-most)

    rows_next : costs_of (drop v sizes) left ≡ row_at ++ costs_of (drop (v + 1) sizes) (drop 16 left)
    unfolding rows
    rows_next = rw opened

    -- they are put
    pub rows_step : {out' : List ℕ} → 16 * length sizes ≤ length before → Puts next row_at out (next + get_or sizes v 0) out' → RowsTo sizes costs before (v + 1) (drop 16 left) (next + get_or sizes v 0) out'
    rows_step room t = record {
      most = omega (arith, s.most, row-most);
      kept = ap length t.buffer ∙ written_length next row_at out (omega (arith, row_length, rows-room room)) ∙ s.kept;
      sized = both.1;
      there = omega (arith, length-drop 16 left, s.there, count);
      put = part_step s.put (omega arith) rows_next t;
    }

  pub rows_end : {v next : ℕ} {left out : List ℕ} → length sizes ≤ v → RowsTo sizes costs before v left next out → out ≡ filled (costs_of sizes costs) before
  unfolding rows
  rows_end {v} l s = puts-front (part_end (rw (drop_of_length-le sizes {i = v} l)) s.put)

-- n places that are written over with a text are that text put there
pub row-put : (next n : ℕ) (text out : List ℕ) → length text ≡ n → Puts next text out (next + n) (take next out ++ (text ++ drop (next + n - next) (drop next out)))
unfolding written
row-put next n text out e =
    let k : next + n - next ≡ n = omega arith in
    record { buffer = rw (k, ← e, drop-drop, written, append_assoc); ends = rw e }
