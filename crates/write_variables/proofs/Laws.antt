-- Laws of the loops that put the variables: one field for each number of a table, the rows of costs as the sizes part them, and the sizes behind them. Assumes nothing.
use mathlib.Core.Path.{◌≡◌, refl, ap, ◌∙◌}
use mathlib.Core.List.{List, ◌∷◌, ◌++◌}
use Prim.Native.Nat.{ℕ, ◌+◌, ◌-◌, ◌*◌, ◌≤◌, ◌<◌}
use native.Mathlib.Omega.{arith}
use native.Mathlib.Numerals.{add-one}
use lib.ListN.{length, get_or, take, drop, length-append, length-drop, take-append-drop, drop_of_length-le}
use lib.Seq.{drop-cons, length-take-le}
use Rattle.model.specs.Digits.{digits}
use Rattle.model.specs.Lists.{All, in_turn}
use Rattle.model.specs.Sheet.{edition1}
use Rattle.model.specs.Tables.{total, cost_rows, decision_written}
use Rattle.theory.specs.Plant.{Sized}
use Rattle.theory.specs.Puts.{Puts, bits_of}
use Rattle.theory.proofs.Lists.{all_left, all_right}
use Rattle.theory.proofs.Digits.{digits_length}
use Rattle.theory.proofs.Puts.{PutsBefore, part-start, part_room, part_step, part_end, in_turn-next, in_turn-past}
use Rattle.theory.proofs.Bits.{bits_length}

-- ---- one field for each number

-- the field of w bits that a number gives
abbrev pub field_of : (w : ℕ) (value : ℕ → ℕ) (x : ℕ) → List ℕ
field_of w value x = digits 2 w (value x)

-- the fields of the numbers before place i are put, and those of all find room
pub record FieldsTo (w : ℕ) (value : ℕ → ℕ) (place : ℕ) (xs sheet : List ℕ) (i next : ℕ) (out : List ℕ) : Type 0 where
  pub puts : PutsBefore place (in_turn (field_of w value) xs) (in_turn (field_of w value) (drop i xs)) (bits_of sheet) next (bits_of out)
  pub room : place + length (in_turn (field_of w value) xs) ≤ 8 * length sheet
  pub long : length out ≡ length sheet

module _ {w : ℕ} {value : ℕ → ℕ} {place : ℕ} {xs sheet : List ℕ} where
  pub fields-start : place + length (in_turn (field_of w value) xs) ≤ 8 * length sheet → FieldsTo w value place xs sheet 0 place sheet
  fields-start room = record { puts = part-start place (in_turn (field_of w value) xs) (bits_of sheet); room = room; long = refl }

  module _ {i next : ℕ} {out : List ℕ} (s : FieldsTo w value place xs sheet i next out) where
    -- the next field finds room
    pub fields-room : i < length xs → next + w ≤ 8 * length out
    fields-room more =
        let x = get_or xs i 0 in
        let there = part_room s.puts (field_of w value x) (in_turn (field_of w value) (drop (i + 1) xs)) (8 * length sheet) (in_turn-next (field_of w value) xs i 0 more) s.room in
        omega (arith, digits_length 2 w (value x), there)

    -- it is put
    pub fields-step : {x next' : ℕ} {out' : List ℕ} → i < length xs → x ≡ get_or xs i 0 → length out' ≡ length out → Puts next (field_of w value x) (bits_of out) next' (bits_of out')
        → FieldsTo w value place xs sheet (i + 1) next' out'
    fields-step more here same p = record {
      puts = part_step s.puts (omega (arith, bits_length sheet)) (in_turn-next (field_of w value) xs i 0 more) (rw here at p);
      room = s.room;
      long = same ∙ s.long;
    }

    -- all are put
    pub fields-end : length xs ≤ i → Puts place (in_turn (field_of w value) xs) (bits_of sheet) next (bits_of out)
    fields-end past = part_end (in_turn-past (field_of w value) xs i past) s.puts

-- ---- a row of costs

-- the bits of a row: four of the size, and those of the costs
pub row_length : (costs : List ℕ) → length (decision_written edition1 costs) ≡ 4 + length (in_turn (field_of 16 (λ n. n)) costs)
unfolding edition1
row_length costs = omega (arith, length-append (digits 2 4 (length costs - 1)) (in_turn (digits 2 16) costs), digits_length 2 4 (length costs - 1))

-- ---- the rows of costs, as the sizes part them

-- the bits of the rows
abbrev pub rows_of : (sizes costs : List ℕ) → List ℕ
rows_of sizes costs = in_turn (decision_written edition1) (cost_rows sizes costs)

-- the rows before place i are put; the costs that are left are those of the others; all find room and have their costs
pub record RowsTo (place : ℕ) (sizes costs sheet : List ℕ) (i : ℕ) (left : List ℕ) (next : ℕ) (out : List ℕ) : Type 0 where
  pub puts : PutsBefore place (rows_of sizes costs) (rows_of (drop i sizes) left) (bits_of sheet) next (bits_of out)
  pub room : place + length (rows_of sizes costs) ≤ 8 * length sheet
  pub long : length out ≡ length sheet
  pub sized : All Sized (drop i sizes)
  pub there : total (drop i sizes) ≤ length left

module _ {place : ℕ} {sizes costs sheet : List ℕ} where
  pub rows_start : All Sized sizes → total sizes ≤ length costs → place + length (rows_of sizes costs) ≤ 8 * length sheet → RowsTo place sizes costs sheet 0 costs place sheet
  rows_start sized there room = record { puts = part-start place (rows_of sizes costs) (bits_of sheet); room = room; long = refl; sized = sized; there = there }

  module _ {i next : ℕ} {left out : List ℕ} (s : RowsTo place sizes costs sheet i left next out) (more : i < length sizes) where
    opened : drop i sizes ≡ get_or sizes i 0 ∷ drop (i + 1) sizes
    opened = rw (add-one, drop-cons sizes i 0 more)

    both : Sized (get_or sizes i 0) × All Sized (drop (i + 1) sizes)
    both = rw opened at s.sized

    sum : total (drop i sizes) ≡ get_or sizes i 0 + total (drop (i + 1) sizes)
    unfolding total
    sum = ap total opened

    -- the next row's costs are there
    pub row-there : get_or sizes i 0 ≤ length left
    row-there = omega (arith, s.there, sum)

    -- they are as many as its size says
    pub row_sized : Sized (length (take (get_or sizes i 0) left))
    row_sized = rw (length-take-le (get_or sizes i 0) left row-there) both.0

    apart : rows_of (drop i sizes) left ≡ decision_written edition1 (take (get_or sizes i 0) left) ++ rows_of (drop (i + 1) sizes) (drop (get_or sizes i 0) left)
    unfolding cost_rows
    apart = rw opened

    -- it finds room
    pub row_room : next + length (decision_written edition1 (take (get_or sizes i 0) left)) ≤ 8 * length out
    row_room =
        let there = part_room s.puts (decision_written edition1 (take (get_or sizes i 0) left)) (rows_of (drop (i + 1) sizes) (drop (get_or sizes i 0) left)) (8 * length sheet) apart s.room in
        omega (arith, there)

    -- it is put
    pub rows_step : {next' : ℕ} {out' : List ℕ} → length out' ≡ length out → Puts next (decision_written edition1 (take (get_or sizes i 0) left)) (bits_of out) next' (bits_of out')
        → RowsTo place sizes costs sheet (i + 1) (drop (get_or sizes i 0) left) next' out'
    rows_step same p = record {
      puts = part_step s.puts (omega (arith, bits_length sheet)) apart p;
      room = s.room;
      long = same ∙ s.long;
      sized = both.1;
      there = simp length-drop (omega (arith, s.there, sum));
    }

  -- all are put
  pub rows_end : {i next : ℕ} {left out : List ℕ} → RowsTo place sizes costs sheet i left next out → length sizes ≤ i → Puts place (rows_of sizes costs) (bits_of sheet) next (bits_of out)
  unfolding cost_rows
  rows_end s past = part_end (rw (drop_of_length-le sizes past)) s.puts

-- ---- the decision variables, then the state variables

module _ (d : ℕ) (sizes : List ℕ) where
  pub decisions-sized : All Sized sizes → All Sized (take d sizes)
  decisions-sized a = all_left Sized (take d sizes) (drop d sizes) (rw (take-append-drop d sizes) a)

  pub states-sized : All Sized sizes → All Sized (drop d sizes)
  states-sized a = all_right Sized (take d sizes) (drop d sizes) (rw (take-append-drop d sizes) a)
