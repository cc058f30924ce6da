-- Reading a written sheet returns the tables, and writing what was read returns the sheet's bytes. Assumes nothing.
use mathlib.Core.Path.{◌≡◌, refl}
use mathlib.Core.Bool.{true, not}
use mathlib.Core.Option.{Option, none, some}
use mathlib.Core.List.{List}
use Prim.Native.Nat.{ℕ, ◌*◌, ◌^◌, ◌≤◌}
use native.Mathlib.Omega.{arith}
use lib.ListN.{length}
use borrow.Author.Tests.{not-false, le-ltb}
use Rattle.model.specs.Lists.{filled}
use Rattle.model.specs.Sheet.{Plant, Read, got, edition1, read_sheet}
use Rattle.model.specs.Calls.{by_author, first_given, refused, answered}
use Rattle.model.specs.Tables.{Tables, plant_of, tables_of, sheet_of}
use Rattle.model.specs.TableCalls.{Wrote, wrote, lengths_agree, length_grounds, table_grounds, room_grounds, write_sheet, write_call, read_tables, tables_after}
use Rattle.theory.specs.Digits.{Below}
use Rattle.theory.specs.WriteRead.{Written, WritePromises, ReadPromises}
use Rattle.theory.proofs.Filled.{filled_take}
use Rattle.theory.proofs.Longest.{no_longer}
use Rattle.theory.proofs.PlantTables.{none-given, plant-back, tables_agree, tables-back, tables-accepted, accepted-tables, front-back}
use Rattle.theory.proofs.Rewritten.{rewritten}
use Rattle.theory.proofs.Sheet.{accepted_any, no_weights}
use Rattle.theory.proofs.Written.{written, sheet_length}

-- ---- what is written

-- the sheet of the plant that tables hold
abbrev table_sheet : Tables → List ℕ
table_sheet t = sheet_of edition1 (plant_of t)

-- the lengths agree with the numbers exactly when no ground is given by them
none-agree : (t : Tables) → first_given (length_grounds t) ≡ none → lengths_agree t ≡ true
unfolding length_grounds
none-agree t h = not-false (lengths_agree t) (none-given (not (lengths_agree t)) 16 _ h).0

agree-none : (t : Tables) → lengths_agree t ≡ true → first_given (length_grounds t) ≡ none
unfolding length_grounds first_given
agree-none t h = rw (length_grounds, first_given, h)

module _ (t : Tables) (agree : lengths_agree t ≡ true) (fit : first_given (table_grounds edition1 t) ≡ none) where
  -- of tables within the rules the sheet is written, where there is room for it
  pub call-writes : (buffer : List ℕ) → write_call t buffer ≡ write_sheet (sheet_of edition1 (plant_of t)) buffer
  unfolding write_call
  call-writes buffer = rw (write_call, agree-none t agree, fit)

  module _ (small : Below (2 ^ 16) t.costs) where
    sheet-read : read_sheet edition1 (table_sheet t) ≡ got (plant_of t) (8 * length (table_sheet t))
    unfolding edition1
    sheet-read =
        let (ok, allowed) = tables-accepted edition1 t small no_weights agree fit in
        written edition1 (plant_of t) (omega arith) (omega arith) ok allowed

    tables-read : read_tables (table_sheet t) ≡ answered t
    unfolding read_tables
    tables-read = rw (read_tables, sheet-read, tables-back t agree)

    sheet_promises : (buffer : List ℕ) → Written t (length (table_sheet t)) (filled (table_sheet t) buffer)
    sheet_promises buffer = record {
      reads = rw (filled_take (table_sheet t) buffer) tables-read;
      bits = sheet_length edition1 (plant_of t);
      most = no_longer edition1 (table_sheet t) (plant_of t) (8 * length (table_sheet t)) sheet-read;
    }

-- what the writing call promises: reading what was written returns the tables
pub write_promises : (t : Tables) (buffer : List ℕ) → Below (2 ^ 16) t.costs → WritePromises t (write_call t buffer).answer (write_call t buffer).after
unfolding write_call write_sheet
write_promises t buffer small = go (first_given (length_grounds t)) (first_given (table_grounds edition1 t)) refl refl
  where
    Kept : Wrote → Type 0
    Kept w = WritePromises t w.answer w.after

    room : Written t (length (table_sheet t)) (filled (table_sheet t) buffer) → (r : Option ℕ) → first_given (room_grounds (table_sheet t) buffer) ≡ r → Kept (write_sheet (table_sheet t) buffer)
    room h (some n) g = rw (write_sheet, g) tt
    room h none g = rw (write_sheet, g) h

    go : (l r : Option ℕ) → first_given (length_grounds t) ≡ l → first_given (table_grounds edition1 t) ≡ r → Kept (write_call t buffer)
    go (some n) r e f = rw (write_call, e) tt
    go none (some n) e f = rw (write_call, e, f) tt
    go none none e f =
        let agree : lengths_agree t ≡ true = none-agree t e in
        rw (call-writes t agree f buffer) (room (sheet_promises t agree f small buffer) (first_given (room_grounds (table_sheet t) buffer)) refl)

-- ---- what is read

-- the tables that were read are within the rules, and their sheet is the one that was read
pub read-writes : (sheet : List ℕ) (p : Plant) (end : ℕ) → Below 256 sheet → read_sheet edition1 sheet ≡ got p end → (buffer : List ℕ) → write_call (tables_of p) buffer ≡ write_sheet sheet buffer
read-writes sheet p end b h buffer =
    let (ok, allowed, ends) = accepted_any edition1 sheet p end h in
    let (agree, fit) = accepted-tables edition1 p ok allowed in
    rw (call-writes (tables_of p) agree fit buffer, plant-back p, rewritten edition1 sheet p end b h)

-- what the reading call promises: writing the tables that it filled returns the sheet's bytes
pub read_promises : (sheet : List ℕ) (lent : Tables) → Below 256 sheet → ReadPromises sheet (read_tables sheet) (tables_after lent (read_tables sheet))
unfolding read_tables
read_promises sheet lent b = go (read_sheet edition1 sheet) refl
  where
    go : (r : Read Plant) → read_sheet edition1 sheet ≡ r → ReadPromises sheet (read_tables sheet) (tables_after lent (read_tables sheet))
    go (Read.refused n) e = rw (read_tables, e) tt
    go (got p end) e = rw (read_tables, e) record { writes = λ buffer. rw (front-back (tables_of p) lent (tables_agree p)) (read-writes sheet p end b e buffer) }

-- ---- for statements about two calls

-- tables that were read agree with their numbers
pub read-agree : (sheet : List ℕ) (t : Tables) → read_tables sheet ≡ answered t → lengths_agree t ≡ true
unfolding read_tables
read-agree sheet t h = go (read_sheet edition1 sheet) refl
  where
    go : (r : Read Plant) → read_sheet edition1 sheet ≡ r → lengths_agree t ≡ true
    go (Read.refused n) e = absurd (let f : refused (by_author n) ≡ answered t = rw (read_tables, e) at h in let z : ◌≡◌ {A = ℕ} 0 1 = cc in omega arith)
    go (got p end) e =
        let f : answered (tables_of p) ≡ answered t = rw (read_tables, e) at h in
        let g : tables_of p ≡ t = cc in
        rw (← g) (tables_agree p)

-- a sheet is written where there is room for it
pub room-writes : (sheet buffer : List ℕ) → length sheet ≤ length buffer → write_sheet sheet buffer ≡ wrote sheet buffer
unfolding write_sheet room_grounds first_given
room-writes sheet buffer h = rw (write_sheet, room_grounds, first_given, le-ltb (length buffer) (length sheet) h)
