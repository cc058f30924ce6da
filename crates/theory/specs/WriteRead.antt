-- What the calls that write a sheet of tables and read one into them promise beyond their equations with the model: each undoes the other. Assumes nothing: these are definitions.
use Rattle.std.specs.Prelude.{◌≡◌, List, ℕ, ◌+◌, ◌/◌, ◌≤◌, length, take}
use Rattle.model.specs.Sheet.{edition1}
use Rattle.model.specs.Calls.{Answered, refused, answered}
use Rattle.model.specs.Tables.{Tables, plant_of, plant_written}
use Rattle.model.specs.TableCalls.{write_call, write_sheet, read_tables, front_tables}
use Rattle.theory.specs.Longest.{longest_sheet}

-- n bytes were written to the front of a buffer: reading them returns the tables; their number is that of the fields' bits, rounded up, and at most that of the longest sheet
pub record Written (t : Tables) (n : ℕ) (after : List ℕ) : Type 0 where
  pub reads : read_tables (take n after) ≡ answered t
  pub bits : n ≡ (length (plant_written edition1 (plant_of t)) + 7) / 8
  pub most : n ≤ longest_sheet edition1

abbrev pub WritePromises : Tables → Answered ℕ → List ℕ → Type 0
WritePromises t (refused r) after = Unit {0}
WritePromises t (answered n) after = Written t n after

-- a sheet was read to the front of lent tables: writing them returns the sheet's bytes, into any buffer that is not shorter
pub record Opened (sheet : List ℕ) (after : Tables) : Type 0 where
  pub writes : (buffer : List ℕ) → write_call (front_tables after) buffer ≡ write_sheet sheet buffer

abbrev pub ReadPromises : List ℕ → Answered Tables → Tables → Type 0
ReadPromises sheet (refused r) after = Unit {0}
ReadPromises sheet (answered t) after = Opened sheet after
