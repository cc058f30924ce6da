-- `sheet_variables::decisions` meets its contract: the rows in the table so far and the rest of the readings are all of them. Assumes nothing.
use Prim.Native.Nat.{◌+◌, ◌*◌, ◌≤◌}
use mathlib.Core.Path.{◌≡◌}
use mathlib.Core.List.{map}
use lib.ListN.{length, take}
use Rattle.model.specs.Sheet.{edition_of, many, read_decision}
use Rattle.theory.specs.Tables.{rows}
use Rattle.readings.specs.Lengths.{decision_bits}
use Rattle.readings.proofs.Laws.{Reading}
use Rattle.sheet_variables.proofs.decisions.Given as goal

abbrev pub invariant-loop-i : goal.invariant-loop-i
invariant-loop-i l = record {
  sheet : l.reader.sheet ≡ l.fn.reader.sheet;
  place : l.reader.place ≤ l.fn.reader.place + decision_bits * l.i;
  sizes : length l.sizes ≡ length l.initial.sizes;
  costs : length l.costs ≡ length l.initial.costs;
  lengths : map length (rows (take l.i l.sizes) l.costs) ≡ take l.i l.sizes;
  reading : Reading (read_decision (edition_of l.weighed) l.fn.reader.sheet.now) (many (read_decision (edition_of l.weighed) l.fn.reader.sheet.now) (length l.initial.sizes) l.fn.reader.place) (length l.initial.sizes) l.i (rows (take l.i l.sizes) l.costs) l.reader.place;
}
