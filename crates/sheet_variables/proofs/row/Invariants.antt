-- `sheet_variables::row` meets its contract: the figures in the table so far and the rest of the readings are the whole row. Assumes nothing.
use Prim.Native.Nat.{◌+◌, ◌*◌, ◌≤◌}
use mathlib.Core.Path.{◌≡◌}
use lib.ListN.{length, take}
use Rattle.model.specs.Sheet.{edition_of, read_figure, read_decision}
use Rattle.readings.proofs.Laws.{Reading}
use Rattle.sheet_variables.proofs.row.Given as goal

abbrev pub invariant-loop-cost : goal.invariant-loop-cost
invariant-loop-cost l = record {
  small : l.size ≤ 16;
  sheet : l.reader.sheet ≡ l.fn.reader.sheet;
  place : l.reader.place ≤ l.fn.reader.place + 4 + 16 * l.cost-index;
  long : length l.figures ≡ l.size;
  reading : Reading (read_figure (edition_of l.weighed) l.fn.reader.sheet.now) (read_decision (edition_of l.weighed) l.fn.reader.sheet.now l.fn.reader.place) l.size l.cost-index (take l.cost-index l.figures) l.reader.place;
}
