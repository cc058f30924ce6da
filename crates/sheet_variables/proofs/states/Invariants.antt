-- `sheet_variables::states` meets its contract: the sizes in the table so far and the rest of the readings are all of them. Assumes nothing.
use Prim.Native.Nat.{◌+◌, ◌*◌, ◌≤◌}
use mathlib.Core.Path.{◌≡◌}
use lib.ListN.{length, take}
use Rattle.model.specs.Sheet.{many, read_state}
use Rattle.theory.specs.Longest.{state_bits}
use Rattle.readings.proofs.Laws.{Reading}
use Rattle.sheet_variables.proofs.states.Given as goal

abbrev pub invariant-loop-size : goal.invariant-loop-size
invariant-loop-size l = record {
  sheet : l.reader.sheet ≡ l.fn.reader.sheet;
  place : l.reader.place ≤ l.fn.reader.place + state_bits * l.size-index;
  long : length l.sizes ≡ length l.initial.sizes;
  reading : Reading (read_state l.fn.reader.sheet.now) (many (read_state l.fn.reader.sheet.now) (length l.initial.sizes) l.fn.reader.place) (length l.initial.sizes) l.size-index (take l.size-index l.sizes) l.reader.place;
}
