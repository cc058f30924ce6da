-- `sheet_clauses::clause` meets its contract: the literals in the table so far and the rest of the readings are the whole clause. Assumes nothing.
use Prim.Native.Nat.{◌+◌, ◌*◌, ◌≤◌}
use mathlib.Core.Path.{◌≡◌}
use lib.ListN.{length, take}
use Rattle.model.specs.Sheet.{read_literal, read_clause}
use Rattle.model.specs.Tables.{literals}
use Rattle.theory.specs.Longest.{literal_bits}
use Rattle.readings.proofs.Laws.{Reading}
use Rattle.sheet_clauses.proofs.clause.Given as goal

abbrev pub invariant-loop-i : goal.invariant-loop-i
invariant-loop-i l = record {
  small : l.count ≤ 15;
  sheet : l.reader.sheet ≡ l.fn.reader.sheet;
  place : l.reader.place ≤ l.fn.reader.place + 4 + literal_bits * l.i;
  room : length l.lits ≡ length l.initial.lits;
  reading : Reading (read_literal l.fn.reader.sheet.now l.domains) (read_clause l.fn.reader.sheet.now l.domains l.fn.reader.place) l.count l.i (literals (take (3 * l.i) l.lits)) l.reader.place;
}
