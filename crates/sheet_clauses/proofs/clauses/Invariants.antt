-- `sheet_clauses::clauses` meets its contract: the clauses in the tables so far and the rest of the readings are all of them. Assumes nothing.
use Prim.Native.Nat.{◌+◌, ◌*◌, ◌≤◌}
use mathlib.Core.Path.{◌≡◌}
use lib.ListN.{length, take}
use Rattle.model.specs.Sheet.{many, read_clause}
use Rattle.model.specs.Tables.{clauses, total}
use Rattle.theory.specs.Longest.{clause_bits}
use Rattle.readings.specs.Lengths.{clause_bytes}
use Rattle.readings.proofs.Laws.{Reading}
use Rattle.sheet_clauses.proofs.clauses.Given as goal

abbrev pub invariant-loop-count : goal.invariant-loop-count
invariant-loop-count l = record {
  begins : l.from ≡ 3 * total (take l.count-index l.counts);
  bound : l.from ≤ clause_bytes * l.count-index;
  sheet : l.reader.sheet ≡ l.fn.reader.sheet;
  place : l.reader.place ≤ l.fn.reader.place + clause_bits * l.count-index;
  counts : length l.counts ≡ l.c;
  room : length l.lits ≡ length l.initial.lits;
  reading : Reading (read_clause l.fn.reader.sheet.now l.domains) (many (read_clause l.fn.reader.sheet.now l.domains) l.c l.fn.reader.place) l.c l.count-index (clauses (take l.count-index l.counts) l.lits) l.reader.place;
}
