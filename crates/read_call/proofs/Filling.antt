-- The tables of an accepted sheet, without gaps, at the front of lent ones. Assumes nothing.
use mathlib.Core.Path.{◌≡◌, ap, ◌∙◌}
use mathlib.Core.Bool.{false}
use mathlib.Core.List.{List, [], ◌∷◌, map}
use Prim.Native.Nat.{ℕ, ◌+◌, ◌*◌}
use native.Mathlib.Omega.{arith}
use lib.ListN.{length, take, length-drop}
use lib.Seq.{length-take-le, take-take}
use Rattle.model.specs.Lists.{All, in_turn, filled}
use Rattle.model.specs.Sheet.{Plant, Read, edition1, read_sheet}
use Rattle.model.specs.Calls.{by_author, refused, answered}
use Rattle.model.specs.Tables.{Tables, total, tables_of, literal_bytes}
use Rattle.model.specs.TableCalls.{read_tables, filled_tables, tables_after}
use Rattle.theory.specs.Plant.{Sized}
use Rattle.theory.specs.Tables.{rows, tables_given}
use Rattle.theory.proofs.PlantTables.{clauses-lengths, clauses-turns}
use Rattle.theory.proofs.TableClauses.{clauses_length}
use Rattle.theory.proofs.Tables.{tabled-decisions, tabled-count, tabled-sizes, tabled-clauses, tabled-sized}
use Rattle.std.specs.Prelude.{Result, Ok, Err}
use Rattle.refusal.specs.Refusal.{author_number}
use Rattle.refusal.specs.declared.AuthorGround.{AuthorGround}
use Rattle.refusal.specs.declared.Refusal.{Refusal}
use Rattle.sheet.proofs.Reading.{Opened as Read_in}
use Rattle.read_call.specs.Lent.{tables_lent, Answers}

-- ---- what was read

-- decoded tables closed up: d decision variables, s state variables, c clauses
abbrev pub closed : (d s c : ℕ) (sizes costs counts lits : List ℕ) → Tables
closed d s c sizes costs counts lits = tables_given d s c (take (d + s) sizes) (in_turn (λ row. row) (rows (take d sizes) costs)) (take c counts) (take (3 * total (take c counts)) lits)

module _ {sheet sizes costs counts lits : List ℕ} {d s c : ℕ} (o : Read_in false sheet sizes costs counts lits d s c) where
  first : take d (take (d + s) sizes) ≡ take d sizes
  first = take-take d (d + s) sizes (omega arith)

  -- the domains of the decision variables have from 1 to 16 values
  pub decisions-sized : All Sized (take d sizes)
  decisions-sized = rw (tabled-decisions o.tabled, first) at (tabled-sized o.tabled)

  -- the tables of the sheet's plant are the decoded ones, closed up
  closed-tables : tables_of o.plant ≡ closed d s c sizes costs counts lits
  closed-tables =
      let p : Plant = o.plant in
      let all : length (take (d + s) sizes) ≡ d + s = length-take-le (d + s) sizes o.variables in
      let states : length p.states ≡ s = ap (λ (q : Plant). length q.states) o.tabled.plant ∙ omega (arith, length-drop d (take (d + s) sizes)) in
      let clauses : length p.clauses ≡ c = ap length (tabled-clauses o.tabled) ∙ clauses_length (take c counts) lits ∙ length-take-le c counts o.clauses in
      let costs : in_turn (λ row. row) p.costs ≡ in_turn (λ row. row) (rows (take d sizes) costs) = ap (λ (q : Plant). in_turn (λ row. row) q.costs) o.tabled.plant ∙ rw first in
      let counts' : map length p.clauses ≡ take c counts = ap (map length) (tabled-clauses o.tabled) ∙ clauses-lengths (take c counts) lits o.tabled.literal-room in
      let literals : in_turn (in_turn literal_bytes) p.clauses ≡ take (3 * total (take c counts)) lits = ap (in_turn (in_turn literal_bytes)) (tabled-clauses o.tabled) ∙ clauses-turns (take c counts) lits o.tabled.literal-room in
      rw (tabled-count o.tabled, states, clauses, tabled-sizes o.tabled, costs, counts', literals)

  opened-tables : read_tables sheet ≡ answered (closed d s c sizes costs counts lits)
  unfolding read_tables
  opened-tables = rw (read_tables, o.read, closed-tables)

-- ---- what was put

-- tables and their numbers at the front of lent ones
pub filled-lent : (t : Tables) (sizes costs counts lits numbers : List ℕ) {sizes' costs' counts' lits' numbers' : List ℕ}
    → sizes' ≡ filled t.sizes sizes → costs' ≡ filled t.costs costs → counts' ≡ filled t.counts counts → lits' ≡ filled t.literals lits → numbers' ≡ filled (t.decisions ∷ t.states ∷ t.clauses ∷ []) numbers
    → tables_lent sizes' costs' counts' lits' numbers' ≡ filled_tables t (tables_lent sizes costs counts lits numbers)
filled-lent t sizes costs counts lits numbers p q r u n = rw (p, q, r, u, n)

-- ---- what is answered

module _ (sheet : List ℕ) (before : Tables) where
  -- the answer, and the lent tables after
  abbrev Told : Result (Unit {0}) Refusal → Tables → Type 0
  Told r after = Answers r (read_tables sheet) × (after ≡ tables_after before (read_tables sheet))

  -- the sheet is refused, and nothing is changed
  pub refused-told : (g : AuthorGround) → read_sheet edition1 sheet ≡ Read.refused (author_number g) → Told (Err (Refusal.Author g)) before
  unfolding read_tables
  refused-told g e = let f : read_tables sheet ≡ refused (by_author (author_number g)) = rw (read_tables, e) in (f, rw f)

  -- the sheet's tables are at the front of the lent ones
  pub opened-told : {sizes costs counts lits : List ℕ} {d s c : ℕ} (after : Tables) → Read_in false sheet sizes costs counts lits d s c → after ≡ filled_tables (closed d s c sizes costs counts lits) before → Told (Ok tt) after
  opened-told after o e = let f = opened-tables o in ((_, f), rw f e)
