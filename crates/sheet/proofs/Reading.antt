-- What the sheet reader leaves in tables of the largest size: the plant's own tables are their first parts. Assumes nothing.
use mathlib.Core.Path.{◌≡◌}
use mathlib.Core.Bool.{Bool}
use mathlib.Core.List.{List}
use Prim.Native.Nat.{ℕ, ◌+◌, ◌*◌, ◌≤◌}
use native.Mathlib.Omega.{arith}
use lib.ListN.{length, take}
use lib.Seq.{length-take-le, take-take}
use Rattle.model.specs.Sheet.{Plant, got, edition_of, read_sheet}
use Rattle.theory.specs.Plant.{Accepted}
use Rattle.theory.specs.Tables.{plant_in, Tabled}
use Rattle.theory.proofs.Sheet.{accepted-wide}
use Rattle.theory.proofs.Tables.{plant-from}
use Rattle.readings.specs.Lengths.{size_entries, cost_entries, count_entries, literal_bytes}
use Rattle.std.specs.Prelude.{Result, Ok}
use Rattle.refusal.specs.declared.AuthorGround.{AuthorGround}
use Rattle.sheet.specs.declared.Numbers.{Numbers}
use Rattle.sheet.specs.Answers.{answer_of, Tabled as Reads}
use Rattle.sheet.proofs.Held.{read_as, read_held, read-accepted, held-room}

-- the plant of a sheet of the edition, and its tables
pub record Opened (weighed : Bool) (sheet sizes costs counts lits : List ℕ) (d s c : ℕ) : Type 0 where
  pub plant : Plant
  pub read : read_sheet (edition_of weighed) sheet ≡ got plant (8 * length sheet)
  pub accepted : Accepted (edition_of weighed) plant
  pub tabled : Tabled plant d (take (d + s) sizes) costs (take c counts) lits
  pub variables : d + s ≤ length sizes
  pub clauses : c ≤ length counts

module _ (weighed : Bool) (sheet sizes costs counts lits : List ℕ) (r : Result Numbers AuthorGround) where
  pub opened : (answer_of sheet sizes costs counts lits r ≡ read_sheet (edition_of weighed) sheet) × Reads sizes costs counts lits r
      → {n : Numbers} → r ≡ Ok n → length sizes ≡ size_entries → length costs ≡ cost_entries → length counts ≡ count_entries → length lits ≡ literal_bytes → Opened weighed sheet sizes costs counts lits n.decisions n.states n.clauses
  opened h {n} e ls lc ln ll =
      let d = n.decisions in
      let s = n.states in
      let c = n.clauses in
      let held = read_held sizes costs counts lits e h.1 in
      let v : d + s ≤ length sizes = omega (arith, held.decisions, held.states) in
      let f : take d (take (d + s) sizes) ≡ take d sizes = take-take d (d + s) sizes (omega arith) in
      let ok = read-accepted (edition_of weighed) sheet sizes costs counts lits e h.0 in
      record {
        plant = plant_in d s c sizes costs counts lits;
        read = read_as (edition_of weighed) sheet sizes costs counts lits e h.0;
        accepted = ok;
        tabled = record {
          plant = plant-from d s c sizes costs counts lits v;
          accepted = accepted-wide weighed (plant_in d s c sizes costs counts lits) ok;
          decisions = rw (length-take-le (d + s) sizes v) (omega arith);
          lengths = rw f held.lengths;
          cost-room = omega (arith, held.decisions);
          literal-room = held-room d s c sizes costs counts lits held (omega arith);
        };
        variables = v;
        clauses = omega (arith, held.clauses);
      }
