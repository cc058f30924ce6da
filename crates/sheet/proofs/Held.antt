-- What a caller of the sheet reader has by its answer. Assumes nothing.
use mathlib.Core.Path.{◌≡◌, sym, ap, ◌∙◌, subst}
use mathlib.Core.List.{List}
use Prim.Native.Nat.{ℕ, ◌*◌, ◌≤◌}
use native.Mathlib.Omega.{arith}
use lib.ListN.{length, take}
use Rattle.model.specs.Sheet.{got, refused, Edition, read_sheet}
use Rattle.theory.specs.Plant.{Accepted}
use Rattle.theory.proofs.Sheet.{accepted_of}
use Rattle.model.specs.Tables.{total}
use Rattle.theory.specs.Tables.{plant_in}
use Rattle.readings.specs.Lengths.{literal_bytes}
use Rattle.sheet.specs.Tables.{Held}
use Rattle.sheet.specs.Answers.{answer_of, Tabled}
use Rattle.std.specs.Prelude.{Result, Ok, Err}
use Rattle.refusal.specs.declared.AuthorGround.{AuthorGround}
use Rattle.refusal.specs.Refusal.{author_number}
use Rattle.sheet.specs.declared.Numbers.{Numbers}

module _ (edition : Edition) (sheet sizes costs counts lits : List ℕ) {r : Result Numbers AuthorGround} where
  pub refused-by : {g : AuthorGround} → r ≡ Err g → answer_of sheet sizes costs counts lits r ≡ read_sheet edition sheet → read_sheet edition sheet ≡ refused (author_number g)
  refused-by e h = sym h ∙ ap (answer_of sheet sizes costs counts lits) e

  module _ {n : Numbers} (e : r ≡ Ok n) (h : answer_of sheet sizes costs counts lits r ≡ read_sheet edition sheet) where
    pub read_as : read_sheet edition sheet ≡ got (plant_in n.decisions n.states n.clauses sizes costs counts lits) (8 * length sheet)
    read_as = sym h ∙ ap (answer_of sheet sizes costs counts lits) e

    pub read-accepted : Accepted edition (plant_in n.decisions n.states n.clauses sizes costs counts lits)
    read-accepted = (accepted_of edition sheet (plant_in n.decisions n.states n.clauses sizes costs counts lits) (8 * length sheet) read_as).0

pub read_held : (sizes costs counts lits : List ℕ) {r : Result Numbers AuthorGround} {n : Numbers} → r ≡ Ok n → Tabled sizes costs counts lits r → Held n.decisions n.states n.clauses sizes costs counts lits
read_held sizes costs counts lits e h = subst (Tabled sizes costs counts lits) e h

-- the literals are there
pub held-room : (d s c : ℕ) (sizes costs counts lits : List ℕ) → Held d s c sizes costs counts lits → literal_bytes ≤ length lits → 3 * total (take c counts) ≤ length lits
held-room d s c sizes costs counts lits held h = omega (arith, held.room, held.clauses)
