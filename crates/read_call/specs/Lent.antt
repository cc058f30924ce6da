-- Lent tables, and what a reading answers. Assumes nothing: these are definitions.
use Rattle.std.specs.Prelude.{◌≡◌, List, ℕ, get_or, Result, Ok, Err}
use Rattle.model.specs.Calls.{Answered, refused, answered}
use Rattle.model.specs.Tables.{Tables}
use Rattle.refusal.specs.declared.Refusal.{Refusal}
use Rattle.refusal.specs.Refusal.{refusal_of}

-- four lent tables, and three lent words for the numbers
abbrev pub tables_lent : (sizes costs counts literals numbers : List ℕ) → Tables
tables_lent sizes costs counts literals numbers = record {
  decisions = get_or numbers 0 0;
  states = get_or numbers 1 0;
  clauses = get_or numbers 2 0;
  sizes = sizes;
  costs = costs;
  counts = counts;
  literals = literals;
}

-- the answer is this refusal, or that the tables hold what was read
abbrev pub Answers : Result (Unit {0}) Refusal → Answered Tables → Type 0
Answers (Err r) a = a ≡ refused (refusal_of r)
Answers (Ok u) a = (t : Tables) × (a ≡ answered t)
