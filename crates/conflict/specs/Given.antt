-- What the test and the reduction of two words are given, and of what their answers speak. Assumes nothing: these are definitions.
use Rattle.std.specs.Prelude.{◌≡◌, List, ℕ, ◌≤◌, length, get_or}
use Rattle.model.specs.Sheet.{Plant, decision_sizes}
use Rattle.model.specs.Assignment.{Assignment, Valid}
use Rattle.model.specs.Tables.{clauses}
use Rattle.theory.specs.Tables.{Tabled}
use Rattle.theory.specs.Words.{Words}
use Rattle.plan.specs.Plans.{plan_words}
use Rattle.clauses.specs.Tables.{Tables, Prepared}
use Rattle.clauses.specs.declared.tables.Decoded.{Decoded}

-- tables within the limits: at most 16 decision variables among at most 48, at most 16 values each, and their clauses
pub record Limits (d : ℕ) (sizes counts lits : List ℕ) : Type 0 where
  pub decisions : d ≤ 16
  pub present : d ≤ length sizes
  pub few : length sizes ≤ 48
  pub small : (v : ℕ) → get_or sizes v 0 ≤ 16
  pub tables : Tables (length sizes) counts lits

-- with the sets of clauses that are made of them, and room for the search
pub record Ready (d : ℕ) (sizes counts lits sat uses plan : List ℕ) : Type 0 where
  pub limits : Limits d sizes counts lits
  pub prepared : Prepared (clauses counts lits) sat uses
  pub planned : length plan ≡ plan_words

-- P holds of each plant that the tables hold
abbrev pub ForPlant : ℕ → (sizes counts lits : List ℕ) → (Plant → Type 0) → Type 0
ForPlant d sizes counts lits P = (p : Plant) (costs : List ℕ) → Tabled p d sizes costs counts lits → P p

-- P holds of each such plant and each assignment of it that the two words hold
abbrev pub ForWords : ℕ → (sizes counts lits : List ℕ) → ℕ → ℕ → (Plant → Assignment → Type 0) → Type 0
ForWords d sizes counts lits mask values P = ForPlant d sizes counts lits (λ p. (a : Assignment) → Words a mask values → Valid (decision_sizes p) a → P p a)

-- ---- the same of a plant's tables in one

abbrev pub ReadyFor : Decoded → (plan : List ℕ) → Type 0
ReadyFor plant plan = Ready plant.decisions plant.sizes.now plant.counts.now plant.lits.now plant.sat.now plant.uses.now plan

abbrev pub ForPlantOf : Decoded → (Plant → Type 0) → Type 0
ForPlantOf plant P = ForPlant plant.decisions plant.sizes.now plant.counts.now plant.lits.now P

abbrev pub ForWordsOf : Decoded → ℕ → ℕ → (Plant → Assignment → Type 0) → Type 0
ForWordsOf plant mask values P = ForWords plant.decisions plant.sizes.now plant.counts.now plant.lits.now mask values P
