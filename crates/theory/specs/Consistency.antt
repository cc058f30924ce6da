-- Words that the theorems about the test and the reduction use. Assumes nothing: these are definitions.
use Rattle.std.specs.Prelude.{◌≡◌, true, ℕ, ◌≤◌, ◌<◌, length}
use Rattle.model.specs.Lists.{All}
use Rattle.model.specs.Sheet.{Plant, sizes}
use Rattle.model.specs.Assignment.{Assignment}
use Rattle.model.specs.Consistency.{Tested, consistent, inconsistent, Consistent}
use Rattle.model.specs.Conflict.{Minimal, manifests, Reduced, conflict, ReducedAlone, nothing, reduced}

-- the variable of each literal is present
abbrev pub VariablesPresent : Plant → Type 0
VariablesPresent p = All (All (λ l. l.variable < length (sizes p))) p.clauses

-- the trials that a test says were made
abbrev pub trials_of : Tested → ℕ
trials_of (consistent f t) = t
trials_of (inconsistent t) = t
trials_of (Tested.spent t) = t

-- the trials that a reduction says were made
abbrev pub trials_of_reduced : Reduced → ℕ
trials_of_reduced (conflict r t) = t
trials_of_reduced (Reduced.spent t) = t

-- the trials that a reduction called alone says were made
abbrev pub trials_of_alone : ReducedAlone → ℕ
trials_of_alone (nothing t) = t
trials_of_alone (reduced r) = trials_of_reduced r

-- trials are counted from `used` to t: they never fall, and never pass the limit
pub record Counted (limit used t : ℕ) : Type 0 where
  pub kept : used ≤ t
  pub within : used ≤ limit → t ≤ limit

-- what a reduction called alone says of the assignment c: 'none' that it is consistent, a conflict r that it is not, and that r is a minimal conflict contained in it
abbrev pub Alone : Plant → Assignment → ReducedAlone → Type 0
Alone p c (nothing t) = Consistent p c
Alone p c (reduced (conflict r t)) = (Consistent p c → ⊥) × Minimal p r × (length r ≡ length c) × (manifests c r ≡ true)
Alone p c (reduced (Reduced.spent t)) = Unit {0}
