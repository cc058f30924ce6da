-- What the reduction's answers say, as the model's. Assumes nothing: these are definitions.
use Rattle.std.specs.Prelude.{◌≡◌, ℕ, suc, ◌+◌, Result, Ok, Err}
use Rattle.model.specs.Sheet.{Plant, decision_sizes}
use Rattle.model.specs.Assignment.{Assignment, Valid}
use Rattle.model.specs.Conflict.{Reduced, conflict, spent, reduce_from}
use Rattle.theory.specs.Words.{Words}
use Rattle.conflict.specs.declared.reduce.Reduction.{Reduction}
use Rattle.conflict.specs.declared.reduce.Spent.{Spent}

-- an assignment of the plant that two words hold
pub record Held (p : Plant) (c : Assignment) (mask values : ℕ) : Type 0 where
  pub words : Words c mask values
  pub valid : Valid (decision_sizes p) c

-- one turn, at the variable v: the reduction goes on at the next with what the two words hold, or it is spent
abbrev pub Turned : Plant → ℕ → ℕ → Assignment → ℕ → Result Reduction Spent → Type 0
Turned p limit v c used (Ok r) =
    (left : Assignment) × Held p left r.mask r.values × ((n : ℕ) → reduce_from p limit (suc n) v c used ≡ reduce_from p limit n (v + 1) left r.trials)
Turned p limit v c used (Err s) = (n : ℕ) → reduce_from p limit (suc n) v c used ≡ spent s.trials

-- the code ended as the model does: two words hold the conflict, or the limit struck
abbrev pub Reduces : Plant → Reduced → Result Reduction Spent → Type 0
Reduces p e (Ok r) = (c : Assignment) × Held p c r.mask r.values × (e ≡ conflict c r.trials)
Reduces p e (Err s) = e ≡ spent s.trials
