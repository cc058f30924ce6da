-- When what a code reads from a table are weights. Assumes nothing: these are definitions.
use Rattle.std.specs.Prelude.{ℕ, ◌+◌, ◌*◌, ◌<◌, List, slice_index}
use Rattle.model.specs.Digits.{digits}

-- the entries of the first d variables that a code reads from a table with sixteen for each are weights: below 256
abbrev pub ReadsWeights : ℕ → List ℕ → ℕ → Type 0
ReadsWeights d t code = (v : ℕ) → v < d → slice_index t (16 * v + slice_index (digits 16 16 code) v) < 256
