-- What calls answer, as a function of what they are asked. Assumes nothing: these are definitions.
use Rattle.std.specs.Prelude.{◌≡◌, ℕ, ◌<◌, List, length, slice_index}

-- at each of these numbers a call answers as g does
abbrev pub Answers : {A : Type 0} → (ℕ → A) → (ℕ → A → Type 0) → List ℕ → Type 0
Answers {A} g post xs = (i : ℕ) → i < length xs → (y : A) → post (slice_index xs i) y → y ≡ g (slice_index xs i)
