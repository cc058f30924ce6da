-- What a write that fails part of the way leaves. Assumes nothing: these are definitions.
use Rattle.std.specs.Prelude.{Option, ℕ, ◌≤◌, List, length, take}
use Rattle.std.specs.Io.KnownBytes.{Appends}

-- the writer has the first of the bytes more
abbrev pub AppendsFront : Option (List ℕ) → Option (List ℕ) → List ℕ → Type 0
AppendsFront old new bytes = (k : ℕ) × ((k ≤ length bytes) × Appends old new (take k bytes))

-- the writer keeps its bytes and has some more, or none
abbrev pub Grows : Option (List ℕ) → Option (List ℕ) → Type 0
Grows old new = (bytes : List ℕ) × Appends old new bytes
