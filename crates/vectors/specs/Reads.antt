-- What a read that fails part of the way leaves. Assumes nothing: these are definitions.
use Rattle.std.specs.Prelude.{Option, ℕ, ◌≤◌, List, length, take}
use Rattle.std.specs.Io.KnownBytes.{Consumes}

-- what the reader gave since stands at the front of the buffer
abbrev pub ConsumesFront : Option (List ℕ) → Option (List ℕ) → List ℕ → Type 0
ConsumesFront old new buf = (k : ℕ) × ((k ≤ length buf) × Consumes old new (take k buf))

-- the reader gave so many bytes at most
abbrev pub ConsumesAtMost : ℕ → Option (List ℕ) → Option (List ℕ) → Type 0
ConsumesAtMost n old new = (bytes : List ℕ) × ((length bytes ≤ n) × Consumes old new bytes)
