-- A word of which some bits stay and the others are set. Assumes nothing: these are definitions.
use Rattle.std.specs.Prelude.{ℕ}
use Rattle.std.specs.Int.Bits.{bit_and, bit_or}

-- the bits of a word that `keep` has too, with those of `field`
abbrev pub blended : (word keep field : ℕ) → ℕ
blended word keep field = bit_or (bit_and word keep) field
