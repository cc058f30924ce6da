-- What bytes come to one after the other by FNV-1a with 32 bits. Assumes nothing: these are definitions.
use Rattle.std.specs.Prelude.{ℕ, ◌*◌, ◌/◌, ◌%◌}
use Rattle.std.specs.Int.Bits.{bit_xor}

-- the checksum of no bytes
abbrev pub checksum_start : ℕ
checksum_start = 2166136261

-- the checksum with one byte more
abbrev pub mix : ℕ → ℕ → ℕ
mix hash byte = bit_xor hash byte * 16777619 % 4294967296

-- the checksum with a number of two, four or eight bytes more
unfoldable pub mix16 : ℕ → ℕ → ℕ
mix16 hash n = mix (mix hash (n / 256)) (n % 256)

unfoldable pub mix32 : ℕ → ℕ → ℕ
mix32 hash n = mix16 (mix16 hash (n / 65536)) (n % 65536)

unfoldable pub mix64 : ℕ → ℕ → ℕ
mix64 hash n = mix32 (mix32 hash (n / 4294967296)) (n % 4294967296)
