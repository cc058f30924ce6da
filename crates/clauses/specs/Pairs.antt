-- A set of two words as one value. Assumes nothing: these are definitions.
use Rattle.std.specs.Prelude.{Bool, List, ℕ, ◌+◌, get_or}
use Rattle.std.specs.Int.Bits.{bit_and, bit_or, bit_xor}
use Rattle.clauses.specs.declared.sets.PairSet.{PairSet}
use Rattle.clauses.specs.Sets.{in_pair}

-- the clauses in it
abbrev pub of_pair : PairSet → ℕ → Bool
of_pair s = in_pair s.first s.second

-- the two words at a place
abbrev pub pair_at : List ℕ → ℕ → PairSet
pair_at words place = record { first = get_or words place 0; second = get_or words (place + 1) 0 }

-- the clauses of both
abbrev pub union : PairSet → PairSet → PairSet
union s t = record { first = bit_or s.first t.first; second = bit_or s.second t.second }

-- the clauses of one that the other has not
abbrev pub difference : PairSet → PairSet → PairSet
difference s t = record { first = bit_xor s.first (bit_and s.first t.first); second = bit_xor s.second (bit_and s.second t.second) }
