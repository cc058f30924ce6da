-- The bases of the digits that texts have. Assumes nothing: these are definitions.
use Rattle.std.specs.Prelude.{ℕ}

-- the greatest base whose digits have bytes
abbrev pub greatest_base : ℕ
greatest_base = 16
