-- Numbers by their digits in a base b, the top digit first, at k places. Bits, masks and values words are read and made by these. Assumes nothing: these are definitions.
use Rattle.std.specs.Prelude.{List, [], ◌∷◌, ℕ, zero, suc, ◌+◌, ◌*◌, ◌/◌, ◌%◌, ◌^◌}

-- the number whose first digits are ds, with zeros at the places after them
unfoldable pub number : ℕ → ℕ → List ℕ → ℕ
number b zero ds = 0
number b (suc k) [] = 0
number b (suc k) (d ∷ ds) = d * b ^ k + number b k ds

-- the digits of n at its k lowest places; the digit at place v is `get_or (digits b k n) v 0`
unfoldable pub digits : ℕ → ℕ → ℕ → List ℕ
digits b zero n = []
digits b (suc k) n = n / b ^ k % b ∷ digits b k n
