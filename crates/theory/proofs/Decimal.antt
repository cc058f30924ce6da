-- Laws of numbers written without leading zeros, over the base where it does not matter: the digits, how many they are, and that they are the number's. Assumes nothing.
use mathlib.Core.Path.{◌≡◌, refl, ap, ◌∙◌}
use mathlib.Core.Bool.{Bool, true, false}
use mathlib.Core.List.{List, [], ◌∷◌, map}
use Prim.Native.Nat.{ℕ, zero, suc, ◌*◌, ◌/◌, ◌%◌, ◌^◌, ◌≤◌, ◌<◌}
use native.Mathlib.Omega.{arith}
use native.Mathlib.Nat.{one-le-pow, pow-le-pow_right, pow-suc, pow-succ', lt_of_lt_of_le, div-eq_of_lt, zero-mod, le-div_iff_mul-le, div-lt_iff_lt-mul, div-div-eq-div-mul, mod-eq_of_lt}
use native.Mathlib.Decide.{dec_lt}
use lib.Dec.{eqb}
use lib.ListN.{length, get_or, length-map}
use borrow.Author.Tests.{ne_eqb}
use Rattle.model.specs.Digits.{number, digits}
use Rattle.model.specs.Text.{digit_byte, significant, most_decimals, decimal, hexadecimal}
use Rattle.theory.specs.Digits.{Fewest}
use Rattle.theory.proofs.Digits.{digits_length, number_digits}

-- what is left above k places, divided once more
pub next_place : (b k n : ℕ) → n / b ^ k / b ≡ n / b ^ suc k
next_place b k n = rw (pow-suc b k) (div-div-eq-div-mul n (b ^ k) b)

-- ---- the digits without leading zeros

-- a place above all that hold n has the digit 0, which is left out
significant_skip : (b k n : ℕ) → n < b ^ suc k → significant (digits b (suc (suc k)) n) ≡ significant (digits b (suc k) n)
unfolding digits
significant_skip b k n h = rw (div-eq_of_lt h, zero-mod b)

-- so is each such place
pub significant-from : (b k w n : ℕ) → 0 < b → 1 ≤ w → n < b ^ w → w ≤ k → significant (digits b k n) ≡ significant (digits b w n)
significant-from b zero w n h o l s = absurd (omega arith)
significant-from b (suc zero) w n h o l s = let e : w ≡ suc zero = omega arith in rw e
significant-from b (suc (suc k)) w n h o l s = elim (dec_lt w (suc (suc k))) [
  | yes g ↦ significant_skip b k n (lt_of_lt_of_le l (pow-le-pow_right h (omega arith))) ∙ significant-from b (suc k) w n h o l (omega arith)
  | no g ↦ let e : w ≡ suc (suc k) = omega arith in rw e
]

-- the first of two or more places, which are the fewest, has a digit that is not 0
top_digit : (b w n : ℕ) → 0 < b → Fewest b n (suc (suc w)) → 0 < n / b ^ suc w % b
top_digit b w n h f =
    let reached : 1 * b ^ suc w ≤ n = elim (dec_lt n (b ^ suc w)) [ yes g ↦ absurd (omega (arith, f.least (suc w) (omega arith) g)) | no g ↦ omega arith ] in
    let within : n < b * b ^ suc w = rw (← pow-succ' b (suc w)) f.holds in
    let p : 0 < b ^ suc w = one-le-pow (suc w) b h in
    rw (mod-eq_of_lt ((div-lt_iff_lt-mul p).1 within)) ((le-div_iff_mul-le p).1 reached)

-- the first of the fewest digits is not 0, unless it is the only one
pub first_digit : (b w n : ℕ) → 0 < b → Fewest b n w → 1 < w → 0 < get_or (digits b w n) 0 0
unfolding digits
first_digit b zero n h f o = absurd (omega arith)
first_digit b (suc zero) n h f o = absurd (omega arith)
first_digit b (suc (suc w)) n h f o = top_digit b w n h f

-- of the fewest digits none is left out
significant-whole : (b w n : ℕ) → 0 < b → Fewest b n w → significant (digits b w n) ≡ digits b w n
unfolding digits
significant-whole b zero n h f = refl
significant-whole b (suc zero) n h f = refl
significant-whole b (suc (suc w)) n h f = rw (significant, ne_eqb (n / b ^ suc w % b) 0 (λ e. omega (arith, top_digit b w n h f)))

-- a number's digits without leading zeros are those at the fewest places that hold it
pub significant-digits : (b k w n : ℕ) → 0 < b → Fewest b n w → w ≤ k → significant (digits b k n) ≡ digits b w n
significant-digits b k w n h f l = significant-from b k w n h f.one f.holds l ∙ significant-whole b w n h f

-- and their number is the number
pub significant-number : (b k w n : ℕ) → 0 < b → Fewest b n w → w ≤ k → number b w (significant (digits b k n)) ≡ n
significant-number b k w n h f l = rw (significant-digits b k w n h f l) (number_digits b w n h f.holds)

-- leaving out makes no list longer
significant-shorter : (ds : List ℕ) → length (significant ds) ≤ length ds
significant-shorter [] = omega arith
significant-shorter (d ∷ []) = omega arith
significant-shorter (d ∷ e ∷ ds) = go (eqb d 0) (significant-shorter (e ∷ ds))
  where
    go : (t : Bool) → length (significant (e ∷ ds)) ≤ length (e ∷ ds) → length {A = ℕ} (elim t [ true ↦ significant (e ∷ ds) | false ↦ d ∷ e ∷ ds ]) ≤ length (d ∷ e ∷ ds)
    go true h = omega arith
    go false h = omega arith

-- a number below the w-th power has at most w digits
pub significant-at-most : (b k w n : ℕ) → 0 < b → 1 ≤ w → n < b ^ w → length (significant (digits b k n)) ≤ w
significant-at-most b k w n h o l = elim (dec_lt k w) [
  | yes g ↦ omega (arith, significant-shorter (digits b k n), digits_length b k n)
  | no g ↦ rw (significant-from b k w n h o l (omega arith)) (omega (arith, significant-shorter (digits b w n), digits_length b w n))
]

-- ---- the bytes

-- there are as many bytes as digits
pub hexadecimal_length : (w n : ℕ) → length (hexadecimal w n) ≡ w
unfolding hexadecimal
hexadecimal_length w n = length-map (digits 16 w n) digit_byte ∙ digits_length 16 w n

pub decimal-digits : (w n : ℕ) → Fewest 10 n w → w ≤ most_decimals → decimal n ≡ map digit_byte (digits 10 w n)
unfolding decimal
decimal-digits w n f l = ap (map digit_byte) (significant-digits 10 most_decimals w n (omega arith) f l)

pub decimal_length : (w n : ℕ) → Fewest 10 n w → w ≤ most_decimals → length (decimal n) ≡ w
decimal_length w n f l = rw (decimal-digits w n f l) (length-map (digits 10 w n) digit_byte ∙ digits_length 10 w n)

pub decimal-at-most : (w n : ℕ) → 1 ≤ w → n < 10 ^ w → length (decimal n) ≤ w
unfolding decimal
decimal-at-most w n o l = rw (length-map (significant (digits 10 most_decimals n)) digit_byte) (significant-at-most 10 most_decimals w n (omega arith) o l)

-- no number has more than these
pub decimal-most : (n : ℕ) → length (decimal n) ≤ most_decimals
unfolding decimal
decimal-most n = rw (length-map (significant (digits 10 most_decimals n)) digit_byte) (omega (arith, significant-shorter (digits 10 most_decimals n), digits_length 10 most_decimals n))
