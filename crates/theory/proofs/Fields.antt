-- Laws of bit fields, over the width: a field's bound, a field in two parts, and a field by a division of the bytes it lies in. Assumes nothing.
use mathlib.Core.Path.{◌≡◌, refl, sym, ap}
use mathlib.Core.List.{List, [], ◌∷◌, ◌++◌}
use Prim.Native.Nat.{ℕ, zero, suc, ◌+◌, ◌-◌, ◌*◌, ◌/◌, ◌%◌, ◌^◌, ◌≤◌, ◌<◌}
use native.Mathlib.Omega.{arith}
use native.Mathlib.Nat.{mul_assoc, add-mul, zero-mul, suc-add, pow-succ', zero-add, add-zero, mod-one, mul-add-div_right, mul-add-mod_self_right}
use native.Mathlib.Decide.{dec_lt}
use lib.Arith.{mod-mul}
use lib.Pow.{pow_pos, pow-add, high, shr-shr}
use lib.ListN.{length, get_or, drop, drop_of_length-le, get_or-eq_default}
use Rattle.model.specs.Digits.{number, digits}
use Rattle.model.specs.Sheet.{bit_at, bits_at}
use Rattle.theory.specs.Digits.{Below}
use Rattle.theory.proofs.Digits.{digit_at, digits-below, below_at, number_nil, number-below, number-split}

-- what holds of each element by its place holds of the list
pub below_all : (b : ℕ) (ds : List ℕ) → ((v : ℕ) → get_or ds v 0 < b) → Below b ds
below_all b [] h = tt
below_all b (d ∷ ds) h = (h 0, below_all b ds (λ v. h (suc v)))

pub below-drop : (b i : ℕ) (ds : List ℕ) → Below b ds → Below b (drop i ds)
below-drop b zero ds l = l
below-drop b (suc i) [] l = tt
below-drop b (suc i) (d ∷ ds) l = below-drop b i ds l.1

-- ---- a field by its bits

-- a bit is 0 or 1
pub bit_below : (sheet : List ℕ) (place : ℕ) → bit_at sheet place < 2
unfolding bit_at
bit_below sheet place = below_at 2 (digits 2 8 (get_or sheet (place / 8) 0)) (place % 8) (omega arith) (digits-below 2 8 (get_or sheet (place / 8) 0) (omega arith))

-- the w bits from a place on
pub at-below : (sheet : List ℕ) (w place : ℕ) → Below 2 (bits_at sheet w place)
unfolding bits_at
at-below sheet zero place = tt
at-below sheet (suc w) place = (bit_below sheet place, at-below sheet w (place + 1))

pub at_length : (sheet : List ℕ) (w place : ℕ) → length (bits_at sheet w place) ≡ w
unfolding bits_at
at_length sheet zero place = refl
at_length sheet (suc w) place = ap suc (at_length sheet w (place + 1))

pub at_split : (sheet : List ℕ) (v w place : ℕ) → bits_at sheet (v + w) place ≡ bits_at sheet v place ++ bits_at sheet w (place + v)
unfolding bits_at
at_split sheet zero w place = rw (zero-add w, add-zero place)
at_split sheet (suc v) w place =
    let e : place + suc v ≡ place + 1 + v = omega arith in
    rw (suc-add v w, bits_at, e, at_split sheet v w (place + 1))

-- a field of w bits is below the w-th power of 2
pub field_below : (sheet : List ℕ) (w place : ℕ) → number 2 w (bits_at sheet w place) < 2 ^ w
field_below sheet w place = number-below 2 w (bits_at sheet w place) (omega arith) (at-below sheet w place)

-- a field of v + w bits is the field of its first v bits, then that of its last w
pub field-split : (sheet : List ℕ) (v w place : ℕ)
    → number 2 (v + w) (bits_at sheet (v + w) place) ≡ number 2 v (bits_at sheet v place) * 2 ^ w + number 2 w (bits_at sheet w (place + v))
unfolding number bits_at
field-split sheet zero w place = rw (zero-add w, zero-mul (2 ^ w), add-zero place) (sym (zero-add (number 2 w (bits_at sheet w place))))
field-split sheet (suc v) w place =
    let e : place + suc v ≡ place + 1 + v = omega arith in
    rw (suc-add v w, e, field-split sheet v w (place + 1), pow-add 2 v w, add-mul (bit_at sheet place * 2 ^ v) (number 2 v (bits_at sheet v (place + 1))) (2 ^ w), mul_assoc (bit_at sheet place) (2 ^ v) (2 ^ w)) (omega arith)

-- ---- a field by its bytes

-- n bytes from byte i on: the first, then the others; past the end there are zeros
pub word-step : (sheet : List ℕ) (n i : ℕ) → number 256 (suc n) (drop i sheet) ≡ get_or sheet i 0 * 256 ^ n + number 256 n (drop (i + 1) sheet)
word-step sheet n i = elim (dec_lt i (length sheet)) [
  | yes h ↦ number-split 256 (suc n) i n sheet refl h
  | no h ↦
      let past : length sheet ≤ i = omega arith in
      let after : length sheet ≤ i + 1 = omega arith in
      rw (drop_of_length-le sheet past, drop_of_length-le sheet after, get_or-eq_default sheet 0 past, number_nil 256 (suc n), number_nil 256 n) (omega (arith, zero-mul (256 ^ n)))
]

-- a power of 256 by a power of 2
pub bytes_bits : (n : ℕ) → 256 ^ n ≡ 2 ^ (8 * n)
bytes_bits zero = refl
bytes_bits (suc n) =
    let e : 8 * suc n ≡ 8 + 8 * n = omega arith in
    rw (e, pow-add 2 8 (8 * n), pow-succ' 256 n, bytes_bits n)

-- a bit that lies in the n bytes from byte i on, with k bits after it in them
pub bit_word : (sheet : List ℕ) → Below 256 sheet → (n i j k : ℕ) → j + k + 1 ≡ 8 * n → bit_at sheet (8 * i + j) ≡ number 256 n (drop i sheet) / 2 ^ k % 2
unfolding bit_at
bit_word sheet b zero i j k e = absurd (omega arith)
bit_word sheet b (suc n) i j k e = elim (dec_lt j 8) [
  | yes h ↦
      let m : ℕ = 7 - j in
      let byte : (8 * i + j) / 8 ≡ i = omega arith in
      let bit : (8 * i + j) % 8 ≡ j = omega arith in
      let f : k ≡ 8 * n + m = omega arith in
      let low : number 256 n (drop (i + 1) sheet) < 2 ^ (8 * n) = rw (← bytes_bits n) (number-below 256 n (drop (i + 1) sheet) (omega arith) (below-drop 256 (i + 1) sheet b)) in
      rw (byte, bit, digit_at 2 8 j m (get_or sheet i 0) (omega arith), word-step sheet n i, f, ← shr-shr (get_or sheet i 0 * 256 ^ n + number 256 n (drop (i + 1) sheet)) (8 * n) m, bytes_bits n, high (get_or sheet i 0) (8 * n) low)
  | no h ↦
      let l : ℕ = j - 8 in
      let p : 8 * i + j ≡ 8 * (i + 1) + l = omega arith in
      let f : 8 * n ≡ l + 1 + k = omega arith in
      let g : 256 ^ n ≡ 2 ^ l * 2 * 2 ^ k = rw (bytes_bits n, f, pow-add 2 (l + 1) k, pow-add 2 l 1) in
      let x : get_or sheet i 0 * (2 ^ l * 2 * 2 ^ k) ≡ get_or sheet i 0 * 2 ^ l * 2 * 2 ^ k = simp mul_assoc in
      let r : number 256 n (drop (i + 1) sheet) / 2 ^ k % 2 ≡ bit_at sheet (8 * (i + 1) + l) = sym (bit_word sheet b n (i + 1) l k (omega arith)) in
      rw (p, word-step sheet n i, g, x, mul-add-div_right (pow_pos k) (get_or sheet i 0 * 2 ^ l * 2) (number 256 n (drop (i + 1) sheet)), mul-add-mod_self_right (get_or sheet i 0 * 2 ^ l) 2 (number 256 n (drop (i + 1) sheet) / 2 ^ k)) (sym r)
]

-- a field that lies in the n bytes from byte i on, with o bits before it and k bits after it in them
pub field-word : (sheet : List ℕ) → Below 256 sheet → (n i o w k : ℕ) → o + w + k ≡ 8 * n
    → number 2 w (bits_at sheet w (8 * i + o)) ≡ number 256 n (drop i sheet) / 2 ^ k % 2 ^ w
unfolding number bits_at
field-word sheet b n i o zero k e = sym (mod-one (number 256 n (drop i sheet) / 2 ^ k))
field-word sheet b n i o (suc w) k e =
    let p : 8 * i + o + 1 ≡ 8 * i + (o + 1) = omega arith in
    rw (p, field-word sheet b n i (o + 1) w k (omega arith), bit_word sheet b n i o (k + w) (omega arith), pow-succ' 2 w, mod-mul (number 256 n (drop i sheet) / 2 ^ k) {m = 2} (omega arith) (pow_pos w), shr-shr (number 256 n (drop i sheet)) k w)
