-- Fields of a word read, set and cleared by shifts and bit operations, and the words of an assignment after a variable is set or removed. Assumes nothing.
use mathlib.Core.Path.{◌≡◌, refl, sym, ap, ap₂, ◌∙◌}
use mathlib.Core.Option.{Option, none, some}
use mathlib.Core.List.{List, [], ◌∷◌, map}
use Prim.Native.Nat.{ℕ, zero, suc, ◌+◌, ◌-◌, ◌*◌, ◌/◌, ◌%◌, ◌^◌, ◌≤◌, ◌<◌}
use native.Mathlib.Omega.{arith}
use native.Mathlib.Nat.{mod-lt, add-zero, zero-mul, zero-add, suc-mul, mul-div_cancel, mul-mod_left}
use lib.Arith.{mod-mul}
use lib.Bits.{bit_and, bit_or, bit_xor, and_block, and_zero_r, and_self, and_mask, or_disjoint, xor_add_and}
use lib.Dec.{eqb}
use lib.ListN.{length, get_or, set, drop, replicate, length-map, length-set, get_or-map, get_or-append}
use lib.Pow.{pow_pos, pow-add, split, shl_exact}
use borrow.Author.Tests.{ne_eqb}
use Rattle.model.specs.Digits.{digits}
use Rattle.model.specs.Assignment.{Assignment, Under, bit, nibble, mask_of, values_of, all_zero}
use Rattle.theory.specs.Words.{Words}
use Rattle.theory.proofs.Lists.{all_set}
use Rattle.theory.proofs.Digits.{digit_at, digits-below, below_at, zero-from, number-set}
use Rattle.theory.proofs.WordsDigits.{pow_pow}
use Rattle.theory.proofs.Words.{mask-digits, values-digits}

-- ---- fields of a word

-- the field of w bits at place j, masked by x at that place
field_and : (n w j x : ℕ) → x < 2 ^ w → bit_and n (x * 2 ^ j) ≡ bit_and (n / 2 ^ j % 2 ^ w) x * 2 ^ j
field_and n w j x h =
    let high : bit_and n (x * 2 ^ j) ≡ bit_and (n / 2 ^ j) x * 2 ^ j =
    ap₂ bit_and (sym (split n j)) (sym (add-zero (x * 2 ^ j)))
    ∙ and_block j (n / 2 ^ j) x (n % 2 ^ j) 0 (mod-lt n (pow_pos j)) (pow_pos j)
    ∙ rw (and_zero_r (n % 2 ^ j), add-zero (bit_and (n / 2 ^ j) x * 2 ^ j)) in
    let m = n / 2 ^ j in
    let low : bit_and m x ≡ bit_and (m % 2 ^ w) x =
    ap₂ bit_and (sym (split m w)) (sym (rw (zero-mul (2 ^ w)) (zero-add x)))
    ∙ and_block w (m / 2 ^ w) 0 (m % 2 ^ w) x (mod-lt m (pow_pos w)) h
    ∙ rw (and_zero_r (m / 2 ^ w), zero-mul (2 ^ w)) (zero-add (bit_and (m % 2 ^ w) x)) in
    high ∙ ap (λ (y : ℕ). y * 2 ^ j) low

-- to set a field that is zero adds
field-set : (n w j x : ℕ) → x < 2 ^ w → n / 2 ^ j % 2 ^ w ≡ 0 → bit_or n (x * 2 ^ j) ≡ n + x * 2 ^ j
field-set n w j x h e = or_disjoint n (x * 2 ^ j) (field_and n w j x h ∙ rw e (zero-mul (2 ^ j)))

-- to clear a field that is x subtracts
field-clear : (n w j x : ℕ) → n / 2 ^ j % 2 ^ w ≡ x → bit_xor n (x * 2 ^ j) + x * 2 ^ j ≡ n
field-clear n w j x e =
    let h : x < 2 ^ w = rw (← e) (mod-lt (n / 2 ^ j) (pow_pos w)) in
    let a : bit_and n (x * 2 ^ j) ≡ x * 2 ^ j = field_and n w j x h ∙ rw (e, and_self x) in
    let s = rw a at (xor_add_and n (x * 2 ^ j)) in
    omega arith

-- a product with a positive number is zero exactly when the first factor is
scaled-zero : (y p : ℕ) → 0 < p → eqb (y * p) 0 ≡ eqb y 0
scaled-zero zero p h = rw (zero-mul p)
scaled-zero (suc y) p h = ne_eqb (suc y * p) 0 (λ e. omega (arith, suc-mul y p)) ∙ sym (ne_eqb (suc y) 0 (λ e. omega arith))

-- a word shifted up by s is zero exactly when nothing stands below its s top bits
shifted-zero : (n t s w : ℕ) → t + s ≡ w → eqb (n * 2 ^ s % 2 ^ w) 0 ≡ eqb (n % 2 ^ t) 0
shifted-zero n t s w e =
    rw (← e, pow-add 2 t s, mod-mul (n * 2 ^ s) (pow_pos t) (pow_pos s), mul-div_cancel n (pow_pos s), mul-mod_left n (2 ^ s), add-zero (n % 2 ^ t * 2 ^ s))
    (scaled-zero (n % 2 ^ t) (2 ^ s) (pow_pos s))

-- ---- the fields of a variable

-- the place of a variable's nibble
pub nibble-place : (v : ℕ) → v < 16 → 2 ^ (60 - 4 * v) ≡ 16 ^ (15 - v)
nibble-place v h = let e : 60 - 4 * v ≡ 4 * (15 - v) = omega arith in rw e (sym (pow_pow 4 (15 - v)))

-- a bit of the mask, by a shift and a conjunction
pub bit-read : (mask v : ℕ) → v < 16 → bit_and (mask / 2 ^ (63 - v)) 1 ≡ get_or (digits 2 64 mask) v 0
bit-read mask v h = and_mask (mask / 2 ^ (63 - v)) 1 ∙ sym (digit_at 2 64 v (63 - v) mask (omega arith))

-- a nibble of the values, by a shift and a conjunction
pub nibble-read : (values v : ℕ) → v < 16 → bit_and (values / 2 ^ (60 - 4 * v)) 15 ≡ get_or (digits 16 16 values) v 0
nibble-read values v h = and_mask (values / 2 ^ (60 - 4 * v)) 4 ∙ rw (nibble-place v h) (sym (digit_at 16 16 v (15 - v) values (omega arith)))

-- a bit of the mask is below 2
pub bit_below : (mask v : ℕ) → get_or (digits 2 64 mask) v 0 < 2
bit_below mask v = below_at 2 (digits 2 64 mask) v (omega arith) (digits-below 2 64 mask (omega arith))

-- a nibble of the values is below 16
pub nibble-below : (values v : ℕ) → get_or (digits 16 16 values) v 0 < 16
nibble-below values v = below_at 16 (digits 16 16 values) v (omega arith) (digits-below 16 16 values (omega arith))

-- the mask shifted past its first d bits tells whether one is set beyond them
pub mask_beyond : (mask d : ℕ) → d ≤ 64 → eqb (mask * 2 ^ d % 2 ^ 64) 0 ≡ all_zero (drop d (digits 2 64 mask))
mask_beyond mask d h = shifted-zero mask (64 - d) d 64 (omega arith) ∙ sym (zero-from 2 64 d mask (omega arith) (omega arith))

-- the values shifted past their first d nibbles tell whether one is set beyond them
pub values_beyond : (values d : ℕ) → d ≤ 16 → eqb (values * 2 ^ (4 * d) % 2 ^ 64) 0 ≡ all_zero (drop d (digits 16 16 values))
values_beyond values d h =
    shifted-zero values (4 * (16 - d)) (4 * d) 64 (omega arith)
    ∙ rw (← pow_pow 4 (16 - d)) (sym (zero-from 16 16 d values (omega arith) h))

-- ---- one variable set

-- one element set, through a map
map_set : {A : Type 0} (f : A → ℕ) (l : List A) (v : ℕ) (y : A) → map f (set l v y) ≡ set (map f l) v (f y)
map_set f [] v y = refl
map_set f (x ∷ l) zero y = refl
map_set f (x ∷ l) (suc v) y = ap {B = List ℕ} (λ r. f x ∷ r) (map_set f l v y)

-- the mask changes by the variable's bit
mask-set : (a : Assignment) (v j : ℕ) (o : Option ℕ) → 63 ≡ v + j → v < length a
    → mask_of (set a v o) + bit (get_or a v none) * 2 ^ j ≡ mask_of a + bit o * 2 ^ j
mask-set a v j o e h = rw (map_set bit a v o, ← get_or-map bit a v none)
    (number-set 2 64 v j (bit o) (map bit a) (omega arith) (rw (length-map a bit) h))

-- the values change by the variable's nibble
values-set : (a : Assignment) (v j : ℕ) (o : Option ℕ) → 15 ≡ v + j → v < length a
    → values_of (set a v o) + nibble (get_or a v none) * 16 ^ j ≡ values_of a + nibble o * 16 ^ j
values-set a v j o e h = rw (map_set nibble a v o, ← get_or-map nibble a v none)
    (number-set 16 16 v j (nibble o) (map nibble a) (omega arith) (rw (length-map a nibble) h))

module _ (a : Assignment) (mask values : ℕ) (w : Words a mask values) (v : ℕ) (h : v < length a) where
  -- a variable's bit
  bit-held : get_or (digits 2 64 mask) v 0 ≡ bit (get_or a v none)
  bit-held =
      let l = length-map a bit in
      rw (w.mask_is, mask-digits a (omega (arith, w.short)), get_or-append (map bit a) (replicate (64 - length a) 0) 0 v (omega arith)) (get_or-map bit a v none)

  -- a variable's nibble
  nibble-held : get_or (digits 16 16 values) v 0 ≡ nibble (get_or a v none)
  nibble-held =
      let l = length-map a nibble in
      rw (w.values-is, values-digits a w.short w.small, get_or-append (map nibble a) (replicate (16 - length a) 0) 0 v (omega arith)) (get_or-map nibble a v none)

  -- the words with an unassigned variable set
  pub assign_words : (x : ℕ) → x < 16 → get_or a v none ≡ none
      → Words (set a v (some x)) (bit_or mask (1 * 2 ^ (63 - v) % 2 ^ 64)) (bit_or values (x * 2 ^ (60 - 4 * v) % 2 ^ 64))
  assign_words x k free =
      let s = w.short in
      let m = mask-set a v (63 - v) (some x) (omega arith) (omega arith) in
      let n = values-set a v (15 - v) (some x) (omega arith) (omega arith) in
      record {
        short = omega (arith, length-set a v (some x));
        small = all_set (Under 16) a v (some x) k w.small;
        mask_is = rw (
          shl_exact {a = 1} 1 (63 - v) 64 (omega arith) (omega arith),
          field-set mask 1 (63 - v) 1 (omega arith) (sym (digit_at 2 64 v (63 - v) mask (omega arith)) ∙ bit-held ∙ ap bit free),
        )
            (omega (arith, w.mask_is, rw free at m));
        values-is = rw (
          shl_exact {a = x} 4 (60 - 4 * v) 64 k (omega arith),
          field-set values 4 (60 - 4 * v) x k (rw (nibble-place v (omega arith)) (sym (digit_at 16 16 v (15 - v) values (omega arith)) ∙ nibble-held ∙ ap nibble free)),
          nibble-place v (omega arith),
        )
            (omega (arith, w.values-is, rw free at n));
      }

  -- the words with a variable's value taken away
  pub remove-words : Words (set a v none)
      (bit_xor mask (get_or (digits 2 64 mask) v 0 * 2 ^ (63 - v) % 2 ^ 64)) (bit_xor values (get_or (digits 16 16 values) v 0 * 2 ^ (60 - 4 * v) % 2 ^ 64))
  remove-words =
      let s = w.short in
      let p = get_or (digits 2 64 mask) v 0 in
      let q = get_or (digits 16 16 values) v 0 in
      let m = rw (← bit-held) at (mask-set a v (63 - v) none (omega arith) (omega arith)) in
      let n = rw (← nibble-held, ← nibble-place v (omega arith)) at (values-set a v (15 - v) none (omega arith) (omega arith)) in
      let cm = field-clear mask 1 (63 - v) p (sym (digit_at 2 64 v (63 - v) mask (omega arith))) in
      let cn = field-clear values 4 (60 - 4 * v) q (rw (nibble-place v (omega arith)) (sym (digit_at 16 16 v (15 - v) values (omega arith)))) in
      record {
        short = omega (arith, length-set a v none);
        small = all_set (Under 16) a v none tt w.small;
        mask_is = rw (shl_exact {a = p} 1 (63 - v) 64 (bit_below mask v) (omega arith)) (omega (arith, w.mask_is));
        values-is = rw (shl_exact {a = q} 4 (60 - 4 * v) 64 (nibble-below values v) (omega arith)) (omega (arith, w.values-is));
      }
