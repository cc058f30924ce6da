-- The bits of words, and of what is made of words. Assumes nothing.
use Prim.Native.Nat.{ℕ, zero, suc, ◌+◌, ◌*◌, ◌-◌, ◌/◌, ◌%◌, ◌^◌, ◌<◌, ◌≤◌, min}
use mathlib.Core.Path.{◌≡◌, refl, sym, ap, ap₂, ◌∙◌}
use mathlib.Core.Bool.{true, false, not, ◌&&◌, ◌||◌}
use native.Mathlib.Omega.{arith}
use native.Mathlib.Nat.{pow-suc, mul-div_cancel, mul-mod_left, one-mul, zero-min}
use native.Mathlib.Decide.{dec_lt}
use lib.Bits.{bit_and, bit_or, bit_xor, xor_shr, xor_mod, and_shr, and_mod, or_shr, or_mod, and_step, and_mask, and_le_l, and_le_r, or_add_and, xor_add_and, xor_self}
use lib.Dec.{eqb, eqb-suc-suc, eqb-zero-suc, eqb-suc-zero, lit<}
use lib.Pow.{shl_exact, shr-shr, suc_ones, ones_lt}
use borrow.Author.Tests.{eqb-true}
use Rattle.theory.proofs.Lists.{and_both}
use Rattle.clauses.specs.Sets.{bit}

-- the operations on digits
and_digit : (a b : ℕ) → a < 2 → b < 2 → eqb (bit_and a b) 1 ≡ (eqb a 1 && eqb b 1)
and_digit zero b ha hb = refl
and_digit (suc zero) zero ha hb = refl
and_digit (suc zero) (suc zero) ha hb = refl
and_digit (suc zero) (suc (suc b)) ha hb = absurd (omega arith)
and_digit (suc (suc a)) b ha hb = absurd (omega arith)

or_digit : (a b : ℕ) → a < 2 → b < 2 → eqb (bit_or a b) 1 ≡ (eqb a 1 || eqb b 1)
or_digit zero b ha hb = refl
or_digit (suc zero) zero ha hb = refl
or_digit (suc zero) (suc zero) ha hb = refl
or_digit (suc zero) (suc (suc b)) ha hb = absurd (omega arith)
or_digit (suc (suc a)) b ha hb = absurd (omega arith)

min_digit : (a b : ℕ) → a < 2 → b < 2 → (eqb a 1 ≡ true → eqb b 1 ≡ true) → min a b ≡ a
min_digit zero b ha hb f = zero-min b
min_digit (suc zero) b ha hb f = rw (eqb-true b 1 (f refl))
min_digit (suc (suc a)) b ha hb f = absurd (omega arith)

-- a bit of `and` is both bits
pub bit_and_lem : (a b k : ℕ) → bit (bit_and a b) k ≡ (bit a k && bit b k)
unfolding bit
bit_and_lem a b zero = ap (λ (x : ℕ). eqb x 1) (and_mod a b 1) ∙ and_digit (a % 2) (b % 2) (omega arith) (omega arith)
bit_and_lem a b (suc k) = ap (λ (x : ℕ). bit x k) (and_shr a b 1) ∙ bit_and_lem (a / 2) (b / 2) k

-- a bit of `or` is one of the bits
pub bit_or_lem : (a b k : ℕ) → bit (bit_or a b) k ≡ (bit a k || bit b k)
unfolding bit
bit_or_lem a b zero = ap (λ (x : ℕ). eqb x 1) (or_mod a b 1) ∙ or_digit (a % 2) (b % 2) (omega arith) (omega arith)
bit_or_lem a b (suc k) = ap (λ (x : ℕ). bit x k) (or_shr a b 1) ∙ bit_or_lem (a / 2) (b / 2) k

-- a bit of `a ^ (a & b)` is the bit of a that b has not
less_digit : (a b : ℕ) → a < 2 → b < 2 → eqb (bit_xor a (bit_and a b)) 1 ≡ (eqb a 1 && not (eqb b 1))
less_digit zero b ha hb = refl
less_digit (suc zero) zero ha hb = refl
less_digit (suc zero) (suc zero) ha hb = refl
less_digit (suc zero) (suc (suc b)) ha hb = absurd (omega arith)
less_digit (suc (suc a)) b ha hb = absurd (omega arith)

pub bit-less : (a b k : ℕ) → bit (bit_xor a (bit_and a b)) k ≡ (bit a k && not (bit b k))
unfolding bit
bit-less a b zero = ap (λ (x : ℕ). eqb x 1) (xor_mod a (bit_and a b) 1 ∙ ap (bit_xor (a % 2)) (and_mod a b 1)) ∙ less_digit (a % 2) (b % 2) (omega arith) (omega arith)
bit-less a b (suc k) = ap (λ (x : ℕ). bit x k) (xor_shr a (bit_and a b) 1 ∙ ap (bit_xor (a / 2)) (and_shr a b 1)) ∙ bit-less (a / 2) (b / 2) k

-- 0 has no bit
pub bit-zero : (k : ℕ) → bit 0 k ≡ false
unfolding bit
bit-zero zero = refl
bit-zero (suc k) = bit-zero k

-- a power of two has the one bit
pub bit_pow : (k j : ℕ) → bit (2 ^ k) j ≡ eqb j k
unfolding bit
bit_pow zero zero = refl
bit_pow zero (suc j) = bit-zero j ∙ sym (eqb-suc-zero j)
bit_pow (suc k) zero = ap (λ (x : ℕ). eqb (x % 2) 1) (pow-suc 2 k) ∙ ap (λ (x : ℕ). eqb x 1) (mul-mod_left (2 ^ k) 2) ∙ sym (eqb-zero-suc k)
bit_pow (suc k) (suc j) = ap (λ (x : ℕ). bit (x / 2) j) (pow-suc 2 k) ∙ ap (λ (x : ℕ). bit x j) (mul-div_cancel (2 ^ k) (omega arith)) ∙ bit_pow k j ∙ sym (eqb-suc-suc j k)

-- a word whose bits are all among b's is left alone by `and` with b
pub and_within : (n a b : ℕ) → a < 2 ^ n → ((k : ℕ) → k < n → bit a k ≡ true → bit b k ≡ true) → bit_and a b ≡ a
unfolding bit
and_within zero a b h f = let z : a ≡ 0 = omega arith in rw z
and_within (suc n) a b h f =
    let low = min_digit (a % 2) (b % 2) (omega arith) (omega arith) (f 0 (omega arith)) in
    let high = and_within n (a / 2) (b / 2) (omega (arith, pow-suc 2 n)) (λ k l. f (suc k) (omega arith)) in
    and_step a b ∙ ap₂ (λ (x y : ℕ). x * 2 + y) high low ∙ omega arith

-- and the other way round
pub within_and : (a b k : ℕ) → bit_and a b ≡ a → bit a k ≡ true → bit b k ≡ true
within_and a b k e i = (and_both (bit a k) (bit b k) (sym (bit_and_lem a b k) ∙ ap (λ (w : ℕ). bit w k) e ∙ i)).1

-- ---- the first n bits of a word

-- 1 moved up
pub shl_one : (n : ℕ) → n < 64 → 1 * 2 ^ n % 2 ^ 64 ≡ 2 ^ n
shl_one n h = shl_exact {a = 1} 1 n 64 (lit< tt) (omega arith) ∙ one-mul (2 ^ n)

-- less one, it has the bits below n
pub bit-low : (n k : ℕ) → k < n → bit (2 ^ n - 1) k ≡ true
unfolding bit
bit-low zero k h = absurd (omega arith)
bit-low (suc n) zero h = let e : (2 ^ suc n - 1) % 2 ≡ 1 = omega (arith, pow-suc 2 n, suc_ones n) in rw e
bit-low (suc n) (suc k) h = let e : (2 ^ suc n - 1) / 2 ≡ 2 ^ n - 1 = omega (arith, pow-suc 2 n, suc_ones n) in rw e (bit-low n k (omega arith))

-- a word with each of these is left with all of them by `and`
pub low_and : (n w : ℕ) → ((k : ℕ) → k < n → bit w k ≡ true) → bit_and (2 ^ n - 1) w ≡ 2 ^ n - 1
low_and n w f = and_within n (2 ^ n - 1) w (ones_lt n) (λ k h i. f k h)

-- so it is no less
pub low-least : (n w : ℕ) → ((k : ℕ) → k < n → bit w k ≡ true) → 2 ^ n - 1 ≤ w
low-least n w f = omega (arith, low_and n w f, and_le_r (2 ^ n - 1) w)

-- a word has no more than 64
pub low-most : (n w : ℕ) → w < 2 ^ 64 → ((k : ℕ) → k < n → bit w k ≡ true) → n ≤ 64
low-most n w b f = elim (dec_lt 64 n) [
  | yes h ↦ absurd (omega (arith, low-least 65 w (λ k l. f k (omega arith))))
  | no h ↦ omega arith
]

-- a bit as it is read: by a shift and `& 1`
pub bit-read : (w k : ℕ) → eqb (bit_and (w / 2 ^ k) 1) 1 ≡ bit w k
unfolding bit
bit-read w zero = let e : w / 1 ≡ w = omega arith in rw e (ap (λ (x : ℕ). eqb x 1) (and_mask w 1))
bit-read w (suc k) = let e : suc k ≡ 1 + k = omega arith in rw (e, ← shr-shr w 1 k) (bit-read (w / 2) k)

-- `l | (a ^ (a & b))` is 0 exactly if l is and a's bits are all among b's
pub none-lacks : (l a b : ℕ) → bit_or l (bit_xor a (bit_and a b)) ≡ 0 → (l ≡ 0) × (bit_and a b ≡ a)
none-lacks l a b e =
    let x = bit_xor a (bit_and a b) in
    let sum = or_add_and l x in
    let z : (l ≡ 0) × (x ≡ 0) = (omega (arith, sum, e, and_le_r l x), omega (arith, sum, e, and_le_l l x)) in
    (z.0, omega (arith, z.1, xor_add_and a (bit_and a b), and_le_r a (bit_and a b), and_le_l a b))

pub lacks-none : (l a b : ℕ) → l ≡ 0 → bit_and a b ≡ a → bit_or l (bit_xor a (bit_and a b)) ≡ 0
lacks-none l a b z e = rw (z, e) (xor_self a)
