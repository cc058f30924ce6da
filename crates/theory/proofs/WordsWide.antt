-- A mask is widened in four steps, each of which moves the upper half of every group of bits up: from one group of sixteen bits to sixteen of one bit. The steps backwards narrow it again. Assumes nothing.
use mathlib.Core.Path.{◌≡◌, refl, sym, ap, ◌∙◌}
use mathlib.Core.List.{List, [], ◌∷◌, map, map-map, map-id}
use Prim.Native.Nat.{ℕ, zero, suc, ◌+◌, ◌-◌, ◌*◌, ◌/◌, ◌%◌, ◌^◌, ◌≤◌, ◌<◌}
use native.Mathlib.Omega.{arith}
use native.Mathlib.Nat.{add_comm, suc-add, zero-mul, add-mul, mul-add, mul_assoc, mul_right_comm, mul-div_cancel, pow-suc, pow-succ', div-div-eq-div-mul, mod-lt, mod-eq_of_lt, mul-add-mod_self_right}
use lib.Arith.{digits_lt}
use lib.Bits.{bit_and, bit_or, and_block, and_mask, and_high, or_lt, or_shifted_r}
use lib.ListN.{length, replicate}
use lib.Pow.{pow_pos, pow-add, pow_mono, ones_lt, shl_lt, shr_lt, shr-shr, shl-shr, split, high, low, high_ones, field, mod-mod-pow}
use Rattle.model.specs.Digits.{number, digits}
use Rattle.model.specs.Assignment.{Assignment}
use Rattle.theory.specs.Digits.{Below}
use Rattle.theory.specs.Words.{Words, fifteen, wide_of, Wide}
use Rattle.theory.proofs.Lists.{all_map, all_image}
use Rattle.theory.proofs.Digits.{digits_length, digits-below, number-below}
use Rattle.theory.proofs.Words.{mask_below, mask_low}
use Rattle.theory.proofs.WordsDigits.{pow_pow, and_blocks, or_blocks, each-mapped}

-- a number of digits each multiplied
scaled : (b k c : ℕ) (ds : List ℕ) → number b k (map (λ y. y * c) ds) ≡ number b k ds * c
unfolding number
scaled b zero c ds = sym (zero-mul c)
scaled b (suc k) c [] = sym (zero-mul c)
scaled b (suc k) c (d ∷ ds) = rw (scaled b k c ds, add-mul (d * b ^ k) (number b k ds) c, mul_right_comm d c (b ^ k))

-- as many equal numbers as members
pub alike : (c k : ℕ) (ys : List ℕ) → length ys ≡ k → replicate k c ≡ map (λ y. c) ys
alike c zero [] e = refl
alike c zero (y ∷ ys) e = absurd (omega arith)
alike c (suc k) [] e = absurd (omega arith)
alike c (suc k) (y ∷ ys) e = ap {B = List ℕ} (λ r. c ∷ r) (alike c k ys (omega arith))

-- digits made of groups of g bits, each masked by c
masked : (u g c : ℕ) (f r : ℕ → ℕ) → c < 2 ^ u → ((y : ℕ) → y < 2 ^ g → (f y < 2 ^ u) × (bit_and (f y) c ≡ r y)) → (k m : ℕ)
    → bit_and (number (2 ^ u) k (map f (digits (2 ^ g) k m))) (number (2 ^ u) k (replicate k c)) ≡ number (2 ^ u) k (map r (digits (2 ^ g) k m))
masked u g c f r l h k m = rw (alike c k (digits (2 ^ g) k m) (digits_length (2 ^ g) k m))
    (each-mapped bit_and and_blocks u (2 ^ g) f (λ y. c) r (λ y n. ((h y n).0, l, (h y n).1)) k (digits (2 ^ g) k m) (digits-below (2 ^ g) k m (pow_pos g)))

-- a power of a square
square_pow : (w k j : ℕ) → j ≡ k + k → (2 ^ (w + w)) ^ k ≡ (2 ^ w) ^ j
square_pow w k j e = rw (pow_pow (w + w) k, pow_pow w j, e, add-mul w w k, mul-add w k k)

-- each group of bits as its upper and its lower half
abbrev halves : ℕ → List ℕ → List ℕ
halves h [] = []
halves h (y ∷ ys) = y / 2 ^ h ∷ y % 2 ^ h ∷ halves h ys

-- the halves of digits are digits
digits-halves : (h k j n : ℕ) → j ≡ k + k → halves h (digits (2 ^ (h + h)) k n) ≡ digits (2 ^ h) j n
unfolding digits
digits-halves h zero zero n e = refl
digits-halves h zero (suc j) n e = absurd (omega arith)
digits-halves h (suc k) zero n e = absurd (omega arith)
digits-halves h (suc k) (suc zero) n e = absurd (omega arith)
digits-halves h (suc k) (suc (suc j)) n e =
    let f : j ≡ k + k = omega arith in
    rw (square_pow h k j f, field (n / (2 ^ h) ^ j) h h, mod-mod-pow (n / (2 ^ h) ^ j) h h, digits-halves h k j n f, pow-suc (2 ^ h) j, div-div-eq-div-mul n ((2 ^ h) ^ j) (2 ^ h))

-- the k lowest groups of h bits of a number at places of w bits
abbrev groups : ℕ → ℕ → ℕ → ℕ → ℕ
groups w h k m = number (2 ^ w) k (digits (2 ^ h) k m)

module _ (h s : ℕ) where
  -- the two halves of a group at twice the distance
  abbrev apart : ℕ → ℕ
  apart y = y / 2 ^ h * 2 ^ (h + s) + y % 2 ^ h

  -- a number of such groups is a number of halves
  number-halves : (k j : ℕ) (ys : List ℕ) → j ≡ k + k → number (2 ^ (h + s + (h + s))) k (map apart ys) ≡ number (2 ^ (h + s)) j (halves h ys)
  unfolding number
  number-halves zero zero ys e = refl
  number-halves zero (suc j) ys e = absurd (omega arith)
  number-halves (suc k) zero ys e = absurd (omega arith)
  number-halves (suc k) (suc zero) ys e = absurd (omega arith)
  number-halves (suc k) (suc (suc j)) [] e = refl
  number-halves (suc k) (suc (suc j)) (y ∷ ys) e =
      let f : j ≡ k + k = omega arith in
      rw (square_pow (h + s) k j f, number-halves k j ys f, pow-succ' (2 ^ (h + s)) j, add-mul (y / 2 ^ h * 2 ^ (h + s)) (y % 2 ^ h) ((2 ^ (h + s)) ^ j), mul_assoc (y / 2 ^ h) (2 ^ (h + s)) ((2 ^ (h + s)) ^ j)) (omega arith)

  -- the bits of a group's two places, and the lower half of each
  abbrev room : ℕ
  room = h + s + (h + s)

  abbrev kept : ℕ
  kept = (2 ^ h - 1) * 2 ^ (h + s) + (2 ^ h - 1)

  -- a half fits its place
  half : (y : ℕ) → y < 2 ^ h → y < 2 ^ (h + s)
  half y l = omega (arith, pow_mono {i = h} {j = h + s} (omega arith))

  -- two halves fit both
  fits : (p q : ℕ) → p < 2 ^ h → q < 2 ^ h → p * 2 ^ (h + s) + q < 2 ^ room
  fits p q l m = rw (pow-add 2 (h + s) (h + s)) (digits_lt (half p l) (half q m))

  -- so does a group
  group_fits : (y : ℕ) → y < 2 ^ (h + h) → y < 2 ^ room
  group_fits y l = omega (arith, pow_mono {i = h + h} {j = room} (omega arith))

  module _ (far : h + h ≤ s) where
    -- a group with itself further up, masked, is its halves apart
    group_step : (y : ℕ) → y < 2 ^ (h + h) → bit_and (bit_or y (y * 2 ^ s)) kept ≡ apart y
    group_step y l =
        let p = y / 2 ^ h in
        let q = y % 2 ^ h in
        let near : y < 2 ^ s = omega (arith, pow_mono {i = h + h} {j = s} far) in
        let top : y * 2 ^ s ≡ p * 2 ^ (h + s) + q * 2 ^ s = ap (λ (n : ℕ). n * 2 ^ s) (sym (split y h)) ∙ rw (add-mul (p * 2 ^ h) q (2 ^ s), mul_assoc p (2 ^ h) (2 ^ s), pow-add 2 h s) in
        let moved : bit_or y (y * 2 ^ s) ≡ p * 2 ^ (h + s) + (q * 2 ^ s + y) = or_shifted_r y s y near ∙ omega arith in
        let rest : q * 2 ^ s + y < 2 ^ (h + s) = rw (pow-add 2 h s) (digits_lt (mod-lt y (pow_pos h)) near) in
        let whole : 2 ^ s ≡ 2 ^ (s - h) * 2 ^ h = rw (← pow-add 2 (s - h) h) (ap (λ (n : ℕ). 2 ^ n) (omega arith)) in
        let low : (q * 2 ^ s + y) % 2 ^ h ≡ q = rw (whole, ← mul_assoc q (2 ^ (s - h)) (2 ^ h)) (mul-add-mod_self_right (q * 2 ^ (s - h)) (2 ^ h) y) in
        rw (
          moved,
          and_block (h + s) p (2 ^ h - 1) (q * 2 ^ s + y) (2 ^ h - 1) rest (half (2 ^ h - 1) (ones_lt h)),
          and_mask p h,
          and_mask (q * 2 ^ s + y) h,
          mod-eq_of_lt (shr_lt {n = y} h h l),
          low,
        )

    -- one step: a word of groups with itself further up, masked, is the word of their halves
    step : (k j m x : ℕ) → j ≡ k + k → room * k ≡ 64 → x ≡ groups room (h + h) k m
        → bit_and (bit_or x (x * 2 ^ s % 2 ^ 64)) (number (2 ^ room) k (replicate k kept)) ≡ groups (h + s) h j m
    step k j m x e f is =
        let ys = digits (2 ^ (h + h)) k m in
        let below = digits-below (2 ^ (h + h)) k m (pow_pos (h + h)) in
        let up : (y : ℕ) → y < 2 ^ (h + h) → y * 2 ^ s < 2 ^ room = λ y l. omega (arith, shl_lt {a = y} (h + h) s l, pow_mono {i = h + h + s} {j = room} (omega arith)) in
        let both : (y : ℕ) → y < 2 ^ (h + h) → bit_or y (y * 2 ^ s) < 2 ^ room = λ y l. or_lt room y (y * 2 ^ s) (group_fits y l) (up y l) in
        let ups : Below (2 ^ room) (map (λ y. y * 2 ^ s) ys) = all_image (λ y. y * 2 ^ s) (λ d. d < 2 ^ room) ys (all_map up ys below) in
        let size : (2 ^ room) ^ k ≡ 2 ^ 64 = pow_pow room k ∙ ap (λ (i : ℕ). 2 ^ i) f in
        let moved : x * 2 ^ s % 2 ^ 64 ≡ number (2 ^ room) k (map (λ y. y * 2 ^ s) ys) =
        rw (is, ← scaled (2 ^ room) k (2 ^ s) ys) (mod-eq_of_lt (rw size at (number-below (2 ^ room) k (map (λ y. y * 2 ^ s) ys) (pow_pos room) ups))) in
        rw (
          moved,
          is ∙ ap (number (2 ^ room) k) (sym (map-id ys)),
          each-mapped bit_or or_blocks room (2 ^ (h + h)) (λ y. y) (λ y. y * 2 ^ s) (λ y. bit_or y (y * 2 ^ s)) (λ y l. (group_fits y l, up y l, refl)) k ys below,
          masked room (h + h) kept (λ y. bit_or y (y * 2 ^ s)) apart (fits (2 ^ h - 1) (2 ^ h - 1) (ones_lt h) (ones_lt h)) (λ y l. (both y l, group_step y l)) k m,
          number-halves k j ys e,
          digits-halves h k j m e,
        )

  -- the lower half of a group whose halves are apart
  low_half : (y : ℕ) → bit_and (apart y) (2 ^ h - 1) ≡ y % 2 ^ h
  low_half y = and_mask (apart y) h ∙ rw (add_comm h s, pow-add 2 s h, ← mul_assoc (y / 2 ^ h) (2 ^ s) (2 ^ h)) (low (y / 2 ^ h * 2 ^ s) h (mod-lt y (pow_pos h)))

  -- its upper half
  high_half : (y : ℕ) → y < 2 ^ (h + h) → bit_and (apart y) ((2 ^ h - 1) * 2 ^ (h + s)) ≡ y / 2 ^ h * 2 ^ h * 2 ^ s
  high_half y l = rw (
    ← high_ones h (h + s),
    and_high (apart y) h (h + s),
    high (y / 2 ^ h) (h + s) (half (y % 2 ^ h) (mod-lt y (pow_pos h))),
    mod-eq_of_lt (shr_lt {n = y} h h l),
    pow-add 2 h s,
  ) (sym (mul_assoc (y / 2 ^ h) (2 ^ h) (2 ^ s)))

  -- one step back: the lower halves, and the upper ones moved down to them, are the groups
  back : (k j m x : ℕ) → j ≡ k + k → x ≡ groups (h + s) h j m
      → bit_or (bit_and x (number (2 ^ room) k (replicate k (2 ^ h - 1)))) (bit_and x (number (2 ^ room) k (replicate k ((2 ^ h - 1) * 2 ^ (h + s)))) / 2 ^ s)
      ≡ groups room (h + h) k m
  back k j m x e is =
      let ys = digits (2 ^ (h + h)) k m in
      let tops = map (λ y. y / 2 ^ h * 2 ^ h) ys in
      let wide : (y : ℕ) → y < 2 ^ (h + h) → apart y < 2 ^ room = λ y l. fits (y / 2 ^ h) (y % 2 ^ h) (shr_lt {n = y} h h l) (mod-lt y (pow_pos h)) in
      let whole : x ≡ number (2 ^ room) k (map apart ys) = is ∙ sym (number-halves k j ys e ∙ ap (number (2 ^ (h + s)) j) (digits-halves h k j m e)) in
      let lower : bit_and x (number (2 ^ room) k (replicate k (2 ^ h - 1))) ≡ number (2 ^ room) k (map (λ y. y % 2 ^ h) ys) =
      rw whole (masked room (h + h) (2 ^ h - 1) apart (λ y. y % 2 ^ h) (omega (arith, fits 0 (2 ^ h - 1) (pow_pos h) (ones_lt h))) (λ y l. (wide y l, low_half y)) k m) in
      let upper : bit_and x (number (2 ^ room) k (replicate k ((2 ^ h - 1) * 2 ^ (h + s)))) ≡ number (2 ^ room) k tops * 2 ^ s =
      rw (whole, ← scaled (2 ^ room) k (2 ^ s) tops, map-map (λ y. y * 2 ^ s) (λ y. y / 2 ^ h * 2 ^ h) ys)
      (masked room (h + h) ((2 ^ h - 1) * 2 ^ (h + s)) apart (λ y. y / 2 ^ h * 2 ^ h * 2 ^ s) (omega (arith, fits (2 ^ h - 1) 0 (ones_lt h) (pow_pos h))) (λ y l. (wide y l, high_half y l)) k m) in
      let both : (y : ℕ) → y < 2 ^ (h + h) → (y % 2 ^ h < 2 ^ room) × (y / 2 ^ h * 2 ^ h < 2 ^ room) × (bit_or (y % 2 ^ h) (y / 2 ^ h * 2 ^ h) ≡ y) =
      λ y l. (omega (arith, group_fits y l, split y h), omega (arith, group_fits y l, split y h), or_shifted_r (y / 2 ^ h) h (y % 2 ^ h) (mod-lt y (pow_pos h)) ∙ split y h) in
      rw (
        lower,
        upper,
        shl-shr (number (2 ^ room) k tops) s,
        each-mapped bit_or or_blocks room (2 ^ (h + h)) (λ y. y % 2 ^ h) (λ y. y / 2 ^ h * 2 ^ h) (λ y. y) both k ys (digits-below (2 ^ (h + h)) k m (pow_pos (h + h))),
        map-id ys,
      )

-- ---- the four steps

-- a word with itself further up, masked
abbrev pub stepped : ℕ → ℕ → ℕ → ℕ
stepped x s mask = bit_and (bit_or x (x * 2 ^ s % 2 ^ 64)) mask

-- a word's lower halves, and its upper ones moved down to them
abbrev pub joined : ℕ → ℕ → ℕ → ℕ → ℕ
joined x s low high = bit_or (bit_and x low) (bit_and x high / 2 ^ s)

-- the four steps backwards
abbrev pub joined_all : ℕ → ℕ
joined_all bits =
    let twos : ℕ = joined bits 3 0x0101_0101_0101_0101 0x1010_1010_1010_1010 in
    let fours : ℕ = joined twos 6 0x0003_0003_0003_0003 0x0300_0300_0300_0300 in
    let eights : ℕ = joined fours 12 0x0000_000f_0000_000f 0x000f_0000_000f_0000 in
    joined eights 24 0x0000_0000_0000_00ff 0x0000_00ff_0000_0000

-- fifteen times a bit is a digit of base 16
fifteens_below : (bs : List ℕ) → Below 2 bs → Below 16 (map fifteen bs)
fifteens_below [] l = tt
fifteens_below (b ∷ bs) l = (omega (arith, l.0), fifteens_below bs l.1)

module _ (mask : ℕ) where
  -- the widened mask is a word
  pub wide_below : wide_of mask < 2 ^ 64
  unfolding wide_of
  wide_below = number-below 16 16 (map fifteen (digits 2 64 mask)) (omega arith) (fifteens_below (digits 2 64 mask) (digits-below 2 64 mask (omega arith)))

  -- the first digits of the mask are the digits of its top sixteen bits
  top_digits : (k : ℕ) → number 16 k (map fifteen (digits 2 k (mask / 2 ^ 48))) ≡ number 16 k (map fifteen (digits 2 (k + 48) mask))
  unfolding number digits
  top_digits zero = refl
  top_digits (suc k) = rw (suc-add k 48, shr-shr mask 48 k, add_comm 48 k, top_digits k)

  -- sixteen bits are one group
  one_group : mask < 2 ^ 64 → mask / 2 ^ 48 ≡ groups 64 16 1 (mask / 2 ^ 48)
  unfolding number digits
  one_group h = omega (arith, shr_lt {n = mask} 16 48 h)

  -- the mask's top sixteen bits moved apart in four steps, each times fifteen, are the widened mask
  pub wide_word : mask < 2 ^ 64
      → stepped (stepped (stepped (stepped (mask / 2 ^ 48) 24 0x0000_00ff_0000_00ff) 12 0x000f_000f_000f_000f) 6 0x0303_0303_0303_0303) 3 0x1111_1111_1111_1111 * 15 ≡ wide_of mask
  unfolding number wide_of
  wide_word h =
      let m = mask / 2 ^ 48 in
      let a = stepped m 24 0x0000_00ff_0000_00ff in
      let b = stepped a 12 0x000f_000f_000f_000f in
      let c = stepped b 6 0x0303_0303_0303_0303 in
      let eights = step 8 24 (omega arith) 1 2 m m refl refl (one_group h) in
      let fours = step 4 12 (omega arith) 2 4 m a refl refl eights in
      let twos = step 2 6 (omega arith) 4 8 m b refl refl fours in
      let bits = step 1 3 (omega arith) 8 16 m c refl refl twos in
      ap (λ (n : ℕ). n * 15) bits ∙ sym (scaled 16 16 15 (digits 2 16 m)) ∙ top_digits 16

  -- a fifteenth of the widened mask, moved together in the steps backwards, is the mask's top sixteen bits
  pub narrow-word : mask < 2 ^ 64 → joined_all (wide_of mask / 15) ≡ mask / 2 ^ 48
  unfolding number wide_of
  narrow-word h =
      let m = mask / 2 ^ 48 in
      let bits : wide_of mask / 15 ≡ groups 4 1 16 m =
      rw (← top_digits 16, scaled 16 16 15 (digits 2 16 m)) (mul-div_cancel (number 16 16 (digits 2 16 m)) {n = 15} (omega arith)) in
      let twos = back 1 3 8 16 m (wide_of mask / 15) refl bits in
      let fours = back 2 6 4 8 m _ refl twos in
      let eights = back 4 12 2 4 m _ refl fours in
      back 8 24 1 2 m _ refl eights ∙ sym (one_group h)

-- so a widened mask gives the mask of its assignment again
pub narrow-words : (a : Assignment) (wide values : ℕ) → Wide a wide values → Words a (joined_all (wide / 15) * 2 ^ 48 % 2 ^ 64) values
narrow-words a wide values w =
    let v = w.words in
    let top = rw (← w.wide_is) at (narrow-word w.mask (rw v.mask_is (mask_below a))) in
    record {
      short = v.short;
      small = v.small;
      mask_is = rw (top, v.mask_is) (omega (arith, mask_below a, mask_low a v.short));
      values-is = v.values-is;
    }
