-- Laws of the two words of an assignment: they determine it, they are well formed exactly when they are those of a valid one, and it is full exactly when its mask has a one for each variable. Assumes nothing.
use mathlib.Core.Path.{◌≡◌, refl, sym, ap, ap₂, ◌∙◌}
use mathlib.Core.Logic.{◌↔◌}
use mathlib.Core.Bool.{true, false≢true}
use mathlib.Core.Option.{Option, none, some}
use mathlib.Core.List.{List, [], ◌∷◌, ◌++◌, map}
use Prim.Native.Nat.{ℕ, zero, suc, ◌+◌, ◌-◌, ◌%◌, ◌^◌, ◌≤◌, ◌<◌}
use native.Mathlib.Omega.{arith}
use native.Mathlib.Nat.{mod-eq_of_lt}
use native.Mathlib.Numerals.{one-add}
use lib.Count.{ones, ones_cat}
use lib.Dec.{eqb, ltb, eqb-suc-suc}
use lib.ListN.{length, get_or, take, drop, replicate, length-replicate, length-map, length-take}
use lib.Seq.{get_or-take, drop_at}
use borrow.Author.Tests.{ne_eqb, eqb-true, ltb-true, lt-ltb}
use Rattle.model.specs.Lists.{All}
use Rattle.model.specs.Digits.{number, digits}
use Rattle.model.specs.Assignment.{Assignment, Under, Valid, bit, nibble, mask_of, values_of, optional, optionals, assignment_of, all_zero, nibbles_fit, mask_fits, values_fit, well_formed, is_full}
use Rattle.theory.specs.Digits.{Below}
use Rattle.theory.specs.Words.{Words}
use Rattle.theory.proofs.Digits.{number-low, digits_length, digits-below, number-below, digits_number, number_take, zero-from, number-zeros}
use Rattle.theory.proofs.Agreement.{valid_length}
use Rattle.theory.proofs.Lists.{and_both}

-- ---- the digits of the words

-- bits are digits of base 2
pub bits_below : (a : Assignment) → Below 2 (map bit a)
bits_below [] = tt
bits_below (none ∷ a) = (omega arith, bits_below a)
bits_below (some x ∷ a) = (omega arith, bits_below a)

-- values below 16 are digits of base 16
pub nibbles_below : (a : Assignment) → All (Under 16) a → Below 16 (map nibble a)
nibbles_below [] s = tt
nibbles_below (none ∷ a) s = (omega arith, nibbles_below a s.1)
nibbles_below (some x ∷ a) s = (s.0, nibbles_below a s.1)

-- a mask is a word
pub mask_below : (a : Assignment) → mask_of a < 2 ^ 64
mask_below a = number-below 2 64 (map bit a) (omega arith) (bits_below a)

-- its bits below the first sixteen are zero
pub mask_low : (n : Assignment) → length n ≤ 16 → mask_of n % 2 ^ 48 ≡ 0
mask_low n short = number-low 2 64 48 (map bit n) (omega (arith, length-map n bit))

-- the values of an assignment with values below 16 are a word
pub values-below : (a : Assignment) → All (Under 16) a → values_of a < 2 ^ 64
values-below a s = number-below 16 16 (map nibble a) (omega arith) (nibbles_below a s)

-- the digits of the mask are the variables' bits, then zeros
pub mask-digits : (a : Assignment) → length a ≤ 64 → digits 2 64 (mask_of a) ≡ map bit a ++ replicate (64 - length a) 0
mask-digits a l = let n = length-map a bit in
    rw n at (digits_number 2 64 (map bit a) (omega arith) (bits_below a) (omega arith))

-- the digits of the values are the variables' nibbles, then zeros
pub values-digits : (a : Assignment) → length a ≤ 16 → All (Under 16) a → digits 16 16 (values_of a) ≡ map nibble a ++ replicate (16 - length a) 0
values-digits a l s = let n = length-map a nibble in
    rw n at (digits_number 16 16 (map nibble a) (omega arith) (nibbles_below a s) (omega arith))

-- ---- the assignment that two words hold

-- as many optional values as nibbles
optionals_length : (bs xs : List ℕ) → length xs ≤ length bs → length (optionals bs xs) ≡ length xs
optionals_length [] [] h = refl
optionals_length [] (x ∷ xs) h = absurd (omega arith)
optionals_length (b ∷ bs) [] h = refl
optionals_length (b ∷ bs) (x ∷ xs) h = ap suc (optionals_length bs xs (omega arith))

-- the optional value at a place
optionals-at : (bs xs : List ℕ) (v : ℕ) → v < length bs → v < length xs → get_or (optionals bs xs) v none ≡ optional (get_or bs v 0) (get_or xs v 0)
optionals-at [] xs v h k = absurd (omega arith)
optionals-at (b ∷ bs) [] v h k = absurd (omega arith)
optionals-at (b ∷ bs) (x ∷ xs) zero h k = refl
optionals-at (b ∷ bs) (x ∷ xs) (suc v) h k = optionals-at bs xs v (omega arith) (omega arith)

-- values read from digits of base 16 are below 16
optionals-small : (d : ℕ) (bs xs : List ℕ) → Below 16 xs → All (Under 16) (take d (optionals bs xs))
optionals-small zero bs xs l = tt
optionals-small (suc d) [] xs l = tt
optionals-small (suc d) (b ∷ bs) [] l = tt
optionals-small (suc d) (zero ∷ bs) (x ∷ xs) l = (tt, optionals-small d bs xs l.1)
optionals-small (suc d) (suc b ∷ bs) (x ∷ xs) l = (l.0, optionals-small d bs xs l.1)

module _ (d mask values : ℕ) where
  -- the assignment to d variables that two words hold has d variables
  pub assignment_length : d ≤ 16 → length (assignment_of d mask values) ≡ d
  unfolding assignment_of
  assignment_length short = rw (
    length-take d (optionals (digits 2 64 mask) (digits 16 16 values)),
    optionals_length (digits 2 64 mask) (digits 16 16 values) (rw (digits_length 2 64 mask, digits_length 16 16 values) (omega arith)),
    digits_length 16 16 values,
  ) (omega arith)

  -- its values are below 16
  pub assignment_small : All (Under 16) (assignment_of d mask values)
  unfolding assignment_of
  assignment_small = optionals-small d (digits 2 64 mask) (digits 16 16 values) (digits-below 16 16 values (omega arith))

  -- a variable's value is what its bit and its nibble say
  pub assignment_at : (v : ℕ) → d ≤ 16 → v < d → get_or (assignment_of d mask values) v none ≡ optional (get_or (digits 2 64 mask) v 0) (get_or (digits 16 16 values) v 0)
  unfolding assignment_of
  assignment_at v short h = rw (get_or-take d (optionals (digits 2 64 mask) (digits 16 16 values)) v none h)
      (optionals-at (digits 2 64 mask) (digits 16 16 values) v (rw (digits_length 2 64 mask) (omega arith)) (rw (digits_length 16 16 values) (omega arith)))

-- what is written is read again, whatever follows
read_again : (a : Assignment) (bs xs : List ℕ) → take (length a) (optionals (map bit a ++ bs) (map nibble a ++ xs)) ≡ a
read_again [] bs xs = refl
read_again (none ∷ a) bs xs = ap {B = Assignment} (λ r. none ∷ r) (read_again a bs xs)
read_again (some x ∷ a) bs xs = ap {B = Assignment} (λ r. some x ∷ r) (read_again a bs xs)

-- the words of an assignment hold it
pub words_hold : (a : Assignment) (mask values : ℕ) → Words a mask values → assignment_of (length a) mask values ≡ a
unfolding assignment_of
words_hold a mask values w =
    rw (w.mask_is, w.values-is, mask-digits a (omega (arith, w.short)), values-digits a w.short w.small)
    (read_again a (replicate (64 - length a) 0) (replicate (16 - length a) 0))

-- the words of an assignment to at most sixteen variables with values below 16
pub words_of : (a : Assignment) → length a ≤ 16 → All (Under 16) a → Words a (mask_of a) (values_of a)
words_of a l s = record { short = l; small = s; mask_is = refl; values-is = refl }

-- assignments to equally many variables that have the same two words are equal
pub words_injective : (a b : Assignment) → length a ≡ length b → length a ≤ 16 → All (Under 16) a → All (Under 16) b → mask_of a ≡ mask_of b → values_of a ≡ values_of b → a ≡ b
words_injective a b e l s t m v =
    sym (words_hold a (mask_of a) (values_of a) (words_of a l s))
    ∙ rw (e, m, v) (words_hold b (mask_of b) (values_of b) (words_of b (omega arith) t))

-- two zero words are those of the assignment that has no value
pub words-empty : (d : ℕ) → d ≤ 16 → Words (replicate d none) 0 0
words-empty d l = record {
  short = omega (arith, length-replicate {A = Option ℕ} d none);
  small = small-none d;
  mask_is = sym (ap (number 2 64) (map_none bit d refl) ∙ number-zeros 2 64 d);
  values-is = sym (ap (number 16 16) (map_none nibble d refl) ∙ number-zeros 16 16 d);
}
  where
    -- none is below 16
    small-none : (d : ℕ) → All (Under 16) (replicate d none)
    small-none zero = tt
    small-none (suc d) = (tt, small-none d)

    -- none is zero in both words
    map_none : (f : Option ℕ → ℕ) (d : ℕ) → f none ≡ 0 → map f (replicate d none) ≡ replicate d 0
    map_none f zero e = refl
    map_none f (suc d) e = ap₂ (λ (x : ℕ) (r : List ℕ). x ∷ r) e (map_none f d e)

-- ---- within the domains

-- within domains of at most 16 values each value is below 16
pub valid-small : (domains : List ℕ) (a : Assignment) → All (λ s. s ≤ 16) domains → Valid domains a → All (Under 16) a
valid-small [] [] z v = tt
valid-small [] (o ∷ a) z v = absurd v
valid-small (s ∷ domains) [] z v = absurd v
valid-small (s ∷ domains) (none ∷ a) z v = (tt, valid-small domains a z.1 v.1)
valid-small (s ∷ domains) (some x ∷ a) z v = (omega (arith, z.0, v.0), valid-small domains a z.1 v.1)

-- ---- well formed

-- zeros are all zero
zeros : (n : ℕ) → all_zero (replicate n 0) ≡ true
zeros zero = refl
zeros (suc n) = zeros n

-- the bits of what was read are the bits read
bits_back : (d : ℕ) (bs xs : List ℕ) → Below 2 bs → d ≤ length xs → map bit (take d (optionals bs xs)) ≡ take d bs
bits_back zero bs xs l h = refl
bits_back (suc d) [] xs l h = refl
bits_back (suc d) (b ∷ bs) [] l h = absurd (omega arith)
bits_back (suc d) (zero ∷ bs) (x ∷ xs) l h = ap {B = List ℕ} (λ r. 0 ∷ r) (bits_back d bs xs l.1 (omega arith))
bits_back (suc d) (suc b ∷ bs) (x ∷ xs) l h = ap₂ (λ (y : ℕ) (r : List ℕ). y ∷ r) (omega (arith, l.0)) (bits_back d bs xs l.1 (omega arith))

-- where each nibble is right, the nibbles of what was read are the nibbles read, nothing is left after them, and the values are in their domains
fit-back : (domains bs xs : List ℕ) → nibbles_fit domains bs xs ≡ true
    → (map nibble (take (length domains) (optionals bs xs)) ≡ take (length domains) xs) × (all_zero (drop (length domains) xs) ≡ true) × Valid domains (take (length domains) (optionals bs xs))
fit-back [] bs xs e = (refl, e, tt)
fit-back (s ∷ domains) [] xs e = absurd (false≢true e)
fit-back (s ∷ domains) (b ∷ bs) [] e = absurd (false≢true e)
fit-back (s ∷ domains) (zero ∷ bs) (x ∷ xs) e =
    let t = and_both (eqb x 0) (nibbles_fit domains bs xs) e in
    let r = fit-back domains bs xs t.1 in
    (ap₂ (λ (y : ℕ) (r : List ℕ). y ∷ r) (sym (eqb-true x 0 t.0)) r.0, r.1, (tt, r.2))
fit-back (s ∷ domains) (suc b ∷ bs) (x ∷ xs) e =
    let t = and_both (ltb x s) (nibbles_fit domains bs xs) e in
    let r = fit-back domains bs xs t.1 in
    (ap {B = List ℕ} (λ r. x ∷ r) r.0, r.1, (ltb-true x s t.0, r.2))

-- a word with zeros from place v on is made of its digits before it
top_part : (b k v n : ℕ) → 0 < b → v ≤ k → n < b ^ k → all_zero (drop v (digits b k n)) ≡ true → n ≡ number b k (take v (digits b k n))
top_part b k v n h l f e =
    let z = eqb-true (n % b ^ (k - v)) 0 (sym (zero-from b k v n h l) ∙ e) in
    omega (arith, number_take b k v n h l, mod-eq_of_lt f)

-- each nibble of a valid assignment's words is right
fit_words : (domains bs xs : List ℕ) (a : Assignment) → Valid domains a → all_zero xs ≡ true → nibbles_fit domains (map bit a ++ bs) (map nibble a ++ xs) ≡ true
fit_words [] bs xs [] v e = e
fit_words [] bs xs (o ∷ a) v e = absurd v
fit_words (s ∷ domains) bs xs [] v e = absurd v
fit_words (s ∷ domains) bs xs (none ∷ a) v e = fit_words domains bs xs a v.1 e
fit_words (s ∷ domains) bs xs (some x ∷ a) v e = rw (lt-ltb x s v.0) (fit_words domains bs xs a v.1 e)

module _ (domains : List ℕ) where
  module _ (mask values : ℕ) (e : well_formed domains mask values ≡ true) where
    -- well formed words hold a valid assignment
    pub well_formed-valid : Valid domains (assignment_of (length domains) mask values)
    unfolding well_formed values_fit assignment_of
    well_formed-valid = (fit-back domains (digits 2 64 mask) (digits 16 16 values) (and_both (mask_fits domains mask) (values_fit domains mask values) e).1).2

    -- and are the words of it
    pub well_formed-words : length domains ≤ 16 → mask < 2 ^ 64 → values < 2 ^ 64 → Words (assignment_of (length domains) mask values) mask values
    unfolding well_formed mask_fits values_fit assignment_of
    well_formed-words l fm fv =
        let d = length domains in
        let t = and_both (mask_fits domains mask) (values_fit domains mask values) e in
        let r = fit-back domains (digits 2 64 mask) (digits 16 16 values) t.1 in
        record {
          short = omega (arith, assignment_length d mask values l);
          small = assignment_small d mask values;
          mask_is = top_part 2 64 d mask (omega arith) (omega arith) fm t.0
              ∙ ap (number 2 64) (sym (bits_back d (digits 2 64 mask) (digits 16 16 values) (digits-below 2 64 mask (omega arith)) (rw (digits_length 16 16 values) l)));
          values-is = top_part 16 16 d values (omega arith) l fv r.1 ∙ ap (number 16 16) (sym r.0);
        }

  module _ (l : length domains ≤ 16) (z : All (λ s. s ≤ 16) domains) where
    -- the words of a valid assignment
    pub valid-words : (a : Assignment) → Valid domains a → Words a (mask_of a) (values_of a)
    valid-words a v = words_of a (omega (arith, valid_length domains a v)) (valid-small domains a z v)

    -- a valid assignment is the one that its words hold
    pub assignment_of_words : (a : Assignment) → Valid domains a → assignment_of (length domains) (mask_of a) (values_of a) ≡ a
    assignment_of_words a v = rw (← valid_length domains a v) (words_hold a (mask_of a) (values_of a) (valid-words a v))

    -- the words of a valid assignment are well formed
    pub words_well_formed : (a : Assignment) → Valid domains a → well_formed domains (mask_of a) (values_of a) ≡ true
    unfolding well_formed mask_fits values_fit
    words_well_formed a v =
        let w = valid-words a v in
        rw (
          mask-digits a (omega (arith, w.short)),
          values-digits a w.short w.small,
          drop_at (map bit a) (replicate (64 - length a) 0) (length domains) (length-map a bit ∙ valid_length domains a v),
          zeros (64 - length a),
        )
        (fit_words domains (replicate (64 - length a) 0) (replicate (16 - length a) 0) a v (zeros (16 - length a)))

    -- two words are well formed exactly when they are those of a valid assignment
    pub well_formed_exactly : (mask values : ℕ) → mask < 2 ^ 64 → values < 2 ^ 64
        → (well_formed domains mask values ≡ true) ↔ ((a : Assignment) × Valid domains a × (mask ≡ mask_of a) × (values ≡ values_of a))
    well_formed_exactly mask values fm fv = (
      (λ e. let w = well_formed-words mask values e l fm fv in (assignment_of (length domains) mask values, well_formed-valid mask values e, w.mask_is, w.values-is)),
      (λ m. rw (m.2, m.3) (words_well_formed m.0 m.1)),
    )

-- ---- full

-- how many variables are assigned
abbrev assigned : Assignment → ℕ
assigned [] = 0
assigned (o ∷ a) = bit o + assigned a

-- the mask has a one for each assigned variable
ones_bits : (k : ℕ) (a : Assignment) → length a ≤ k → ones (number 2 k (map bit a)) ≡ assigned a
unfolding number ones
ones_bits zero [] h = refl
ones_bits (suc k) [] h = refl
ones_bits zero (o ∷ a) h = absurd (omega arith)
ones_bits (suc k) (none ∷ a) h =
    ones_cat k 0 (number 2 k (map bit a)) (number-below 2 k (map bit a) (omega arith) (bits_below a)) ∙ rw (ones_bits k a (omega arith))
ones_bits (suc k) (some x ∷ a) h =
    ones_cat k 1 (number 2 k (map bit a)) (number-below 2 k (map bit a) (omega arith) (bits_below a)) ∙ rw (ones_bits k a (omega arith))

-- no more are assigned than there are
assigned-most : (a : Assignment) → assigned a ≤ length a
assigned-most [] = omega arith
assigned-most (none ∷ a) = omega (arith, assigned-most a)
assigned-most (some x ∷ a) = omega (arith, assigned-most a)

-- full exactly when as many are assigned as there are
full-count : (a : Assignment) → eqb (assigned a) (length a) ≡ is_full a
full-count [] = refl
full-count (none ∷ a) = ne_eqb (0 + assigned a) (suc (length a)) (λ e. omega (arith, assigned-most a))
full-count (some x ∷ a) = rw (one-add, eqb-suc-suc) (full-count a)

-- an assignment is full exactly when its mask has as many ones as there are variables
pub full-by_ones : (a : Assignment) → length a ≤ 64 → eqb (ones (mask_of a)) (length a) ≡ is_full a
full-by_ones a h = rw (ones_bits 64 a h) (full-count a)
