-- Departures: how they change with one variable, and how a word of nibbles tells them. Assumes nothing.
use mathlib.Core.Path.{◌≡◌, refl, sym, ap, ap₂, ◌∙◌}
use mathlib.Core.Bool.{Bool, true, ◌&&◌}
use mathlib.Core.Logic.{inl, inr}
use mathlib.Core.List.{List, [], ◌∷◌, ◌++◌, map, map-id}
use Prim.Native.Nat.{ℕ, zero, suc, ◌+◌, ◌-◌, ◌*◌, ◌^◌, ◌≤◌, ◌<◌}
use native.Mathlib.Omega.{arith}
use native.Mathlib.Nat.{add-mul}
use lib.Bits.{bit_and, bit_or, and_le_r, or_lt}
use lib.Count.{ones, ones_cat}
use lib.Dec.{eqb}
use lib.ListN.{length, get_or, set, replicate}
use borrow.Author.Tests.{eqb-true}
use Rattle.model.specs.Digits.{number, digits}
use Rattle.model.specs.Assignment.{code}
use Rattle.model.specs.Order.{departs, departures}
use Rattle.theory.specs.Digits.{Below}
use Rattle.theory.proofs.Lists.{and_both}
use Rattle.theory.proofs.Digits.{trichotomy, digits_length, digits-below, digits_number, number-below, number_digits}
use Rattle.theory.proofs.WordsDigits.{pow_pow, and_blocks, or_blocks, each-mapped}
use Rattle.theory.proofs.WordsWide.{alike}

-- ---- one variable

-- a variable is out of value 0 or not
departs-most : (x : ℕ) → departs x ≤ 1
departs-most zero = omega arith
departs-most (suc x) = omega arith

-- a value above another is out of value 0
above-departs : (q x : ℕ) → q < x → departs x ≡ 1
above-departs q zero h = absurd (omega arith)
above-departs q (suc x) h = refl

-- no more departures than variables
pub departures-most : (f : List ℕ) → departures f ≤ length f
departures-most [] = omega arith
departures-most (x ∷ f) = omega (arith, departs-most x, departures-most f)

-- a variable's value is changed
departures-set : (f : List ℕ) (v q : ℕ) → v < length f → departures (set f v q) + departs (get_or f v 0) ≡ departures f + departs q
departures-set [] v q l = absurd (omega arith)
departures-set (x ∷ f) zero q l = omega arith
departures-set (x ∷ f) (suc v) q l = omega (arith, departures-set f v q (omega arith))

-- a lower value makes no more departures
pub lower-departs : (f : List ℕ) (v q : ℕ) → v < length f → q < get_or f v 0 → departures (set f v q) ≤ departures f
lower-departs f v q l h = omega (arith, departures-set f v q l, departs-most q, above-departs q (get_or f v 0) h)

-- ---- a word of nibbles

-- whether a test holds of all numbers below n, and so of each
all_below : ℕ → (ℕ → Bool) → Bool
all_below zero holds = true
all_below (suc n) holds = holds n && all_below n holds

each_of : (n : ℕ) (holds : ℕ → Bool) → all_below n holds ≡ true → (y : ℕ) → y < n → holds y ≡ true
unfolding all_below
each_of zero holds e y l = absurd (omega arith)
each_of (suc n) holds e y l =
    let both = and_both (holds n) (all_below n holds) e in
    elim (trichotomy y n) [ inl m ↦ each_of n holds both.1 y m | inr m ↦ elim m [ inl s ↦ rw s both.0 | inr m ↦ absurd (omega arith) ] ]

-- of one nibble: its top bit, once 7 is added to the three below it, is set exactly if it is not 0
nibble-out : (y : ℕ) → y < 16 → bit_and (bit_or (bit_and y 7 + 7) y) 8 ≡ departs y * 8
unfolding all_below
nibble-out y l = eqb-true _ _ (each_of 16 (λ y. eqb (bit_and (bit_or (bit_and y 7 + 7) y) 8) (departs y * 8)) refl y l)

-- a number of sums is the sum of the numbers
number_sums : (b k : ℕ) (f g : ℕ → ℕ) (ds : List ℕ) → number b k (map f ds) + number b k (map g ds) ≡ number b k (map (λ y. f y + g y) ds)
unfolding number
number_sums b zero f g ds = refl
number_sums b (suc k) f g [] = refl
number_sums b (suc k) f g (d ∷ ds) = rw (← number_sums b k f g ds, add-mul (f d) (g d) (b ^ k)) (omega arith)

-- such top bits are nibbles, of which each has as many ones as departures
out_ones : (y : ℕ) → ones (departs y * 8) ≡ departs y
unfolding ones
out_ones zero = refl
out_ones (suc y) = refl

outs_below : (ds : List ℕ) → Below 16 (map (λ y. departs y * 8) ds)
outs_below [] = tt
outs_below (d ∷ ds) = (omega (arith, departs-most d), outs_below ds)

-- so a word of them has the departures of all
ones_out : (k : ℕ) (ds : List ℕ) → length ds ≤ k → ones (number 16 k (map (λ y. departs y * 8) ds)) ≡ departures ds
unfolding number ones
ones_out zero [] l = refl
ones_out (suc k) [] l = refl
ones_out zero (d ∷ ds) l = absurd (omega arith)
ones_out (suc k) (d ∷ ds) l =
    let rest = map (λ y. departs y * 8) ds in
    rw (pow_pow 4 k) (ones_cat (4 * k) (departs d * 8) (number 16 k rest) (rw (← pow_pow 4 k) (number-below 16 k rest (omega arith) (outs_below ds))))
    ∙ ap₂ ◌+◌ (out_ones d) (ones_out k ds (omega arith))

-- the nibbles of a word that are not 0, one bit each, counted
pub departures-word : (word : ℕ) → word < 2 ^ 64
    → ones (bit_and (bit_or (bit_and word 0x7777_7777_7777_7777 + 0x7777_7777_7777_7777) word) 0x8888_8888_8888_8888) ≡ departures (digits 16 16 word)
unfolding number
departures-word word h =
    let ds = digits 16 16 word in
    let below : Below 16 ds = digits-below 16 16 word (omega arith) in
    let long : length ds ≡ 16 = digits_length 16 16 word in
    let is : word ≡ number 16 16 (map (λ y. y) ds) = sym (ap (number 16 16) (map-id ds) ∙ number_digits 16 16 word (omega arith) h) in
    let sevens : 0x7777_7777_7777_7777 ≡ number 16 16 (map (λ y. 7) ds) = ap (number 16 16) (alike 7 16 ds long) in
    let eights : 0x8888_8888_8888_8888 ≡ number 16 16 (map (λ y. 8) ds) = ap (number 16 16) (alike 8 16 ds long) in
    let low : bit_and word 0x7777_7777_7777_7777 ≡ number 16 16 (map (λ y. bit_and y 7) ds) =
    ap₂ bit_and is sevens ∙ each-mapped bit_and and_blocks 4 16 (λ y. y) (λ y. 7) (λ y. bit_and y 7) (λ y l. (l, omega arith, refl)) 16 ds below in
    let added : bit_and word 0x7777_7777_7777_7777 + 0x7777_7777_7777_7777 ≡ number 16 16 (map (λ y. bit_and y 7 + 7) ds) =
    ap₂ ◌+◌ low sevens ∙ number_sums 16 16 (λ y. bit_and y 7) (λ y. 7) ds in
    let room : (y : ℕ) → bit_and y 7 + 7 < 16 = λ y. omega (arith, and_le_r y 7) in
    let joined : bit_or (bit_and word 0x7777_7777_7777_7777 + 0x7777_7777_7777_7777) word ≡ number 16 16 (map (λ y. bit_or (bit_and y 7 + 7) y) ds) =
    ap₂ bit_or added is ∙ each-mapped bit_or or_blocks 4 16 (λ y. bit_and y 7 + 7) (λ y. y) (λ y. bit_or (bit_and y 7 + 7) y) (λ y l. (room y, l, refl)) 16 ds below in
    let tops : bit_and (bit_or (bit_and word 0x7777_7777_7777_7777 + 0x7777_7777_7777_7777) word) 0x8888_8888_8888_8888 ≡ number 16 16 (map (λ y. departs y * 8) ds) =
    ap₂ bit_and joined eights
    ∙ each-mapped bit_and and_blocks 4 16 (λ y. bit_or (bit_and y 7 + 7) y) (λ y. 8) (λ y. departs y * 8) (λ y l. (or_lt 4 (bit_and y 7 + 7) y (room y) l, omega arith, nibble-out y l)) 16 ds below in
    ap ones tops ∙ ones_out 16 ds (omega (arith, long))

-- there are no more than sixteen
pub departures-few : (word : ℕ) → departures (digits 16 16 word) ≤ 16
departures-few word = omega (arith, departures-most (digits 16 16 word), digits_length 16 16 word)

-- ---- codes

-- zeros behind values make no departures
departures-zeros : (f : List ℕ) (n : ℕ) → departures (f ++ replicate n 0) ≡ departures f
departures-zeros [] zero = refl
departures-zeros [] (suc n) = omega (arith, departures-zeros [] n)
departures-zeros (x ∷ f) n = ap (λ (r : ℕ). departs x + r) (departures-zeros f n)

-- the nibbles of a code tell the departures of its values
pub departures-code : (f : List ℕ) → Below 16 f → length f ≤ 16 → departures (digits 16 16 (code f)) ≡ departures f
departures-code f l s = ap departures (digits_number 16 16 f (omega arith) l s) ∙ departures-zeros f (16 - length f)
