-- Laws of bytes by their bits, most significant first. Assumes nothing.
use mathlib.Core.Path.{◌≡◌, refl, sym, ap, ap₂, ◌∙◌}
use mathlib.Core.List.{List, [], ◌∷◌, ◌++◌, append-nil}
use Prim.Native.Nat.{ℕ, zero, suc, ◌+◌, ◌-◌, ◌*◌, ◌/◌, ◌%◌, ◌≤◌, ◌<◌}
use native.Mathlib.Omega.{arith}
use native.Mathlib.Nat.{zero-add}
use native.Mathlib.Numerals.{add-one}
use native.Mathlib.Decide.{dec_lt}
use lib.ListN.{length, get_or, take, drop, replicate, length-drop, take-append-drop, drop_of_length-le, get_or-append}
use lib.Seq.{length-take-le, take_at, drop_at, drop-cons, drop-nil, get_or-drop, get_or-append-add}
use Rattle.model.specs.Digits.{number, digits}
use Rattle.model.specs.Sheet.{bit_at, bits_at}
use Rattle.model.specs.Tables.{packed}
use Rattle.theory.specs.Digits.{Below}
use Rattle.theory.specs.Puts.{written, bits_of}
use Rattle.theory.proofs.Lists.{all_join, all_left, in_turn-join, all_any, in_turn_length}
use Rattle.theory.proofs.Digits.{digits_length, digits-below, digits-made, number-below, number_digits, number-first, number_same, zeros-behind}
use Rattle.theory.proofs.Fields.{below-drop}
use Rattle.theory.proofs.Puts.{drop_past}
use Rattle.theory.proofs.Written.{below_take, below_in_turn}

-- ---- the bits of bytes

pub bits_length : (bytes : List ℕ) → length (bits_of bytes) ≡ 8 * length bytes
bits_length bytes = in_turn_length (digits 2 8) 8 bytes (all_any (digits_length 2 8) bytes)

pub bits_below : (bytes : List ℕ) → Below 2 (bits_of bytes)
bits_below bytes = below_in_turn (digits 2 8) (λ b. digits-below 2 8 b (omega arith)) bytes

-- past n bytes
pub bits-drop : (n : ℕ) (bytes : List ℕ) → drop (8 * n) (bits_of bytes) ≡ bits_of (drop n bytes)
bits-drop zero bytes = refl
bits-drop (suc n) [] = drop-nil (8 * suc n)
bits-drop (suc n) (b ∷ bytes) =
    let e : 8 * suc n ≡ 8 + 8 * n = omega arith in
    rw (e, drop_past (digits 2 8 b) (bits_of bytes) 8 (8 * n) (digits_length 2 8 b)) (bits-drop n bytes)

-- the bit at a place of a sheet is that of its bits
pub bit-at : (bytes : List ℕ) (place : ℕ) → place < 8 * length bytes → bit_at bytes place ≡ get_or (bits_of bytes) place 0
unfolding bit_at
bit-at [] place h = absurd (omega arith)
bit-at (b ∷ bytes) place h = elim (dec_lt place 8) [
  | yes l ↦
      let first : place / 8 ≡ 0 = omega arith in
      let bit : place % 8 ≡ place = omega arith in
      rw (bit_at, first, bit) (sym (get_or-append (digits 2 8 b) (bits_of bytes) 0 place (omega (arith, digits_length 2 8 b))))
  | no l ↦
      let q : ℕ = place - 8 in
      let later : place / 8 ≡ suc (q / 8) = omega arith in
      let bit : place % 8 ≡ q % 8 = omega arith in
      let is : place ≡ length (digits 2 8 b) + q = omega (arith, digits_length 2 8 b) in
      let r : get_or (digits 2 8 b ++ bits_of bytes) place 0 ≡ get_or (bits_of bytes) q 0 = ap (λ (n : ℕ). get_or (digits 2 8 b ++ bits_of bytes) n 0) is ∙ get_or-append-add (digits 2 8 b) (bits_of bytes) q 0 in
      rw (bit_at, later, bit) (bit-at bytes q (omega arith) ∙ sym r)
]

-- so are those from a place on
pub bits-at : (bytes : List ℕ) (w place : ℕ) → place + w ≤ 8 * length bytes → bits_at bytes w place ≡ take w (drop place (bits_of bytes))
unfolding bits_at
bits-at bytes zero place h = refl
bits-at bytes (suc w) place h =
    let inside : place < length (bits_of bytes) = omega (arith, bits_length bytes) in
    rw (bits_at, bit-at bytes place (omega arith), bits-at bytes w (place + 1) (omega arith), drop-cons (bits_of bytes) place 0 inside, add-one place)

-- ---- bits packed into bytes

-- packed bits are bytes
pub packed-below : (n : ℕ) (bits : List ℕ) → Below 2 bits → Below 256 (packed n bits)
unfolding packed
packed-below zero bits l = tt
packed-below (suc n) bits l = (number-below 2 8 (take 8 bits) (omega arith) (below_take 2 8 bits l), packed-below n (drop 8 bits) (below-drop 2 8 bits l))

-- bytes are their bits packed
pub bits-packed : (bytes : List ℕ) → Below 256 bytes → packed (length bytes) (bits_of bytes) ≡ bytes
unfolding packed
bits-packed [] l = refl
bits-packed (b ∷ bytes) l =
    rw (packed, take_at (digits 2 8 b) (bits_of bytes) 8 (digits_length 2 8 b), drop_at (digits 2 8 b) (bits_of bytes) 8 (digits_length 2 8 b), number_digits 2 8 b (omega arith) l.0, bits-packed bytes l.1)

-- so bytes are determined by their bits
pub bits_injective : (xs ys : List ℕ) → Below 256 xs → Below 256 ys → bits_of xs ≡ bits_of ys → xs ≡ ys
bits_injective xs ys l m e =
    let n : length xs ≡ length ys = omega (arith, bits_length xs, bits_length ys, ap length e) in
    sym (bits-packed xs l) ∙ ap₂ (λ (n : ℕ) (bits : List ℕ). packed n bits) n e ∙ bits-packed ys m

-- bits that fill n bytes are those of the bytes
pub packed-bits : (n : ℕ) (bits : List ℕ) → Below 2 bits → length bits ≡ 8 * n → bits_of (packed n bits) ≡ bits
unfolding packed
packed-bits zero [] l e = refl
packed-bits zero (b ∷ bits) l e = absurd (omega arith)
packed-bits (suc n) bits l e =
    let byte : digits 2 8 (number 2 8 (take 8 bits)) ≡ take 8 bits = digits-made 2 8 (take 8 bits) (omega arith) (below_take 2 8 bits l) (length-take-le 8 bits (omega arith)) in
    rw (packed, byte, packed-bits n (drop 8 bits) (below-drop 2 8 bits l) (omega (arith, length-drop 8 bits))) (take-append-drop 8 bits)

-- where the bits are the same, with zeros behind them or not, so are the bytes
packed-same : (n : ℕ) (xs ys : List ℕ) → ((v : ℕ) → get_or xs v 0 ≡ get_or ys v 0) → packed n xs ≡ packed n ys
unfolding packed
packed-same zero xs ys h = refl
packed-same (suc n) xs ys h =
    let byte : number 2 8 (take 8 xs) ≡ number 2 8 (take 8 ys) = number-first 2 8 xs ∙ number_same 2 8 xs ys h ∙ sym (number-first 2 8 ys) in
    let later = packed-same n (drop 8 xs) (drop 8 ys) (λ v. get_or-drop 8 xs v 0 ∙ h (8 + v) ∙ sym (get_or-drop 8 ys v 0)) in
    ap₂ (λ (b : ℕ) (bytes : List ℕ). b ∷ bytes) byte later

-- zeros behind the bits make no difference
pub packed-filler : (n k : ℕ) (bits : List ℕ) → packed n (bits ++ replicate k 0) ≡ packed n bits
packed-filler n k bits = packed-same n (bits ++ replicate k 0) bits (zeros-behind bits k)

-- ---- bits put to the front of bytes

-- bits that fill n bytes
pub packed-front : (n : ℕ) (bits before after : List ℕ) → bits_of after ≡ written 0 bits (bits_of before) → length bits ≡ 8 * n → Below 256 before → Below 256 after
    → after ≡ packed n bits ++ drop n before
unfolding written
packed-front n bits before after e s l m =
    let rest : drop (8 * n) (bits_of before) ≡ bits_of (drop n before) = bits-drop n before in
    let f : bits_of after ≡ bits ++ bits_of (drop n before) = rw (written, zero-add (length bits), s, rest) at e in
    let b : Below 2 bits = all_left (λ d. d < 2) bits (bits_of (drop n before)) (rw f at (bits_below after)) in
    bits_injective after (packed n bits ++ drop n before) m
    (all_join (λ d. d < 256) (packed n bits) (drop n before) (packed-below n bits b) (below-drop 256 n before l))
    (rw (in_turn-join (digits 2 8) (packed n bits) (drop n before), packed-bits n bits b s) f)

-- bits that fill them all
pub packed-whole : (bits before after : List ℕ) → bits_of after ≡ written 0 bits (bits_of before) → length bits ≡ 8 * length before → Below 256 after
    → after ≡ packed (length before) bits
unfolding written
packed-whole bits before after e s m =
    let nothing : drop (8 * length before) (bits_of before) ≡ [] = drop_of_length-le (bits_of before) {i = 8 * length before} (omega (arith, bits_length before)) in
    let f : bits_of after ≡ bits = rw (written, zero-add (length bits), s, nothing, append-nil bits) at e in
    let n : length after ≡ length before = omega (arith, bits_length after, ap length f) in
    sym (bits-packed after m) ∙ ap₂ (λ (n : ℕ) (bits : List ℕ). packed n bits) n f
