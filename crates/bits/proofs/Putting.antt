-- A field put into the three bytes around its place. Assumes nothing.
use mathlib.Core.Path.{◌≡◌, refl, sym, ap, ◌∙◌}
use mathlib.Core.Logic.{◌≢◌}
use mathlib.Core.List.{List, [], ◌∷◌, ◌++◌, append_assoc}
use Prim.Native.Nat.{ℕ, zero, suc, ◌+◌, ◌-◌, ◌*◌, ◌/◌, ◌%◌, ◌^◌, ◌≤◌, ◌<◌}
use native.Mathlib.Omega.{arith}
use native.Mathlib.Nat.{one-le-pow, div-add-mod', mod-lt, zero-add, zero-mul, div-one}
use lib.Arith.{digits_lt}
use lib.Bits.{bit_and, bit_or, and_mask, and_block, and_shr, and_mod, or_block, or_zero_r, or_shifted_r, or_shr, or_mod}
use lib.Pow.{pow_pos, pow_mono, pow-add, shl_lt, shr_mod, split, mod-mod-pow, high_ones}
use lib.ListN.{length, get_or, take, drop, set, replicate, length-append, length-drop, take-append-drop}
use lib.Seq.{get_or-drop, get_or-set_other, length-take-le, take_at, drop_at, take-append-le, drop-append-le, take-append-add, drop-append-add, take-append_seam, drop-drop, sets, sets-eq, length-sets}
use Rattle.model.specs.Digits.{number, digits}
use Rattle.theory.specs.Digits.{Below}
use Rattle.theory.specs.Puts.{written, bits_of}
use Rattle.theory.proofs.Lists.{all_join, in_turn-join}
use Rattle.theory.proofs.Digits.{digits_length, below_at, digits_low, digits-join, digits-made, number-below, number-first, number_same, zeros-behind}
use Rattle.theory.proofs.Fields.{bytes_bits, below-drop}
use Rattle.theory.proofs.Written.{below_take}
use Rattle.theory.proofs.Puts.{written_length}
use Rattle.theory.proofs.Bits.{bits_length}
use Rattle.bits.specs.Blend.{blended}
use Rattle.bits.proofs.Laws.{three}

-- ---- a number with some of its digits replaced

-- the lowest digits are those of the remainder
digits_remainder : (b k n : ℕ) → 0 < b → digits b k (n % b ^ k) ≡ digits b k n
digits_remainder b k n h = rw (div-add-mod' n (b ^ k)) at (sym (digits_low b k (n / b ^ k) (n % b ^ k) h))

-- a number's digits in two parts
digits-split : (b w v n : ℕ) → 0 < b → digits b (w + v) n ≡ digits b w (n / b ^ v) ++ digits b v n
digits-split b w v n h =
    rw (div-add-mod' n (b ^ v), digits_remainder b v n h) at (digits-join b w v (n / b ^ v) (n % b ^ v) h (mod-lt n (one-le-pow v b h)))

-- a text in the place of one of its length
written_for : (place : ℕ) (p m s t : List ℕ) → length p ≡ place → length t ≡ length m → written place t (p ++ (m ++ s)) ≡ p ++ (t ++ s)
unfolding written
written_for place p m s t e f =
    let past : drop (place + length t) (p ++ (m ++ s)) ≡ s = rw (← append_assoc p m s) (drop_at (p ++ m) s (place + length t) (omega (arith, length-append p m))) in
    rw (written, past, take_at p (m ++ s) place e) (append_assoc p t s)

-- the w digits that k digits follow, replaced by those of v
pub digits_replaced : (b o w k n v : ℕ) → 0 < b → v < b ^ w
    → digits b (o + (w + k)) (n / b ^ (w + k) * b ^ (w + k) + (v * b ^ k + n % b ^ k)) ≡ written o (digits b w v) (digits b (o + (w + k)) n)
digits_replaced b o w k n v h l =
    let low : n % b ^ k < b ^ k = mod-lt n (one-le-pow k b h) in
    let fits : v * b ^ k + n % b ^ k < b ^ (w + k) = rw (pow-add b w k) (digits_lt l low) in
    rw (digits-join b o (w + k) (n / b ^ (w + k)) (v * b ^ k + n % b ^ k) h fits, digits-join b w k v (n % b ^ k) h low, digits_remainder b k n h, digits-split b o (w + k) n h, digits-split b w k n h)
    (sym (written_for o (digits b o (n / b ^ (w + k))) (digits b w (n / b ^ k)) (digits b k n) (digits b w v) (digits_length b o (n / b ^ (w + k))) (digits_length b w v ∙ sym (digits_length b w (n / b ^ k)))))

-- ---- bits of bytes

-- no digits; the first digit, then the others
digits-none : (b n : ℕ) → digits b 0 n ≡ []
unfolding digits
digits-none b n = refl

digits-first : (b k n : ℕ) → digits b (suc k) n ≡ n / b ^ k % b ∷ digits b k n
unfolding digits
digits-first b k n = refl

-- n bytes of a number have its 8 * n bits
bits-digits : (n x : ℕ) → bits_of (digits 256 n x) ≡ digits 2 (8 * n) x
bits-digits zero x = rw (digits-none 256 x) (sym (digits-none 2 x))
bits-digits (suc n) x =
    let e : 8 * suc n ≡ 8 + 8 * n = omega arith in
    rw (e, digits-split 2 8 (8 * n) x (omega arith), digits-first 256 n x, bits-digits n x, bytes_bits n, digits_remainder 2 8 (x / 2 ^ (8 * n)) (omega arith))

-- of the first n bytes
bits_take : (n : ℕ) (bytes : List ℕ) → n ≤ length bytes → take (8 * n) (bits_of bytes) ≡ bits_of (take n bytes)
bits_take n bytes h =
    let whole : bits_of (take n bytes) ++ bits_of (drop n bytes) ≡ bits_of bytes = rw (take-append-drop n bytes) at (sym (in_turn-join (digits 2 8) (take n bytes) (drop n bytes))) in
    rw (← whole) (take_at (bits_of (take n bytes)) (bits_of (drop n bytes)) (8 * n) (omega (arith, bits_length (take n bytes), length-take-le n bytes h)))

-- ---- a text put into a part

-- of a longer list, before its end
written-before : (place : ℕ) (m s t : List ℕ) → place + length t ≤ length m → written place t (m ++ s) ≡ written place t m ++ s
unfolding written
written-before place m s t h =
    rw (written, take-append-le place m s (omega arith), drop-append-le (place + length t) m s h) (simp append_assoc)

-- behind its beginning
written_behind : (place : ℕ) (p m t : List ℕ) → written (length p + place) t (p ++ m) ≡ p ++ written place t m
unfolding written
written_behind place p m t =
    let e : length p + place + length t ≡ length p + (place + length t) = omega arith in
    rw (written, e, take-append-add p m place, drop-append-add p m (place + length t)) (simp append_assoc)

-- ---- bytes set

-- what is set beyond the first n changes nothing in them
take_set : (n : ℕ) (l : List ℕ) (i a : ℕ) → take n (set l i a) ≡ set (take n l) i a
take_set zero l i a = refl
take_set (suc n) [] i a = refl
take_set (suc n) (x ∷ l) zero a = refl
take_set (suc n) (x ∷ l) (suc i) a = rw (take_set n l i a)

take_sets : (n : ℕ) (l : List ℕ) (i : ℕ) (vs : List ℕ) → take n (sets l i vs) ≡ sets (take n l) i vs
take_sets n l i [] = refl
take_sets n l i (v ∷ vs) = rw (take_sets n (set l i v) (suc i) vs, take_set n l i v)

-- n bytes from byte i on, all of them there
module _ (bytes : List ℕ) (are : Below 256 bytes) (n i : ℕ) (there : i + n ≤ length bytes) where
  -- as the digits of their number, between the others
  parts : take i bytes ++ (digits 256 n (number 256 n (drop i bytes)) ++ drop (i + n) bytes) ≡ bytes
  parts =
      let these = take n (drop i bytes) in
      let inner : digits 256 n (number 256 n (drop i bytes)) ≡ these =
      rw (← number-first 256 n (drop i bytes)) (digits-made 256 n these (omega arith) (below_take 256 n (drop i bytes) (below-drop 256 i bytes are)) (length-take-le n (drop i bytes) (omega (arith, length-drop i bytes)))) in
      rw (inner, ← drop-drop n i bytes, take-append-drop n (drop i bytes)) (take-append-drop i bytes)

  bits-parts : (x : ℕ) → bits_of (take i bytes ++ (digits 256 n x ++ drop (i + n) bytes)) ≡ bits_of (take i bytes) ++ (digits 2 (8 * n) x ++ bits_of (drop (i + n) bytes))
  bits-parts x = rw (in_turn-join (digits 2 8) (take i bytes) (digits 256 n x ++ drop (i + n) bytes), in_turn-join (digits 2 8) (digits 256 n x) (drop (i + n) bytes), bits-digits n x)

  -- a text put into their bits is put into the bits of all
  bits-set : (o new : ℕ) (t : List ℕ) → o + length t ≤ 8 * n → digits 2 (8 * n) new ≡ written o t (digits 2 (8 * n) (number 256 n (drop i bytes)))
      → bits_of (sets bytes i (digits 256 n new)) ≡ written (8 * i + o) t (bits_of bytes)
  bits-set o new t h e =
      let old = digits 2 (8 * n) (number 256 n (drop i bytes)) in
      let top = bits_of (take i bytes) in
      let rest = bits_of (drop (i + n) bytes) in
      let k : length (digits 256 n new) ≡ n = digits_length 256 n new in
      let place : 8 * i ≡ length top = omega (arith, bits_length (take i bytes), length-take-le i bytes (omega arith)) in
      let before : bits_of bytes ≡ top ++ (old ++ rest) = rw parts at (bits-parts (number 256 n (drop i bytes))) in
      let after : sets bytes i (digits 256 n new) ≡ take i bytes ++ (digits 256 n new ++ drop (i + n) bytes) =
      sets-eq (digits 256 n new) bytes i (omega arith) ∙ rw k (append_assoc (take i bytes) (digits 256 n new) (drop (i + n) bytes)) in
      rw (after, bits-parts new, e, before, place, written_behind o top (old ++ rest) t, written-before o old rest t (omega (arith, digits_length 2 (8 * n) (number 256 n (drop i bytes)))))

-- the field of w bits at a place of a sheet, put by the three bytes around it, with zeros in the place of those past the end
put_three : (sheet : List ℕ) → Below 256 sheet → (place w v new : ℕ) → w ≤ 16 → place + w ≤ 8 * length sheet
    → digits 2 24 new ≡ written (place % 8) (digits 2 w v) (digits 2 24 (number 256 3 (drop (place / 8) sheet)))
    → bits_of (sets sheet (place / 8) (digits 256 3 new)) ≡ written place (digits 2 w v) (bits_of sheet)
put_three sheet bytes place w v new h inside e =
    let i : ℕ = place / 8 in
    let o : ℕ = place % 8 in
    let t = digits 2 w v in
    let k : length t ≡ w = digits_length 2 w v in
    let zeros : List ℕ = replicate 3 0 in
    let longer = sheet ++ zeros in
    let all-bytes : Below 256 longer = all_join (λ d. d < 256) sheet zeros bytes (omega arith, (omega arith, (omega arith, tt))) in
    let more : length longer ≡ length sheet + 3 = length-append sheet zeros in
    let at_place : 8 * i + o ≡ place = omega arith in
    let same : number 256 3 (drop i longer) ≡ number 256 3 (drop i sheet) =
    number_same 256 3 (drop i longer) (drop i sheet) (λ j. get_or-drop i longer j 0 ∙ zeros-behind sheet 3 (i + j) ∙ sym (get_or-drop i sheet j 0)) in
    let put : bits_of (sets longer i (digits 256 3 new)) ≡ written place t (bits_of longer) =
    rw at_place at (bits-set longer all-bytes 3 i (omega arith) o new t (omega arith) (rw same e)) in
    let bits : bits_of longer ≡ bits_of sheet ++ bits_of zeros = in_turn-join (digits 2 8) sheet zeros in
    let kept : length (written place t (bits_of sheet)) ≡ 8 * length sheet = written_length place t (bits_of sheet) (omega (arith, bits_length sheet)) ∙ bits_length sheet in
    let first : sets sheet i (digits 256 3 new) ≡ take (length sheet) (sets longer i (digits 256 3 new)) = sym (take_sets (length sheet) longer i (digits 256 3 new) ∙ rw (take-append_seam sheet zeros)) in
    rw (first, ← bits_take (length sheet) (sets longer i (digits 256 3 new)) (omega (arith, length-sets longer i (digits 256 3 new))), put, bits, written-before place (bits_of sheet) (bits_of zeros) t (omega (arith, bits_length sheet)))
    (take_at (written place t (bits_of sheet)) (bits_of zeros) (8 * length sheet) kept)

-- ---- by blending

-- a byte of a blend is a blend of the byte
blended-byte : (x y keep field : ℕ) → x % 256 ≡ y % 256 → blended x keep field % 256 ≡ blended y keep field % 256
blended-byte x y keep field e =
    or_mod (bit_and x keep) field 8 ∙ ap (λ (z : ℕ). bit_or z (field % 256)) (and_mod x keep 8 ∙ ap (λ (z : ℕ). bit_and z (keep % 256)) e ∙ sym (and_mod y keep 8)) ∙ sym (or_mod (bit_and y keep) field 8)

blended-before : (k x y keep field : ℕ) → x / 2 ^ k % 256 ≡ y % 256 → blended x keep field / 2 ^ k % 256 ≡ blended y (keep / 2 ^ k) (field / 2 ^ k) % 256
blended-before k x y keep field e = rw (or_shr (bit_and x keep) field k, and_shr x keep k) (blended-byte (x / 2 ^ k) y (keep / 2 ^ k) (field / 2 ^ k) e)

-- three bytes set one by one
sets-three : (l : List ℕ) (i x y z : ℕ) → set (set (set l i x) (i + 1) y) (i + 2) z ≡ sets l i (x ∷ y ∷ z ∷ [])
sets-three l i x y z =
    let second : i + 1 ≡ suc i = omega arith in
    let third : i + 2 ≡ suc (suc i) = omega arith in
    rw (second, third)

-- three bytes blended one by one
pub blended-three : (l : List ℕ) → Below 256 l → (i keep field : ℕ) (l₁ l₂ l₃ : List ℕ)
    → l₁ ≡ set l i (blended (get_or l i 0) (keep / 2 ^ 16) (field / 2 ^ 16) % 256)
    → l₂ ≡ set l₁ (i + 1) (blended (get_or l₁ (i + 1) 0) (keep / 2 ^ 8) (field / 2 ^ 8) % 256)
    → l₃ ≡ set l₂ (i + 2) (blended (get_or l₂ (i + 2) 0) keep field % 256)
    → l₃ ≡ sets l i (digits 256 3 (blended (number 256 3 (drop i l)) keep field))
unfolding digits
blended-three l bytes i keep field l₁ l₂ l₃ e₁ e₂ e₃ =
    let all = number 256 3 (drop i l) in
    let word : all ≡ get_or l i 0 * 65536 + get_or l (i + 1) 0 * 256 + get_or l (i + 2) 0 = three l i in
    let small : (v : ℕ) → get_or l v 0 < 256 = λ v. below_at 256 l v (omega arith) bytes in
    let p : i + 1 ≢ i = λ e. omega arith in
    let q : i + 2 ≢ i = λ e. omega arith in
    let r : i + 2 ≢ i + 1 = λ e. omega arith in
    let b : get_or l₁ (i + 1) 0 ≡ get_or l (i + 1) 0 = rw (e₁, get_or-set_other) in
    let c : get_or l₂ (i + 2) 0 ≡ get_or l (i + 2) 0 = rw (e₂, get_or-set_other, e₁, get_or-set_other) in
    let first : blended all keep field / 256 ^ 2 % 256 ≡ blended (get_or l i 0) (keep / 2 ^ 16) (field / 2 ^ 16) % 256 =
    blended-before 16 all (get_or l i 0) keep field (omega (arith, small i, small (i + 1), small (i + 2))) in
    let middle : blended all keep field / 256 ^ 1 % 256 ≡ blended (get_or l (i + 1) 0) (keep / 2 ^ 8) (field / 2 ^ 8) % 256 =
    blended-before 8 all (get_or l (i + 1) 0) keep field (omega (arith, small (i + 1), small (i + 2))) in
    let last : blended all keep field / 256 ^ 0 % 256 ≡ blended (get_or l (i + 2) 0) keep field % 256 =
    rw (div-one (blended all keep field)) (blended-byte all (get_or l (i + 2) 0) keep field (omega (arith, small (i + 2)))) in
    rw (e₃, c, e₂, b, e₁, digits, first, middle, last)
    (sets-three l i (blended (get_or l i 0) (keep / 2 ^ 16) (field / 2 ^ 16) % 256) (blended (get_or l (i + 1) 0) (keep / 2 ^ 8) (field / 2 ^ 8) % 256) (blended (get_or l (i + 2) 0) keep field % 256))

-- a word with the field of w bits, o bits from its beginning and k bits before its end, blended in
module _ (o w k all v : ℕ) (small : all < 2 ^ (o + (w + k))) (narrow : v < 2 ^ w) where
  blended-sum : blended all (2 ^ (o + (w + k)) - 2 ^ (w + k) + (2 ^ k - 1)) (v * 2 ^ k) ≡ all / 2 ^ (w + k) * 2 ^ (w + k) + (v * 2 ^ k + all % 2 ^ k)
  blended-sum =
      let s : ℕ = w + k in
      let low : all % 2 ^ k < 2 ^ k = mod-lt all (pow_pos k) in
      let power : 2 ^ k ≤ 2 ^ s = pow_mono (omega arith) in
      let kept : bit_and all ((2 ^ o - 1) * 2 ^ s + (2 ^ k - 1)) ≡ all / 2 ^ s * 2 ^ s + all % 2 ^ k =
      rw (split all s) at (and_block s (all / 2 ^ s) (2 ^ o - 1) (all % 2 ^ s) (2 ^ k - 1) (mod-lt all (pow_pos s)) (omega (arith, pow_pos k)))
      ∙ rw (and_mask (all / 2 ^ s) o, and_mask (all % 2 ^ s) k, mod-mod-pow all w k, shr_mod o s small) in
      let set : bit_or (all / 2 ^ s * 2 ^ s + all % 2 ^ k) (v * 2 ^ k) ≡ bit_or (all / 2 ^ s) 0 * 2 ^ s + bit_or (all % 2 ^ k) (v * 2 ^ k) =
      rw (zero-mul (2 ^ s), zero-add (v * 2 ^ k)) at (or_block s (all / 2 ^ s) 0 (all % 2 ^ k) (v * 2 ^ k) (omega arith) (shl_lt w k narrow)) in
      rw (high_ones o s, kept, set, or_zero_r (all / 2 ^ s), or_shifted_r v k (all % 2 ^ k) low)

  blended-digits : digits 2 (o + (w + k)) (blended all (2 ^ (o + (w + k)) - 2 ^ (w + k) + (2 ^ k - 1)) (v * 2 ^ k)) ≡ written o (digits 2 w v) (digits 2 (o + (w + k)) all)
  blended-digits = rw blended-sum (digits_replaced 2 o w k all v (omega arith) narrow)

-- the field of w bits at a place of a sheet, blended into the three bytes around it
pub put-blended : (sheet : List ℕ) → Below 256 sheet → (place w v rest : ℕ) → place % 8 + w + rest ≡ 24 → w ≤ 16 → v < 2 ^ w → place + w ≤ 8 * length sheet
    → bits_of (sets sheet (place / 8) (digits 256 3 (blended (number 256 3 (drop (place / 8) sheet)) (2 ^ 24 - 2 ^ (w + rest) + (2 ^ rest - 1)) (v * 2 ^ rest)))) ≡ written place (digits 2 w v) (bits_of sheet)
put-blended sheet bytes place w v rest e h narrow inside =
    let all = number 256 3 (drop (place / 8) sheet) in
    let parts : place % 8 + (w + rest) ≡ 24 = omega arith in
    let small : all < 2 ^ 24 = number-below 256 3 (drop (place / 8) sheet) (omega arith) (below-drop 256 (place / 8) sheet bytes) in
    put_three sheet bytes place w v (blended all (2 ^ 24 - 2 ^ (w + rest) + (2 ^ rest - 1)) (v * 2 ^ rest)) h inside
    (rw parts at (blended-digits (place % 8) w rest all v (rw parts small) narrow))
