-- Bit operations on words of nibbles act on each nibble by itself, so that a node and a conflict are compared, and a best state is made, for all variables at once. Assumes nothing.
use mathlib.Core.Path.{◌≡◌, refl, sym, ap, ap₂, ◌∙◌}
use mathlib.Core.Bool.{Bool, true, false, not, ◌&&◌, ◌||◌}
use mathlib.Core.Option.{Option, none, some}
use mathlib.Core.List.{List, [], ◌∷◌, ◌++◌, map, map-append, map-map}
use Prim.Native.Nat.{ℕ, zero, suc, ◌+◌, ◌-◌, ◌*◌, ◌^◌, ◌≤◌, ◌<◌}
use native.Mathlib.Omega.{arith}
use native.Mathlib.Nat.{mod-eq_of_lt}
use lib.Bits.{bit_and, bit_or, bit_xor, and_lt, or_lt, xor_lt, and_zero_r, or_zero_r, xor_self, xor_comm, and_mask, and_le_l, and_le_r, or_add_and, xor_add_and}
use lib.Dec.{eqb}
use Rattle.std.proofs.lemmas.Nat.{le_or_l}
use lib.ListN.{length, replicate, length-map}
use borrow.Author.Tests.{eq-eqb, ne_eqb, eqb-true, eqb-false}
use Rattle.model.specs.Lists.{All}
use Rattle.model.specs.Digits.{number}
use Rattle.model.specs.Assignment.{Assignment, Agree, Under, bit, nibble, all_zero, code}
use Rattle.model.specs.Conflict.{contains, manifests, differs, resolves}
use Rattle.theory.specs.Digits.{Below}
use Rattle.theory.specs.Words.{Wide, fifteen, wide_of}
use Rattle.theory.proofs.Agreement.{agree_length}
use Rattle.theory.proofs.Digits.{number-below, number-zeros, digits_number, zero-from}
use Rattle.theory.proofs.Words.{nibbles_below, mask-digits}
use Rattle.theory.proofs.WordsDigits.{ByBlocks, and_blocks, or_blocks, xor_blocks, each, each_length, each_below, each_number}

-- ---- an operation on words of nibbles

-- n is the word whose first nibbles are these d
record Nibbles (d n : ℕ) (ds : List ℕ) : Type 0 where
  is : n ≡ number 16 16 ds
  below : Below 16 ds
  long : length ds ≡ d

-- an operation that goes by blocks of bits gives a word of as many nibbles
each_nibbles : (op : ℕ → ℕ → ℕ) → ByBlocks op → {d m n : ℕ} {xs ys : List ℕ} → Nibbles d m xs → Nibbles d n ys → Nibbles d (op m n) (each op xs ys)
each_nibbles op o {xs = xs} {ys = ys} p q = record {
  is = rw (p.is, q.is) (each_number op o 4 16 xs ys p.below q.below (omega (arith, p.long, q.long)));
  below = each_below op o 4 xs ys p.below q.below;
  long = each_length op xs ys (omega (arith, p.long, q.long)) ∙ p.long;
}

module _ {d m n : ℕ} {xs ys : List ℕ} (p : Nibbles d m xs) (q : Nibbles d n ys) where
  -- of the conjunction
  and_nibbles : Nibbles d (bit_and m n) (each bit_and xs ys)
  and_nibbles = each_nibbles bit_and and_blocks p q

  -- of the disjunction
  or_nibbles : Nibbles d (bit_or m n) (each bit_or xs ys)
  or_nibbles = each_nibbles bit_or or_blocks p q

  -- of the exclusive disjunction
  xor_nibbles : Nibbles d (bit_xor m n) (each bit_xor xs ys)
  xor_nibbles = each_nibbles bit_xor xor_blocks p q

-- zeros that follow do not matter
zero_more : (ds : List ℕ) (n : ℕ) → all_zero (ds ++ replicate n 0) ≡ all_zero ds
zero_more [] zero = refl
zero_more [] (suc n) = zero_more [] n
zero_more (d ∷ ds) n = ap (λ (t : Bool). eqb d 0 && t) (zero_more ds n)

-- a word is zero exactly when each of its nibbles is
nibbles_zero : {d n : ℕ} {ds : List ℕ} → Nibbles d n ds → d ≤ 16 → eqb n 0 ≡ all_zero ds
nibbles_zero {d} {n} {ds} p h =
    let small : n < 16 ^ 16 = rw p.is (number-below 16 16 ds (omega arith) p.below) in
    ap (λ (m : ℕ). eqb m 0) (sym (mod-eq_of_lt small))
    ∙ sym (zero-from 16 16 0 n (omega arith) (omega arith))
    ∙ rw (p.is, digits_number 16 16 ds (omega arith) p.below (omega (arith, p.long))) (zero_more ds (16 - length ds))

-- ---- the widened mask

-- fifteen for an assigned variable, zero for an unassigned one
abbrev spread : Option ℕ → ℕ
spread o = fifteen (bit o)

-- zeros after the digits of a number do not matter
number_more : (b k : ℕ) (ds : List ℕ) (n : ℕ) → number b k (ds ++ replicate n 0) ≡ number b k ds
unfolding number
number_more b zero ds n = refl
number_more b (suc k) [] n = number-zeros b (suc k) n
number_more b (suc k) (d ∷ ds) n = ap (λ (r : ℕ). d * b ^ k + r) (number_more b k ds n)

-- fifteen times zero is zero, at each place
fifteen-zeros : (n : ℕ) → map fifteen (replicate n 0) ≡ replicate n 0
fifteen-zeros zero = refl
fifteen-zeros (suc n) = ap {B = List ℕ} (λ r. 0 ∷ r) (fifteen-zeros n)

-- they are digits of base 16
spreads_below : (a : Assignment) → Below 16 (map spread a)
spreads_below [] = tt
spreads_below (none ∷ a) = (omega arith, spreads_below a)
spreads_below (some x ∷ a) = (omega arith, spreads_below a)

module _ (a : Assignment) (wide values : ℕ) (w : Wide a wide values) where
  -- the nibbles of the values
  values_nibbles : Nibbles (length a) values (map nibble a)
  values_nibbles = record { is = w.words.values-is; below = nibbles_below a w.words.small; long = length-map a nibble }

  -- the nibbles of the widened mask
  wide_nibbles : Nibbles (length a) wide (map spread a)
  unfolding wide_of
  wide_nibbles = record {
    is = rw (
      w.wide_is,
      w.words.mask_is,
      mask-digits a (omega (arith, w.words.short)),
      map-append fifteen (map bit a) (replicate (64 - length a) 0),
      fifteen-zeros (64 - length a),
      map-map fifteen bit a,
    ) (number_more 16 16 (map spread a) (64 - length a));
    below = spreads_below a;
    long = length-map a spread;
  }

-- ---- one variable

-- two numbers are equal exactly when no bit differs
xor_zero : (x y : ℕ) → eqb (bit_xor x y) 0 ≡ eqb x y
xor_zero x y = go (eqb x y) refl
  where
    go : (t : Bool) → eqb x y ≡ t → eqb (bit_xor x y) 0 ≡ eqb x y
    go true e = rw (eqb-true x y e, xor_self y) (sym (eq-eqb y y refl))
    go false e = ne_eqb (bit_xor x y) 0 (λ z. eqb-false x y e (omega (arith, xor_add_and x y, and_le_l x y, and_le_r x y))) ∙ sym e

-- a nibble masked by fifteen is itself
whole : (z : ℕ) → z < 16 → bit_and z 15 ≡ z
whole z h = and_mask z 4 ∙ mod-eq_of_lt h

-- two values masked by fifteen are equal exactly when no bit differs
masked-zero : (x y : ℕ) → x < 16 → y < 16 → eqb (bit_and (bit_xor x y) 15) 0 ≡ eqb x y
masked-zero x y h k = rw (whole (bit_xor x y) (xor_lt 4 x y h k)) (xor_zero x y)

-- a nibble that is zero exactly where the variable contains the conflict's
contains-nibble : (o p : Option ℕ) → Under 16 o → Under 16 p
    → eqb (bit_or (bit_xor (bit_and (spread o) (spread p)) (spread p)) (bit_and (bit_xor (nibble o) (nibble p)) (spread p))) 0 ≡ contains o p
contains-nibble o none u t = rw (and_zero_r (spread o), and_zero_r (bit_xor (nibble o) 0))
contains-nibble none (some y) u t = ne_eqb (bit_or 15 (bit_and (bit_xor 0 y) 15)) 0 (λ e. omega (arith, le_or_l 15 (bit_and (bit_xor 0 y) 15)))
contains-nibble (some x) (some y) u t = masked-zero x y u t

-- the same from whether the two are the same, value and mask
apart-nibble : (o p : Option ℕ) → Under 16 o → Under 16 p
    → eqb (bit_and (bit_or (bit_xor (nibble o) (nibble p)) (bit_xor (spread o) (spread p))) (spread p)) 0 ≡ contains o p
apart-nibble o none u t = rw (and_zero_r (bit_or (bit_xor (nibble o) 0) (bit_xor (spread o) 0)))
apart-nibble none (some y) u t = rw (whole (bit_or y 15) (or_lt 4 y 15 t (omega arith))) (ne_eqb (bit_or y 15) 0 (λ e. omega (arith, or_add_and y 15, and_le_l y 15)))
apart-nibble (some x) (some y) u t = rw (or_zero_r (bit_xor x y)) (masked-zero x y u t)

-- a nibble that is other than zero exactly where the variable differs from the conflict's
differs-nibble : (o p : Option ℕ) → Under 16 o → Under 16 p → not (eqb (bit_and (bit_and (bit_xor (nibble o) (nibble p)) (spread o)) (spread p)) 0) ≡ differs o p
differs-nibble none p u t = rw (and_zero_r (bit_xor 0 (nibble p)))
differs-nibble (some x) none u t = rw (and_zero_r (bit_and (bit_xor x 0) 15))
differs-nibble (some x) (some y) u t = rw (whole (bit_and (bit_xor x y) 15) (and_lt 4 (bit_xor x y) 15 (xor_lt 4 x y u t) (omega arith)), masked-zero x y u t)

-- ---- all variables

-- a negated conjunction
not_and : (s t : Bool) → not (s && t) ≡ (not s || not t)
not_and true t = refl
not_and false t = refl

module _ (n c : Assignment) where
  -- the nibbles that are zero where a node contains a conflict
  abbrev missing : List ℕ
  missing = each bit_or (each bit_xor (each bit_and (map spread n) (map spread c)) (map spread c)) (each bit_and (each bit_xor (map nibble n) (map nibble c)) (map spread c))

  -- the same from where the two are not the same, values and masks
  abbrev apart : List ℕ
  apart = each bit_and (each bit_or (each bit_xor (map nibble n) (map nibble c)) (each bit_xor (map spread n) (map spread c))) (map spread c)

  -- the nibbles that are other than zero where a node resolves a conflict
  abbrev differing : List ℕ
  differing = each bit_and (each bit_and (each bit_xor (map nibble n) (map nibble c)) (map spread n)) (map spread c)

-- nothing is missing exactly when the node manifests the conflict
missing-all : (n c : Assignment) → length n ≡ length c → All (Under 16) n → All (Under 16) c → all_zero (missing n c) ≡ manifests n c
missing-all [] [] e s t = refl
missing-all [] (p ∷ c) e s t = absurd (omega arith)
missing-all (o ∷ n) [] e s t = absurd (omega arith)
missing-all (o ∷ n) (p ∷ c) e s t = ap₂ ◌&&◌ (contains-nibble o p s.0 t.0) (missing-all n c (omega arith) s.1 t.1)

-- the two are the same where the conflict is assigned exactly when the node manifests it
apart-all : (n c : Assignment) → length n ≡ length c → All (Under 16) n → All (Under 16) c → all_zero (apart n c) ≡ manifests n c
apart-all [] [] e s t = refl
apart-all [] (p ∷ c) e s t = absurd (omega arith)
apart-all (o ∷ n) [] e s t = absurd (omega arith)
apart-all (o ∷ n) (p ∷ c) e s t = ap₂ ◌&&◌ (apart-nibble o p s.0 t.0) (apart-all n c (omega arith) s.1 t.1)

-- something differs exactly when the node resolves the conflict
differing-all : (n c : Assignment) → length n ≡ length c → All (Under 16) n → All (Under 16) c → not (all_zero (differing n c)) ≡ resolves n c
differing-all [] [] e s t = refl
differing-all [] (p ∷ c) e s t = absurd (omega arith)
differing-all (o ∷ n) [] e s t = absurd (omega arith)
differing-all (o ∷ n) (p ∷ c) e s t =
    not_and (eqb (bit_and (bit_and (bit_xor (nibble o) (nibble p)) (spread o)) (spread p)) 0) (all_zero (differing n c))
    ∙ ap₂ ◌||◌ (differs-nibble o p s.0 t.0) (differing-all n c (omega arith) s.1 t.1)

-- ---- the words

module _ (n c : Assignment) (wn vn wc vc : ℕ) (p : Wide n wn vn) (q : Wide c wc vc) (e : length n ≡ length c) where
  -- the nibbles of the conflict's widened mask
  conflict-wide : Nibbles (length n) wc (map spread c)
  conflict-wide = rw (← e) at (wide_nibbles c wc vc q)

  -- the nibbles in which the values differ
  difference : Nibbles (length n) (bit_xor vn vc) (each bit_xor (map nibble n) (map nibble c))
  difference = xor_nibbles (values_nibbles n wn vn p) (rw (← e) at (values_nibbles c wc vc q))

  -- a word that is zero exactly where the node manifests the conflict
  pub manifests-word : eqb (bit_or (bit_xor (bit_and wn wc) wc) (bit_and (bit_xor vn vc) wc)) 0 ≡ manifests n c
  manifests-word =
      nibbles_zero (or_nibbles (xor_nibbles (and_nibbles (wide_nibbles n wn vn p) conflict-wide) conflict-wide) (and_nibbles difference conflict-wide)) p.words.short
      ∙ missing-all n c e p.words.small q.words.small

  -- the same from where the two are not the same
  apart-word : eqb (bit_and (bit_or (bit_xor vn vc) (bit_xor wn wc)) wc) 0 ≡ manifests n c
  apart-word =
      nibbles_zero (and_nibbles (or_nibbles difference (xor_nibbles (wide_nibbles n wn vn p) conflict-wide)) conflict-wide) p.words.short
      ∙ apart-all n c e p.words.small q.words.small

  -- a word that is zero exactly where the node does not resolve the conflict
  pub resolves-word : not (eqb (bit_and (bit_and (bit_xor vn vc) wn) wc) 0) ≡ resolves n c
  resolves-word =
      ap not (nibbles_zero (and_nibbles (and_nibbles difference (wide_nibbles n wn vn p)) conflict-wide) p.words.short)
      ∙ differing-all n c e p.words.small q.words.small

-- from where two assignments are not the same: whether one of them contains the other
pub related-word : (n c : Assignment) (wn vn wc vc : ℕ) → Wide n wn vn → Wide c wc vc → length n ≡ length c
    → (eqb (bit_and (bit_or (bit_xor vn vc) (bit_xor wn wc)) wc) 0 || eqb (bit_and (bit_or (bit_xor vn vc) (bit_xor wn wc)) wn) 0) ≡ (manifests n c || manifests c n)
related-word n c wn vn wc vc p q e = ap₂ ◌||◌ (apart-word n c wn vn wc vc p q e) (rw (xor_comm vn vc, xor_comm wn wc) (apart-word c n wc vc wn vn q p (sym e)))

-- values that extend an assignment, at the nibbles of the widened mask, are its values
each-masked : (f : List ℕ) (a : Assignment) → Agree f a → Below 16 f → each bit_and f (map spread a) ≡ map nibble a
each-masked [] [] h l = refl
each-masked [] (o ∷ a) h l = absurd h
each-masked (x ∷ f) [] h l = absurd h
each-masked (x ∷ f) (none ∷ a) h l = ap₂ {C = List ℕ} ◌∷◌ (and_zero_r x) (each-masked f a h.1 l.1)
each-masked (x ∷ f) (some y ∷ a) h l = ap₂ {C = List ℕ} ◌∷◌ (and_mask x 4 ∙ mod-eq_of_lt l.0 ∙ h.0) (each-masked f a h.1 l.1)

pub masked-word : (f : List ℕ) (a : Assignment) (wide values : ℕ) → Wide a wide values → Agree f a → Below 16 f → bit_and (code f) wide ≡ values
masked-word f a wide values w h l =
    let p : Nibbles (length a) (code f) f = record { is = refl; below = l; long = agree_length f a h } in
    (and_nibbles p (wide_nibbles a wide values w)).is ∙ ap (number 16 16) (each-masked f a h l) ∙ sym w.words.values-is
