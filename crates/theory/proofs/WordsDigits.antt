-- Bit operations on numbers act on each of their digits by itself, in a base that is a power of two. Assumes nothing.
use mathlib.Core.Path.{◌≡◌, refl, sym, ap, ap₂, ◌∙◌}
use mathlib.Core.List.{List, [], ◌∷◌, map}
use Prim.Native.Nat.{ℕ, zero, suc, ◌+◌, ◌*◌, ◌^◌, ◌<◌}
use native.Mathlib.Omega.{arith}
use native.Mathlib.Nat.{pow-zero, pow-suc, mul-zero, mul-suc}
use lib.Bits.{bit_and, bit_or, bit_xor, and_block, or_block, xor_block, and_lt, or_lt, xor_lt}
use lib.ListN.{length, length-map}
use lib.Pow.{pow_pos, pow-add}
use Rattle.model.specs.Digits.{number}
use Rattle.theory.specs.Digits.{Below}
use Rattle.theory.proofs.Lists.{all_map, all_image}
use Rattle.theory.proofs.Digits.{number-below}

-- a power of a power of two
pub pow_pow : (w k : ℕ) → (2 ^ w) ^ k ≡ 2 ^ (w * k)
pow_pow w zero = rw (pow-zero (2 ^ w), mul-zero w)
pow_pow w (suc k) = rw (pow-suc (2 ^ w) k, pow_pow w k, mul-suc w k, pow-add 2 (w * k) w)

-- an operation that keeps within k bits and goes by blocks of k bits
pub record ByBlocks (op : ℕ → ℕ → ℕ) : Type 0 where
  pub zeros : op 0 0 ≡ 0
  pub low : (k x y : ℕ) → x < 2 ^ k → y < 2 ^ k → op x y < 2 ^ k
  pub block : (k a b r s : ℕ) → r < 2 ^ k → s < 2 ^ k → op (a * 2 ^ k + r) (b * 2 ^ k + s) ≡ op a b * 2 ^ k + op r s

-- the conjunction does
pub and_blocks : ByBlocks bit_and
and_blocks = record { zeros = refl; low = and_lt; block = and_block }

-- so does the disjunction
pub or_blocks : ByBlocks bit_or
or_blocks = record { zeros = refl; low = or_lt; block = or_block }

-- and the exclusive one
pub xor_blocks : ByBlocks bit_xor
xor_blocks = record { zeros = refl; low = xor_lt; block = xor_block }

module _ (op : ℕ → ℕ → ℕ) where
  -- an operation on the elements of two lists in turn
  abbrev pub each : List ℕ → List ℕ → List ℕ
  each [] ys = []
  each (x ∷ xs) [] = []
  each (x ∷ xs) (y ∷ ys) = op x y ∷ each xs ys

  -- of equally many it gives as many
  pub each_length : (xs ys : List ℕ) → length xs ≡ length ys → length (each xs ys) ≡ length xs
  each_length [] ys e = refl
  each_length (x ∷ xs) [] e = absurd (omega arith)
  each_length (x ∷ xs) (y ∷ ys) e = ap suc (each_length xs ys (omega arith))

  module _ (o : ByBlocks op) (w : ℕ) where
    -- of digits of base 2 ^ w it makes digits of that base
    pub each_below : (xs ys : List ℕ) → Below (2 ^ w) xs → Below (2 ^ w) ys → Below (2 ^ w) (each xs ys)
    each_below [] ys l m = tt
    each_below (x ∷ xs) [] l m = tt
    each_below (x ∷ xs) (y ∷ ys) l m = (o.low w x y l.0 m.0, each_below xs ys l.1 m.1)

    -- on two numbers it acts on each digit by itself
    pub each_number : (k : ℕ) (xs ys : List ℕ) → Below (2 ^ w) xs → Below (2 ^ w) ys → length xs ≡ length ys
        → op (number (2 ^ w) k xs) (number (2 ^ w) k ys) ≡ number (2 ^ w) k (each xs ys)
    unfolding number
    each_number zero xs ys l m e = o.zeros
    each_number (suc k) [] [] l m e = o.zeros
    each_number (suc k) [] (y ∷ ys) l m e = absurd (omega arith)
    each_number (suc k) (x ∷ xs) [] l m e = absurd (omega arith)
    each_number (suc k) (x ∷ xs) (y ∷ ys) l m e =
        rw (← each_number k xs ys l.1 m.1 (omega arith), pow_pow w k)
        (o.block (w * k) x y (number (2 ^ w) k xs) (number (2 ^ w) k ys) (rw (← pow_pow w k) (number-below (2 ^ w) k xs (pow_pos w) l.1)) (rw (← pow_pow w k) (number-below (2 ^ w) k ys (pow_pos w) m.1)))

    module _ (b : ℕ) (f g r : ℕ → ℕ) (h : (y : ℕ) → y < b → (f y < 2 ^ w) × (g y < 2 ^ w) × (op (f y) (g y) ≡ r y)) where
      -- on digits made of the same numbers below b
      each-made : (ys : List ℕ) → Below b ys → each (map f ys) (map g ys) ≡ map r ys
      each-made [] l = refl
      each-made (y ∷ ys) l = ap₂ (λ (x : ℕ) (xs : List ℕ). x ∷ xs) (h y l.0).2 (each-made ys l.1)

      -- and so on two numbers of such digits
      pub each-mapped : (k : ℕ) (ys : List ℕ) → Below b ys → op (number (2 ^ w) k (map f ys)) (number (2 ^ w) k (map g ys)) ≡ number (2 ^ w) k (map r ys)
      each-mapped k ys l =
          let p : Below (2 ^ w) (map f ys) = all_image f (λ d. d < 2 ^ w) ys (all_map (λ y m. (h y m).0) ys l) in
          let q : Below (2 ^ w) (map g ys) = all_image g (λ d. d < 2 ^ w) ys (all_map (λ y m. (h y m).1) ys l) in
          each_number k (map f ys) (map g ys) p q (length-map ys f ∙ sym (length-map ys g)) ∙ ap (number (2 ^ w) k) (each-made ys l)
