-- Bounds of products, a product one variable further, and a list of figures one place further. Assumes nothing.
use Rattle.std.proofs.Common.{◌≡◌, ℕ, ◌+◌, ◌*◌, ◌^◌, ◌<◌, ◌≤◌, true, List, [], ◌∷◌, ◌++◌, map, length, get_or, take, set, ◌∙◌, mul_assoc, mul-le-mul, pow-suc, add-one, arith, length-take-le, take-suc}
use mathlib.Core.List.{map-append}
use native.Mathlib.Nat.{pow-le-pow_right}
use lib.ListN.{length-map}
use Rattle.model.specs.Lists.{filled}
use Rattle.model.specs.Digits.{digits}
use Rattle.model.specs.Order.{chance}
use Rattle.theory.specs.Words.{sixteens}
use Rattle.theory.proofs.Digits.{digits_length}
use Rattle.theory.proofs.Filled.{filled_more}
use Rattle.words.proofs.Loops.{figure_from, figure-step}
use Rattle.figures.specs.Weights.{ReadsWeights}

-- ---- bounds

-- one factor more
pub factors_most : (v a b : ℕ) → a ≤ 255 ^ v → b ≤ 255 → a * b ≤ 255 ^ (v + 1)
factors_most v a b h k = rw (add-one v, pow-suc 255 v) (mul-le-mul h k)

pub eight-most : (v a : ℕ) → v ≤ 8 → a ≤ 255 ^ v → a ≤ 255 ^ 8
eight-most v a l h = omega (arith, pow-le-pow_right {n = 255} (omega arith) l)

-- ---- the product of a code's weights

module _ (d : ℕ) (t : List ℕ) (code v so_far : ℕ) (few : d ≤ 8)
    (old : ReadsWeights d t code → so_far * figure_from true d t (digits 16 16 code) v ≡ chance (sixteens d t) (digits 16 16 code)) where
  -- one variable further: its weight is one of the product's factors
  pub product-next : (x b : ℕ) → v < d → (x ≡ get_or (digits 16 16 code) v 0) × (x < 16) → (get_or t (16 * v + x) 0 < 256 → b ≡ get_or t (16 * v + x) 0)
      → ReadsWeights d t code → so_far * b * figure_from true d t (digits 16 16 code) (v + 1) ≡ chance (sixteens d t) (digits 16 16 code)
  product-next x b l digit factor h =
      let weight : b ≡ get_or t (16 * v + get_or (digits 16 16 code) v 0) 0 = rw digit.0 at (factor (rw digit.0 (h v l))) in
      let step = figure-step true d t (digits 16 16 code) v l (rw (digits_length 16 16 code) (omega arith)) (rw (← digit.0) digit.1) in
      mul_assoc so_far b _ ∙ rw (weight, ← step) (old h)

-- ---- a list of figures

-- with one place more written, it is filled for one code more
pub filled_next : {A : Type 0} (give : ℕ → A) (codes : List ℕ) (buffer : List A) (i : ℕ) {list : List A} {x : A} → i < length codes → i < length buffer
    → list ≡ filled (map give (take i codes)) buffer → x ≡ give (get_or codes i 0) → set list i x ≡ filled (map give (take (i + 1) codes)) buffer
filled_next {A} give codes buffer i h k old e =
    rw (old, e, add-one i, take-suc codes i 0 h, map-append give (take i codes) (get_or codes i 0 ∷ []))
    (more (map give (take i codes)) (give (get_or codes i 0)) i (length-map (take i codes) give ∙ length-take-le i codes (omega arith)) k)
  where
    more : (xs : List A) (x : A) (i : ℕ) → length xs ≡ i → i < length buffer → set (filled xs buffer) i x ≡ filled (xs ++ (x ∷ [])) buffer
    more xs x i l k = rw (← l) (filled_more xs buffer x (rw l k))
