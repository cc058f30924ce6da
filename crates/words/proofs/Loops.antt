-- The definitions one variable further, and at their end: what the functions' proofs cite. Assumes nothing.
use mathlib.Core.Path.{◌≡◌, refl, sym, ap, ◌∙◌}
use mathlib.Core.Bool.{Bool, ◌&&◌, and_assoc}
use mathlib.Core.Option.{some}
use mathlib.Core.List.{List}
use Prim.Native.Nat.{ℕ, zero, suc, ◌+◌, ◌-◌, ◌*◌, ◌%◌, ◌^◌, ◌≤◌, ◌<◌}
use native.Mathlib.Omega.{arith}
use native.Mathlib.Numerals.{add-one}
use lib.Dec.{eqb}
use lib.ListN.{length, get_or, take, drop, drop_of_length-le}
use lib.Seq.{drop-cons, drop-drop, get_or-take, get_or-drop, length-take-le}
use Rattle.std.specs.List.{list_all, range_with_len}
use Rattle.model.specs.Digits.{digits}
use Rattle.model.specs.Assignment.{optional, is_some, all_zero, nibble_fits, nibbles_fit, mask_fits}
use Rattle.model.specs.Order.{join, figure_of}
use Rattle.theory.specs.Words.{sixteens}
use Rattle.theory.proofs.Digits.{digits_length}
use Rattle.theory.proofs.WordsSet.{mask_beyond}

-- ---- one variable

-- a bit is set exactly where the variable has a value
pub bit_some : (b x : ℕ) → b < 2 → eqb b 1 ≡ is_some (optional b x)
bit_some zero x h = refl
bit_some (suc zero) x h = refl
bit_some (suc (suc b)) x h = absurd (omega arith)

-- where the bit is not zero the nibble is the value
pub optional_some : (b x : ℕ) → (b ≡ 0 → ⊥) → optional b x ≡ some x
optional_some zero x h = absurd (h refl)
optional_some (suc b) x h = refl

-- ---- well formed

-- no bit is set beyond the variables exactly where the mask shifted past them is zero
pub mask-shift : (domains : List ℕ) (mask d : ℕ) → d ≤ 16 → length domains ≡ d → eqb (mask * 2 ^ d % 2 ^ 64) 0 ≡ mask_fits domains mask
unfolding mask_fits
mask-shift domains mask d short e = rw e (mask_beyond mask d (omega arith))

-- the test of variable v
abbrev pub fits_at : List ℕ → ℕ → ℕ → ℕ → Bool
fits_at sizes mask values v = nibble_fits (get_or sizes v 0) (get_or (digits 2 64 mask) v 0) (get_or (digits 16 16 values) v 0)

-- the test of the variables from v on
abbrev pub fit_from : List ℕ → ℕ → ℕ → ℕ → ℕ → Bool
fit_from sizes d mask values v = nibbles_fit (drop v (take d sizes)) (drop v (digits 2 64 mask)) (drop v (digits 16 16 values))

module _ (sizes : List ℕ) (d mask values : ℕ) (short : d ≤ 16) (long : d ≤ length sizes) where
  -- the variable's nibble is right, and so are those after it
  pub fit-step : (v : ℕ) → v < d → fit_from sizes d mask values v ≡ (fits_at sizes mask values v && fit_from sizes d mask values (v + 1))
  fit-step v h = rw (
    add-one,
    drop-cons (take d sizes) v 0 (rw (length-take-le d sizes long) h),
    drop-cons (digits 2 64 mask) v 0 (rw (digits_length 2 64 mask) (omega arith)),
    drop-cons (digits 16 16 values) v 0 (rw (digits_length 16 16 values) (omega arith)),
    get_or-take d sizes v 0 h,
  )

  -- after the last variable the nibbles left are tested
  pub fit-end : (v : ℕ) → v ≡ d → fit_from sizes d mask values v ≡ all_zero (drop d (digits 16 16 values))
  fit-end v e = rw (e, drop_of_length-le (take d sizes) {i = d} (rw (length-take-le d sizes long) (omega arith)))

  -- the tests of n variables from v on, and of the nibbles left
  pub fit-all : (n v : ℕ) → v + n ≡ d → fit_from sizes d mask values v ≡ (list_all (fits_at sizes mask values) (range_with_len v n) && all_zero (drop d (digits 16 16 values)))
  fit-all zero v e = fit-end v (omega arith)
  fit-all (suc n) v e = fit-step v (omega arith) ∙ ap (λ b. fits_at sizes mask values v && b) (fit-all n (v + 1) (omega arith)) ∙ sym (and_assoc (fits_at sizes mask values v) _ _)

-- ---- figures

-- the figure of the variables from v on
abbrev pub figure_from : Bool → ℕ → List ℕ → List ℕ → ℕ → ℕ
figure_from w d t f v = figure_of w (sixteens (d - v) (drop (16 * v) t)) (drop v f)

-- the figure of variable v, and of those after it
pub figure-step : (w : Bool) (d : ℕ) (t f : List ℕ) (v : ℕ) → v < d → v < length f → get_or f v 0 < 16
    → figure_from w d t f v ≡ join w (get_or t (16 * v + get_or f v 0) 0) (figure_from w d t f (v + 1))
figure-step w d t f v h k l =
    let e : d - v ≡ suc (d - (v + 1)) = omega arith in
    let g : 16 * v + 16 ≡ 16 * (v + 1) = omega arith in
    let s : drop (suc v) f ≡ drop (v + 1) f = rw (add-one v) in
    rw (e, drop-cons f v 0 k, s, get_or-take 16 (drop (16 * v) t) (get_or f v 0) 0 l, get_or-drop (16 * v) t (get_or f v 0) 0, drop-drop 16 (16 * v) t, g)
