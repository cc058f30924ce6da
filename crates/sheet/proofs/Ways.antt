-- Each way through the reading of the end: what the reading is, by what the filler is and where it ends. Assumes nothing.
use mathlib.Core.Path.{◌≡◌, refl, ap, ◌∙◌}
use mathlib.Core.List.{List}
use Prim.Native.Nat.{ℕ, zero, suc, ◌+◌, ◌-◌, ◌*◌, ◌%◌, ◌^◌}
use native.Mathlib.Nat.{add-zero, zero-mul, suc-mul}
use lib.Pow.{pow_pos}
use native.Mathlib.Omega.{arith}
use lib.ListN.{length}
use borrow.Author.Tests.{eq-eqb, ne_eqb}
use Rattle.model.specs.Sheet.{refused, got, read_filler, read_end, Plant, bit_at, bits_at}
use Rattle.model.specs.Digits.{number}
use Rattle.readings.proofs.Ways.{on, halt, pass, fail}

-- the filler is zero exactly where it is zero as a number
module _ (sheet : List ℕ) where
  filler-zero : (n place : ℕ) → number 2 n (bits_at sheet n place) ≡ 0 → read_filler sheet n place ≡ got 0 (place + n)
  unfolding read_filler number bits_at
  filler-zero zero place h = rw (add-zero place)
  filler-zero (suc n) place h = go (bit_at sheet place) refl h (filler-zero n (place + 1))
    where
      go : (b : ℕ) → bit_at sheet place ≡ b → b * 2 ^ n + number 2 n (bits_at sheet n (place + 1)) ≡ 0
          → (number 2 n (bits_at sheet n (place + 1)) ≡ 0 → read_filler sheet n (place + 1) ≡ got 0 (place + 1 + n))
          → read_filler sheet (suc n) place ≡ got 0 (place + suc n)
      go zero e f rest = let g : place + 1 + n ≡ place + suc n = omega arith in pass 12 _ (eq-eqb (bit_at sheet place) 0 e) (rest (omega (arith, zero-mul (2 ^ n))) ∙ ap (got 0) g)
      go (suc b) e f rest = absurd (omega (arith, suc-mul b (2 ^ n), pow_pos n))

  filler-other : (n place : ℕ) → (number 2 n (bits_at sheet n place) ≡ 0 → ⊥) → read_filler sheet n place ≡ refused 12
  unfolding read_filler number bits_at
  filler-other zero place h = absurd (h refl)
  filler-other (suc n) place h = go (bit_at sheet place) refl h (filler-other n (place + 1))
    where
      go : (b : ℕ) → bit_at sheet place ≡ b → (bit_at sheet place * 2 ^ n + number 2 n (bits_at sheet n (place + 1)) ≡ 0 → ⊥)
          → ((number 2 n (bits_at sheet n (place + 1)) ≡ 0 → ⊥) → read_filler sheet n (place + 1) ≡ refused 12)
          → read_filler sheet (suc n) place ≡ refused 12
      go zero e f rest = pass 12 _ (eq-eqb (bit_at sheet place) 0 e) (rest (λ g. f (rw (e, g, zero-mul (2 ^ n)))))
      go (suc b) e f rest = fail 12 _ (ne_eqb (bit_at sheet place) 0 (λ g. omega arith))

  -- the end of the sheet, after n filler bits
  module _ (p : Plant) (place : ℕ) where
    pub end-filled : (number 2 ((8 - place % 8) % 8) (bits_at sheet ((8 - place % 8) % 8) place) ≡ 0 → ⊥) → read_end sheet p place ≡ refused 12
    unfolding read_end
    end-filled h = halt _ (filler-other _ place h)

    module _ (zeros : number 2 ((8 - place % 8) % 8) (bits_at sheet ((8 - place % 8) % 8) place) ≡ 0) where
      pub end_early : (place + (8 - place % 8) % 8 ≡ 8 * length sheet → ⊥) → read_end sheet p place ≡ refused 13
      unfolding read_end
      end_early h = on _ (filler-zero _ place zeros) (fail 13 _ (ne_eqb _ _ h))

      pub end-there : place + (8 - place % 8) % 8 ≡ 8 * length sheet → read_end sheet p place ≡ got p (8 * length sheet)
      unfolding read_end
      end-there h = on _ (filler-zero _ place zeros) (pass 13 _ (eq-eqb _ _ h) (ap (got p) h))
