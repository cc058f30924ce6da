-- One reading after another, and a rule between them. Assumes nothing.
use mathlib.Core.Path.{◌≡◌, ap, ◌∙◌}
use mathlib.Core.Bool.{Bool, true, false}
use Prim.Native.Nat.{ℕ}
use Rattle.model.specs.Sheet.{Read, refused, got, then}

-- a reading gave something, or refused; a rule held, or failed
module _ {A B : Type 0} where
  pub on : {r : Read A} {a : A} {place : ℕ} {z : Read B} (next : A → ℕ → Read B) → r ≡ got a place → next a place ≡ z → then r next ≡ z
  unfolding then
  on next h e = ap (λ r. then r next) h ∙ e

  pub halt : {r : Read A} {k : ℕ} (next : A → ℕ → Read B) → r ≡ refused k → then r next ≡ refused k
  unfolding then
  halt next h = ap (λ r. then r next) h

module _ {A : Type 0} where
  pub pass : {t : Bool} (k : ℕ) (next : Read A) {z : Read A} → t ≡ true → next ≡ z → (elim t [ false ↦ refused k | true ↦ next ]) ≡ z
  pass k next h e = rw h e

  pub fail : {t : Bool} (k : ℕ) (next : Read A) → t ≡ false → ◌≡◌ {A = Read A} (elim t [ false ↦ refused k | true ↦ next ]) (refused k)
  fail k next h = rw h
