-- Sets of two words, of at most 128 clauses. Assumes nothing.
use mathlib.Core.Path.{◌≡◌, refl, sym, ◌∙◌}
use mathlib.Core.Bool.{Bool, true, false, ◌&&◌, true≢false}
use mathlib.Core.List.{List, [], ◌∷◌}
use Prim.Native.Nat.{ℕ, ◌+◌, ◌-◌, ◌/◌, ◌%◌, ◌^◌, ◌<◌, ◌≤◌}
use native.Mathlib.Omega.{arith}
use native.Mathlib.Decide.{dec_lt}
use borrow.Author.Tests.{eqb-true, eq-eqb}
use lib.Bits.{bit_and}
use lib.Dec.{eqb}
use lib.ListN.{get_or, get_or-eq_default}
use Rattle.theory.proofs.Lists.{and_both}
use Rattle.clauses.specs.Sets.{bit, in_words, in_pair, Within}
use Rattle.clauses.proofs.Bits.{bit-zero, within_and, bit-low, low_and, low-least, low-most}

-- ---- the bit of a clause

-- in the first and in the second word of a set
pub in_low : (words : List ℕ) (from c : ℕ) → c < 64 → in_words words from c ≡ bit (get_or words from 0) c
in_low words from c h =
    let d : from + c / 64 ≡ from = omega arith in
    let m : c % 64 ≡ c = omega arith in
    rw (d, m)

pub in_high : (words : List ℕ) (from next c : ℕ) → next ≡ from + 1 → 64 ≤ c → c < 128 → in_words words from c ≡ bit (get_or words next 0) (c - 64)
in_high words from next c e l h =
    let d : from + c / 64 ≡ next = omega arith in
    let m : c % 64 ≡ c - 64 = omega arith in
    rw (d, m)

module _ (first second c : ℕ) where
  -- of the set of two words: a bit of the first, a bit of the second, or none
  pub pair-first : c < 64 → in_pair first second c ≡ bit first c
  unfolding in_pair
  pair-first h = in_low (first ∷ second ∷ []) 0 c h

  pub pair-second : 64 ≤ c → c < 128 → in_pair first second c ≡ bit second (c - 64)
  unfolding in_pair
  pair-second l h = in_high (first ∷ second ∷ []) 0 1 c refl l h

  pub pair-past : 128 ≤ c → in_pair first second c ≡ false
  unfolding in_pair
  pair-past h = rw (get_or-eq_default (first ∷ second ∷ []) 0 {n = 0 + c / 64} (omega arith)) (bit-zero (c % 64))

-- ---- whether each of the first n is there

-- by the bits below n of one word
pub low-within : (n w : ℕ) → Within n (λ _. true) (bit w) (eqb (bit_and (2 ^ n - 1) w) (2 ^ n - 1))
low-within n w = record {
  all = λ e k h i. within_and (2 ^ n - 1) w k (eqb-true (bit_and (2 ^ n - 1) w) (2 ^ n - 1) e) (bit-low n k h);
  only = λ f. eq-eqb (bit_and (2 ^ n - 1) w) (2 ^ n - 1) (low_and n w (λ k h. f k h refl));
}

-- by the whole word
pub full-within : (n w : ℕ) → 64 ≤ n → w < 2 ^ 64 → Within n (λ _. true) (bit w) (eqb n 64 && eqb w 18446744073709551615)
full-within n w m b = record {
  all = λ e k h i.
      let t = and_both (eqb n 64) (eqb w 18446744073709551615) e in
      let s : n ≡ 64 = eqb-true n 64 t.0 in
      rw (eqb-true w 18446744073709551615 t.1) (bit-low 64 k (omega arith));
  only = λ f.
      let s : n ≡ 64 = omega (arith, low-most n w b (λ k h. f k h refl)) in
      rw (eq-eqb n 64 s) (eq-eqb w 18446744073709551615 (omega (arith, low-least 64 w (λ k h. f k (omega arith) refl))));
}

module _ (first second n : ℕ) where
  -- by the first word of a set
  pub within_first : (r : Bool) → n ≤ 64 → Within n (λ _. true) (bit first) r → Within n (λ _. true) (in_pair first second) r
  within_first r m w = record {
    all = λ e c h i. pair-first first second c (omega arith) ∙ w.all e c h i;
    only = λ f. w.only (λ c h i. sym (pair-first first second c (omega arith)) ∙ f c h i);
  }

  -- by both
  pub within_both : (p q : Bool) → 64 < n → second < 2 ^ 64 → Within 64 (λ _. true) (bit first) p → Within (n - 64) (λ _. true) (bit second) q
      → Within n (λ _. true) (in_pair first second) (p && q)
  within_both p q m b v w = record {
    all = λ e c h i. let t = and_both p q e in elim (dec_lt c 64) [
      | yes l ↦ pair-first first second c l ∙ v.all t.0 c l i
      | no l ↦
          let s = low-most (n - 64) second b (λ k d. w.all t.1 k d refl) in
          pair-second first second c (omega arith) (omega arith) ∙ w.all t.1 (c - 64) (omega arith) i
    ];
    only = λ f. rw (
      v.only (λ c h i. sym (pair-first first second c h) ∙ f c (omega arith) i),
      w.only (λ c h i. elim (dec_lt c 64) [
        | yes l ↦ let e : c + 64 - 64 ≡ c = omega arith in rw e at (sym (pair-second first second (c + 64) (omega arith) (omega arith)) ∙ f (c + 64) (omega arith) i)
        | no l ↦ absurd (true≢false (sym (f (c + 64) (omega arith) i) ∙ pair-past first second (c + 64) (omega arith)))
      ]),
    );
  }
