-- Laws of the loops that put bytes and digits from the last one back, and of the loop that counts decimal places: start, step and end of each. Assumes nothing.
use mathlib.Core.Path.{◌≡◌, refl, sym, ◌∙◌}
use mathlib.Core.List.{List, map, append_assoc}
use Prim.Native.Nat.{ℕ, suc, max, ◌+◌, ◌-◌, ◌*◌, ◌/◌, ◌%◌, ◌^◌, ◌≤◌, ◌<◌}
use native.Mathlib.Omega.{arith}
use native.Mathlib.Nat.{pow-suc, pow-le-pow_right, add-zero, sub_self, pow-zero, div-one}
use native.Mathlib.Numerals.{add-one}
use native.Mathlib.Decide.{dec_lt}
use lib.ListN.{length, take, drop, set, length-map}
use borrow.Rule.Slice.PartMut.{put_mid, Post-is}
use borrow.Author.Tests.{lt-ltb, le-ltb}
use Rattle.model.specs.Digits.{digits}
use Rattle.model.specs.Text.{digit_byte}
use Rattle.theory.specs.Digits.{Fewest}
use Rattle.theory.proofs.Digits.{digits_length}
use Rattle.theory.proofs.Decimal.{next_place}
use Rattle.theory.specs.Puts.{written, Puts}
use Rattle.theory.proofs.Puts.{written_none, written_back}

-- ---- a slice

-- a part of a buffer, given a text's items, holds the text
pub puts_copied : (place : ℕ) (text before : List ℕ) → Puts place text before (place + length text) (put_mid place (place + length text - place) before text)
unfolding written
puts_copied place text before = record {
  buffer = rw (Post-is place (place + length text) before (omega arith)) (sym (append_assoc (take place before) text (drop (place + length text) before)));
  ends = refl;
}

-- ---- digits

-- the byte of a digit, below ten and from ten on
pub digit_low : (d : ℕ) → d < 10 → 48 + d ≡ digit_byte d
digit_low d h = rw (digit_byte, lt-ltb d 10 h)

pub digit_high : (d : ℕ) → 10 ≤ d → 97 + (d - 10) ≡ digit_byte d
digit_high d h = rw (digit_byte, le-ltb d 10 h) (omega arith)

-- the digits at the places from i on are put, and what is left holds those before them
pub record DigitsFrom (place n base places : ℕ) (before : List ℕ) (i rest : ℕ) (out : List ℕ) : Type 0 where
  pub left : rest ≡ n / base ^ (places - i)
  pub put : out ≡ written (place + i) (map digit_byte (digits base (places - i) n)) before

module _ (place n base places : ℕ) (before : List ℕ) where
  pub digits-start : DigitsFrom place n base places before places n before
  unfolding digits
  digits-start = record {
    left = rw (sub_self places, pow-zero base) (sym (div-one n));
    put = rw (sub_self places) (sym (written_none (place + places) before));
  }

  pub digits_step : (i rest byte : ℕ) (out : List ℕ) → 0 < i → i ≤ places → place + places ≤ length before → byte ≡ digit_byte (rest % base) → DigitsFrom place n base places before i rest out
      → DigitsFrom place n base places before (i - 1) (rest / base) (set out (place + (i - 1)) byte)
  unfolding digits
  digits_step i rest byte out p l h e s =
      let f : places - (i - 1) ≡ suc (places - i) = omega arith in
      let text = map digit_byte (digits base (places - i) n) in
      let long : length text ≡ places - i = length-map (digits base (places - i) n) digit_byte ∙ digits_length base (places - i) n in
      record {
        left = rw (f, s.left) (next_place base (places - i) n);
        put = rw s.put (written_back place i byte text (map digit_byte (digits base (places - (i - 1)) n)) before p (omega arith) (rw (f, e, s.left)));
      }

  pub digits-end : (i rest : ℕ) (out : List ℕ) → i ≤ 0 → DigitsFrom place n base places before i rest out → out ≡ written place (map digit_byte (digits base places n)) before
  digits-end i rest out l s = let f : i ≡ 0 = omega arith in let g : places - 0 ≡ places = omega arith in rw (f, g, add-zero place) at s.put

-- ---- decimal places

-- one place more than the power of ten that a number reaches is the fewest, where zero counts as one
pub fewest-from_power : (n k : ℕ) → 10 ^ k ≤ max n 1 → max n 1 < 10 * 10 ^ k → Fewest 10 n (k + 1)
fewest-from_power n k low high = record {
  one = omega arith;
  holds = rw (add-one k, pow-suc 10 k) (omega arith);
  least = λ v o l. elim (dec_lt k v) [
    | yes g ↦ omega arith
    | no g ↦ absurd (omega (arith, pow-le-pow_right {n = 10} (omega arith) {i = v} {j = k} (omega arith), pow-le-pow_right {n = 10} (omega arith) {i = 1} {j = v} o))
  ];
}
