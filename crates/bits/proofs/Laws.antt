-- A field from the three bytes around its place. Assumes nothing.
use mathlib.Core.Path.{◌≡◌, sym, ◌∙◌}
use mathlib.Core.List.{List}
use Prim.Native.Nat.{ℕ, ◌+◌, ◌-◌, ◌*◌, ◌/◌, ◌%◌, ◌^◌, ◌≤◌, ◌<◌}
use native.Mathlib.Omega.{arith}
use native.Mathlib.Nat.{one-mul, mod-eq_of_lt}
use lib.Pow.{pow-lt}
use lib.Bits.{bit_and, and_mask}
use lib.ListN.{get_or, drop}
use Rattle.model.specs.Digits.{number}
use Rattle.model.specs.Sheet.{bits_at}
use Rattle.theory.specs.Digits.{Below}
use Rattle.theory.proofs.Fields.{word-step, field-word}

-- 1 shifted by w in a u32
pub one_shifted : (w : ℕ) → w < 32 → 1 * 2 ^ w % 4294967296 ≡ 2 ^ w
one_shifted w h = rw (one-mul (2 ^ w)) (mod-eq_of_lt (pow-lt {j = 32} h))

-- three bytes as one word
pub three : (sheet : List ℕ) (i : ℕ) → number 256 3 (drop i sheet) ≡ get_or sheet i 0 * 65536 + get_or sheet (i + 1) 0 * 256 + get_or sheet (i + 2) 0
unfolding number
three sheet i =
    let e : i + 1 + 1 ≡ i + 2 = omega arith in
    word-step sheet 2 i ∙ rw (word-step sheet 1 (i + 1), word-step sheet 0 (i + 1 + 1), e) (omega arith)

-- the field by shift and mask of that word
pub in_three : (sheet : List ℕ) → Below 256 sheet → (place w word after : ℕ) → w ≤ 16 → word ≡ number 256 3 (drop (place / 8) sheet) → place % 8 + w + after ≡ 24
    → bit_and (word / 2 ^ after) (1 * 2 ^ w % 4294967296 - 1) ≡ number 2 w (bits_at sheet w place)
in_three sheet bytes place w word after h p q =
    let e : 8 * (place / 8) + place % 8 ≡ place = omega arith in
    rw (one_shifted w (omega arith), and_mask (word / 2 ^ after) w, p) (rw e at (sym (field-word sheet bytes 3 (place / 8) (place % 8) w after q)))
