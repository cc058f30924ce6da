-- Sets of two words on the way of a search: within one the rows of its plan, and with one a row of a table. Assumes nothing.
use mathlib.Core.Path.{◌≡◌, refl, sym, ap, ◌∙◌}
use mathlib.Core.Bool.{Bool, true, not, ◌&&◌, ◌||◌}
use mathlib.Core.List.{List, [], ◌∷◌}
use Prim.Native.Nat.{ℕ, zero, suc, ◌+◌, ◌-◌, ◌*◌, ◌/◌, ◌%◌, ◌^◌, ◌<◌, ◌≤◌}
use native.Mathlib.Omega.{arith}
use native.Mathlib.Decide.{dec_lt}
use lib.Bits.{bit_and, bit_or, bit_xor}
use lib.ListN.{get_or}
use Rattle.clauses.specs.Numbers.{pair_clauses, set_words}
use Rattle.clauses.specs.Sets.{bit, in_set, in_pair, Within}
use Rattle.clauses.proofs.Bits.{bit_or_lem, bit-less, and_within, within_and}
use Rattle.clauses.proofs.Pairs.{in_low, in_high, pair-first, pair-second}
use Rattle.plan.specs.Plans.{row_at, in_plan}

-- ---- a row of the plan within a set

module _ (plan : List ℕ) (v first second : ℕ) where
  -- each clause due at v is in the set
  abbrev pub Covered : Type 0
  Covered = (c : ℕ) → c < pair_clauses → in_plan plan v c ≡ true → in_pair first second c ≡ true

  -- the second word of the row
  high : (c : ℕ) → 64 ≤ c → c < pair_clauses → in_plan plan v c ≡ bit (get_or plan (row_at v + 3) 0) (c - 64)
  unfolding in_plan
  high c l h = in_high plan (row_at v + 2) (row_at v + 3) c (omega arith) l h

  -- if neither word of the row has a bit that the set has not
  pub covered_all : bit_and (get_or plan (row_at v + 2) 0) first ≡ get_or plan (row_at v + 2) 0 → bit_and (get_or plan (row_at v + 3) 0) second ≡ get_or plan (row_at v + 3) 0 → Covered
  unfolding in_plan
  covered_all e f c h i = elim (dec_lt c 64) [
    | yes l ↦ pair-first first second c l ∙ within_and (get_or plan (row_at v + 2) 0) first c e (sym (in_low plan (row_at v + 2) c l) ∙ i)
    | no l ↦ pair-second first second c (omega arith) h ∙ within_and (get_or plan (row_at v + 3) 0) second (c - 64) f (sym (high c (omega arith) h) ∙ i)
  ]

  -- and only then
  pub covered_first : Covered → get_or plan (row_at v + 2) 0 < 2 ^ 64 → bit_and (get_or plan (row_at v + 2) 0) first ≡ get_or plan (row_at v + 2) 0
  unfolding in_plan
  covered_first f b =
      and_within 64 (get_or plan (row_at v + 2) 0) first b
      (λ k l i. sym (pair-first first second k l) ∙ f k (omega arith) (in_low plan (row_at v + 2) k l ∙ i))

  pub covered_second : Covered → get_or plan (row_at v + 3) 0 < 2 ^ 64 → bit_and (get_or plan (row_at v + 3) 0) second ≡ get_or plan (row_at v + 3) 0
  unfolding in_plan
  covered_second f b =
      and_within 64 (get_or plan (row_at v + 3) 0) second b
      (λ k l i. let e : k + 64 - 64 ≡ k = omega arith in
      rw e at (sym (pair-second first second (k + 64) (omega arith) (omega arith)))
      ∙ f (k + 64) (omega arith) (high (k + 64) (omega arith) (omega arith) ∙ rw e i))

-- ---- words that are put together

-- two sets joined
pub pair-join : (a b first second c : ℕ) → in_pair (bit_or a first) (bit_or b second) c ≡ (in_pair a b c || in_pair first second c)
unfolding in_pair
pair-join a b first second c = ap (λ (w : ℕ). bit w (c % 64)) (word (0 + c / 64)) ∙ bit_or_lem (get_or (a ∷ b ∷ []) (0 + c / 64) 0) (get_or (first ∷ second ∷ []) (0 + c / 64) 0) (c % 64)
  where
    word : (k : ℕ) → get_or (bit_or a first ∷ bit_or b second ∷ []) k 0 ≡ bit_or (get_or (a ∷ b ∷ []) k 0) (get_or (first ∷ second ∷ []) k 0)
    word zero = refl
    word (suc zero) = refl
    word (suc (suc k)) = refl

-- with the first two words of a row added
pub pair_or : (a b : ℕ) (table : List ℕ) (row c : ℕ) → c < pair_clauses
    → in_pair (bit_or a (get_or table (row * set_words) 0)) (bit_or b (get_or table (row * set_words + 1) 0)) c ≡ (in_pair a b c || in_set table row c)
unfolding in_set
pair_or a b table row c h = pair-join a b (get_or table (row * set_words) 0) (get_or table (row * set_words + 1) 0) c ∙ ap (λ (i : Bool). in_pair a b c || i) (elim (dec_lt c 64) [
  | yes l ↦ pair-first (get_or table (row * set_words) 0) (get_or table (row * set_words + 1) 0) c l ∙ sym (in_low table (row * set_words) c l)
  | no l ↦ pair-second (get_or table (row * set_words) 0) (get_or table (row * set_words + 1) 0) c (omega arith) h ∙ sym (in_high table (row * set_words) (row * set_words + 1) c refl (omega arith) h)
])

-- a row of the plan that has the first two words of a row of a table, without what the set has
pub plan_less : (a b : ℕ) (plan table : List ℕ) (v c : ℕ) → c < pair_clauses
    → get_or plan (row_at v + 2) 0 ≡ bit_xor (get_or table (v * set_words) 0) (bit_and (get_or table (v * set_words) 0) a)
    → get_or plan (row_at v + 3) 0 ≡ bit_xor (get_or table (v * set_words + 1) 0) (bit_and (get_or table (v * set_words + 1) 0) b)
    → in_plan plan v c ≡ (in_set table v c && not (in_pair a b c))
unfolding in_pair in_set in_plan
plan_less a b plan table v c h e f = elim (dec_lt c 64) [
  | yes l ↦ let d : c / 64 ≡ 0 = omega arith in let z : v * set_words + 0 ≡ v * set_words = omega arith in let y : v * 4 + 2 + 0 ≡ v * 4 + 2 = omega arith in rw (d, z, y, e) (bit-less (get_or table (v * set_words) 0) a (c % 64))
  | no l ↦ let d : c / 64 ≡ 1 = omega arith in let y : v * 4 + 2 + 1 ≡ v * 4 + 3 = omega arith in rw (d, y, f) (bit-less (get_or table (v * set_words + 1) 0) b (c % 64))
]

-- so what is covered by such a set is covered by the set or the row
pub pair-within : (a b : ℕ) (table : List ℕ) (row : ℕ) (dues : ℕ → Bool) (r : Bool)
    → Within pair_clauses dues (in_pair (bit_or a (get_or table (row * set_words) 0)) (bit_or b (get_or table (row * set_words + 1) 0))) r → Within pair_clauses dues (λ c. in_pair a b c || in_set table row c) r
pair-within a b table row dues r w = record {
  all = λ e c h d. sym (pair_or a b table row c h) ∙ w.all e c h d;
  only = λ f. w.only (λ c h d. pair_or a b table row c h ∙ f c h d);
}
