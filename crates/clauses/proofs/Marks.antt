-- Clauses put into the rows of a table, one after the other. Assumes nothing.
use mathlib.Core.Path.{◌≡◌, refl, sym, ap, ◌∙◌}
use mathlib.Core.Bool.{Bool, true, false, ◌&&◌, ◌||◌, and-false, or-false}
use mathlib.Core.List.{List, []}
use Prim.Native.Nat.{ℕ, ◌+◌, ◌*◌, ◌/◌, ◌%◌, ◌^◌, ◌<◌, ◌≤◌}
use native.Mathlib.Omega.{arith}
use native.Mathlib.Decide.{ℕ_discrete, dec_lt}
use borrow.Author.Tests.{ne_eqb, eq-eqb, lt-ltb, le-ltb, le-leb, lt-leb}
use lib.Bits.{bit_or}
use lib.Dec.{eqb, ltb, leb}
use lib.ListN.{length, get_or, set, get_or-eq_default}
use lib.Seq.{get_or-set_same, get_or-set_other}
use Rattle.model.specs.Sheet.{Literal}
use Rattle.model.specs.Consistency.{holds_at}
use Rattle.theory.specs.Search.{nth}
use Rattle.clauses.specs.Sets.{bit, in_set, SetOf, Marked, literal_rows}
use Rattle.clauses.proofs.Bits.{bit_or_lem, bit_pow, bit-zero, shl_one}

-- ---- one bit more

module _ (table : List ℕ) (row c : ℕ) (fits : row * 8 + 8 ≤ length table) (small : c < 512) where
  abbrev place : ℕ
  place = row * 8 + c / 64

  abbrev after : List ℕ
  after = set table place (bit_or (get_or table place 0) (1 * 2 ^ (c % 64) % 2 ^ 64))

  -- at the word that was stored
  stored : (k : ℕ) → k / 64 ≡ c / 64 → in_set after row k ≡ (in_set table row k || eqb k c && eqb row row)
  unfolding in_set
  stored k e =
      rw (
        e,
        get_or-set_same table place (bit_or (get_or table place 0) (1 * 2 ^ (c % 64) % 2 ^ 64)) 0 (omega arith),
        shl_one (c % 64) (omega arith),
        bit_or_lem (get_or table place 0) (2 ^ (c % 64)) (k % 64),
        bit_pow (c % 64) (k % 64),
        eq-eqb row row refl,
      )
      (ap (λ (b : Bool). bit (get_or table place 0) (k % 64) || b) (go (ℕ_discrete k c)))
    where
      go : Dec (k ≡ c) → eqb (k % 64) (c % 64) ≡ (eqb k c && true)
      go (yes p) = eq-eqb (k % 64) (c % 64) (omega arith) ∙ sym (rw (eq-eqb k c p))
      go (no p) = ne_eqb (k % 64) (c % 64) (λ q. p (omega arith)) ∙ sym (rw (ne_eqb k c p))

  -- at the others
  others : (r k : ℕ) → k < 512 → (r * 8 + k / 64 ≡ place → ⊥) → (eqb k c && eqb row r) ≡ false → in_set after r k ≡ (in_set table r k || eqb k c && eqb row r)
  unfolding in_set
  others r k h ne off =
      rw (get_or-set_other table place (r * 8 + k / 64) (bit_or (get_or table place 0) (1 * 2 ^ (c % 64) % 2 ^ 64)) 0 ne, off, or-false (bit (get_or table (r * 8 + k / 64) 0) (k % 64)))

  pub add_marked : Marked (λ r. eqb row r) table c after
  add_marked = record { has = λ r k h. go r k h (ℕ_discrete r row) (ℕ_discrete (k / 64) (c / 64)) }
    where
      go : (r k : ℕ) → k < 512 → Dec (r ≡ row) → Dec (k / 64 ≡ c / 64) → in_set after r k ≡ (in_set table r k || eqb k c && eqb row r)
      go r k h (yes p) (yes q) = rw p (stored k q)
      go r k h (yes p) (no q) = others r k h (λ e. q (omega arith)) (rw (ne_eqb k c (λ e. q (rw e))))
      go r k h (no p) q = others r k h (λ e. p (omega arith)) (rw (ne_eqb row r (λ e. p (sym e))) (and-false (eqb k c)))

-- ---- on the way

-- what is there, with the rows that are still to come, is what was there with all the rows
pub record Marking (rest rows : ℕ → Bool) (before : List ℕ) (c : ℕ) (now : List ℕ) : Type 0 where
  pub has : (r k : ℕ) → k < 512 → (in_set now r k || eqb k c && rest r) ≡ (in_set before r k || eqb k c && rows r)

pub marking_first : (rows : ℕ → Bool) (table : List ℕ) (c : ℕ) → Marking rows rows table c table
marking_first rows table c = record { has = λ r k h. refl }

-- the next rows are put in
pub marking_step : (rest next part rows : ℕ → Bool) (before : List ℕ) (c : ℕ) (a b : List ℕ) → Marking rest rows before c a → Marked part a c b
    → ((r : ℕ) → rest r ≡ (part r || next r)) → Marking next rows before c b
marking_step rest next part rows before c a b m n e = record {
  has = λ r k h. ap (λ (x : Bool). x || eqb k c && next r) (n.has r k h) ∙ join (in_set a r k) (eqb k c) (part r) (next r) (rest r) (e r) ∙ m.has r k h;
}
  where
    join : (x y f g h : Bool) → h ≡ (f || g) → (x || y && f || y && g) ≡ (x || y && h)
    join true y f g h e = refl
    join false true f g h e = sym e
    join false false f g h e = refl

-- or there are none at this step
pub marking_skip : (rest next rows : ℕ → Bool) (before : List ℕ) (c : ℕ) (a : List ℕ) → Marking rest rows before c a
    → ((r : ℕ) → rest r ≡ next r) → Marking next rows before c a
marking_skip rest next rows before c a m e = record { has = λ r k h. ap (λ (b : Bool). in_set a r k || eqb k c && b) (sym (e r)) ∙ m.has r k h }

-- none are to come
pub marking_end : (rest rows : ℕ → Bool) (before : List ℕ) (c : ℕ) (now : List ℕ) → Marking rest rows before c now
    → ((r : ℕ) → rest r ≡ false) → Marked rows before c now
marking_end rest rows before c now m off = record {
  has = λ r k h. sym (ap (λ (b : Bool). in_set now r k || eqb k c && b) (off r) ∙ ap (λ (b : Bool). in_set now r k || b) (and-false (eqb k c)) ∙ or-false (in_set now r k)) ∙ m.has r k h;
}

-- ---- the rows of a literal, value by value

module _ (var sign value : ℕ) where
  -- those of the values from x on
  unfoldable pub rows_from : ℕ → ℕ → Bool
  rows_from x r = leb x (r % 16) && literal_rows var sign value r

  pub rows_all : (r : ℕ) → rows_from 0 r ≡ literal_rows var sign value r
  unfolding rows_from
  rows_all r = rw (le-leb 0 (r % 16) (omega arith))

  pub rows_end : (r : ℕ) → rows_from 16 r ≡ false
  unfolding rows_from
  rows_end r = rw (lt-leb 16 (r % 16) (omega arith))

  -- where x does not come into it
  same_from : (x r : ℕ) → (r % 16 ≡ x → literal_rows var sign value r ≡ false) → rows_from x r ≡ rows_from (x + 1) r
  unfolding rows_from
  same_from x r off = go (ℕ_discrete (r % 16) x) (dec_lt (r % 16) x)
    where
      go : Dec (r % 16 ≡ x) → Dec (r % 16 < x) → (leb x (r % 16) && literal_rows var sign value r) ≡ (leb (x + 1) (r % 16) && literal_rows var sign value r)
      go (yes p) q = rw (off p) (and-false (leb x (r % 16)) ∙ sym (and-false (leb (x + 1) (r % 16))))
      go (no p) (yes q) = rw (lt-leb x (r % 16) q, lt-leb (x + 1) (r % 16) (omega arith))
      go (no p) (no q) = rw (le-leb x (r % 16) (omega arith), le-leb (x + 1) (r % 16) (omega arith))

  -- a value at which the literal does not hold
  pub rows-fail : (x r : ℕ) → holds_at x sign value ≡ false → rows_from x r ≡ rows_from (x + 1) r
  unfolding literal_rows
  rows-fail x r e = same_from x r (λ p. rw (p, e) (and-false (eqb var (r / 16))))

  -- a value at which it does
  pub rows_hold : (x r : ℕ) → x < 16 → holds_at x sign value ≡ true → rows_from x r ≡ (eqb (var * 16 + x) r || rows_from (x + 1) r)
  unfolding literal_rows rows_from
  rows_hold x r h e = elim (ℕ_discrete r (var * 16 + x)) [
    | yes p ↦
        let m : r % 16 ≡ x = omega arith in
        let d : var ≡ r / 16 = omega arith in
        rw (rows_from, literal_rows, m, eq-eqb (var * 16 + x) r (sym p), eq-eqb var (r / 16) d, e, le-leb x x (omega arith))
    | no p ↦ rw (ne_eqb (var * 16 + x) r (λ e. p (sym e))) (same_from x r (λ q. rw (literal_rows, ne_eqb var (r / 16) (λ d. p (omega arith)))))
  ]

-- ---- the row of an equal literal

module _ (var value : ℕ) where
  rows-equal : (r : ℕ) → value < 16 → literal_rows var 0 value r ≡ eqb (var * 16 + value) r
  unfolding literal_rows holds_at
  rows-equal r h = elim (ℕ_discrete r (var * 16 + value)) [
    | yes p ↦
        let m : r % 16 ≡ value = omega arith in
        let d : var ≡ r / 16 = omega arith in
        rw (m, eq-eqb (var * 16 + value) r (sym p), eq-eqb var (r / 16) d, eq-eqb value value refl)
    | no p ↦ rw (ne_eqb (var * 16 + value) r (λ e. p (sym e))) (elim (ℕ_discrete (r % 16) value) [
      | yes m ↦ rw (ne_eqb var (r / 16) (λ d. p (omega arith)))
      | no m ↦ rw (ne_eqb (r % 16) value m) (and-false (eqb var (r / 16)))
    ])
  ]

  -- of a value below 16 there is one
  pub equal-marked : (before : List ℕ) (c : ℕ) (after : List ℕ) → value < 16 → Marked (λ r. eqb (var * 16 + value) r) before c after → Marked (literal_rows var 0 value) before c after
  equal-marked before c after h m = record { has = λ r k l. rw (rows-equal r h) (m.has r k l) }

  -- of any other there is none
  pub beyond_marked : (table : List ℕ) (c : ℕ) → 16 ≤ value → Marked (literal_rows var 0 value) table c table
  unfolding literal_rows holds_at
  beyond_marked table c h =
      marking_end (literal_rows var 0 value) (literal_rows var 0 value) table c table (marking_first (literal_rows var 0 value) table c)
      (λ r. rw (ne_eqb (r % 16) value (λ e. omega arith)) (and-false (eqb var (r / 16))))

-- ---- clause after clause

-- the table has the rows of the clauses before i
pub record Upto (rows : List Literal → ℕ → Bool) (cs : List (List Literal)) (i : ℕ) (table : List ℕ) : Type 0 where
  pub has : (r k : ℕ) → k < 512 → in_set table r k ≡ (ltb k i && rows (nth cs k) r)

module _ (rows : List Literal → ℕ → Bool) (cs : List (List Literal)) where
  -- an empty table has none
  pub upto-first : (table : List ℕ) → ((k : ℕ) → get_or table k 0 ≡ 0) → Upto rows cs 0 table
  unfolding in_set
  upto-first table z = record { has = λ r k h. rw (z (r * 8 + k / 64), bit-zero (k % 64), le-ltb k 0 (omega arith)) }

  -- one clause more
  pub upto_step : (i : ℕ) (a b : List ℕ) (ls : List Literal) → Upto rows cs i a → Marked (rows ls) a i b → nth cs i ≡ ls → Upto rows cs (i + 1) b
  upto_step i a b ls u m e = record { has = λ r k h. m.has r k h ∙ ap (λ (x : Bool). x || eqb k i && rows ls r) (u.has r k h) ∙ go r k (ℕ_discrete k i) (dec_lt k i) }
    where
      go : (r k : ℕ) → Dec (k ≡ i) → Dec (k < i) → (ltb k i && rows (nth cs k) r || eqb k i && rows ls r) ≡ (ltb k (i + 1) && rows (nth cs k) r)
      go r k (yes p) q = rw (p, e, le-ltb i i (omega arith), lt-ltb i (i + 1) (omega arith), eq-eqb i i refl)
      go r k (no p) (yes q) = rw (ne_eqb k i p, lt-ltb k i q, lt-ltb k (i + 1) (omega arith)) (or-false (rows (nth cs k) r))
      go r k (no p) (no q) = rw (ne_eqb k i p, le-ltb k i (omega arith), le-ltb k (i + 1) (omega arith))

  -- all of them
  pub upto-end : (i : ℕ) (table : List ℕ) → Upto rows cs i table → length cs ≤ i → (r : ℕ) → rows [] r ≡ false → SetOf (λ ls. rows ls r) cs table r
  upto-end i table u h r off = record { has = λ k l. u.has r k l ∙ go k (dec_lt k i) }
    where
      go : (k : ℕ) → Dec (k < i) → (ltb k i && rows (nth cs k) r) ≡ rows (nth cs k) r
      go k (yes p) = rw (lt-ltb k i p)
      go k (no p) = rw (le-ltb k i (omega arith), get_or-eq_default cs [] {n = k} (omega arith)) (sym off)
