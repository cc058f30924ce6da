-- The best value of a variable by any comparison: there is one, it is found value by value, and a word has it digit by digit. By an edition's comparison it is the model's. Assumes nothing.
use mathlib.Core.Path.{◌≡◌, refl, sym, ◌∙◌}
use mathlib.Core.Logic.{inl, inr, ◌↔◌}
use mathlib.Core.Bool.{Bool, true, false}
use mathlib.Core.List.{List, [], ◌∷◌, map}
use Prim.Native.Nat.{ℕ, zero, suc, ◌+◌, ◌-◌, ◌*◌, ◌^◌, ◌≤◌, ◌<◌}
use native.Mathlib.Omega.{arith}
use native.Mathlib.Nat.{zero-mul}
use native.Mathlib.Numerals.{add-one}
use lib.ListN.{length, get_or, set, take, length-map, length-set, get_or-map, get_or-eq_default}
use lib.Seq.{get_or-take, get_or-set_same, get_or-set_other, length-take-le, take-length}
use borrow.Author.Tests.{ltb-true, ltb-false}
use Rattle.model.specs.Lists.{All}
use Rattle.model.specs.Digits.{digits, number}
use Rattle.model.specs.Sheet.{Plant, edition1, edition2, edition_of, read_sheet, got}
use Rattle.model.specs.Assignment.{code}
use Rattle.model.specs.Order.{better, lower, best_of, best_value, order_of}
use Rattle.theory.specs.Digits.{Below}
use Rattle.theory.specs.Plant.{Accepted}
use Rattle.theory.specs.Value.{Compares, Better, BestValue, BestValues, PreferredValues}
use Rattle.theory.proofs.Lists.{all-at, all_map, all_image, all_set}
use Rattle.theory.proofs.Digits.{trichotomy, digits_length, digits-below, digits-zero, digits-made, number-below, number_digits, number_digit, number_same, number-set, zero-at}
use Rattle.theory.proofs.Sheet.{accepted_any}

-- ---- one row

-- a row has one best value
pub best-unique : {Better : ℕ → ℕ → Type 0} {row : List ℕ} {q r : ℕ} → BestValue Better row q → BestValue Better row r → q ≡ r
best-unique {q = q} {r = r} a b = elim (trichotomy q r) [
  | inl l ↦ absurd (a.none-better r b.within (b.lower-worse q l))
  | inr h ↦ elim h [ inl e ↦ e | inr l ↦ absurd (b.none-better q a.within (a.lower-worse r l)) ]
]

-- less is a comparison: the best is the cheapest
pub less-compares : Compares ◌<◌
less-compares = record {
  asymmetric = λ a b h k. omega arith;
  cotransitive = λ a b c h. elim (trichotomy a b) [ inl l ↦ inl l | inr m ↦ inr (elim m [ inl e ↦ omega arith | inr l ↦ omega arith ]) ];
}

-- and so is a comparison turned round: the best by it is the greatest
pub turned-compares : {Better : ℕ → ℕ → Type 0} → Compares Better → Compares (λ a b. Better b a)
turned-compares c = record {
  asymmetric = λ a b h k. c.asymmetric b a h k;
  cotransitive = λ x y z h. elim (c.cotransitive z y x h) [ inl l ↦ inr l | inr l ↦ inl l ];
}

-- no figure is better than itself
irreflexive : {Better : ℕ → ℕ → Type 0} → Compares Better → (a : ℕ) → Better a a → ⊥
irreflexive c a b = c.asymmetric a a b b

-- of a row's first value it is the best
pub first-best : {Better : ℕ → ℕ → Type 0} → Compares Better → (row : List ℕ) → 0 < length row → BestValue Better (take 1 row) 0
first-best c row h =
    let l : length (take 1 row) ≡ 1 = length-take-le 1 row (omega arith) in
    record {
      within = omega arith;
      none-better = λ x k b. let e : x ≡ 0 = omega arith in irreflexive c _ (rw e at b);
      lower-worse = λ x k. absurd (omega arith);
    }

module _ {Better : ℕ → ℕ → Type 0} (c : Compares Better) (row : List ℕ) (n q : ℕ) (l : n < length row) (old : BestValue Better (take n row) q) where
  -- the value is one of the first n
  q-below : q < n
  q-below = omega (arith, old.within, length-take-le n row (omega arith))

  -- none of the first n is better
  old-best : (x : ℕ) → x < n → Better (get_or row x 0) (get_or row q 0) → ⊥
  old-best x h b = old.none-better x (rw (length-take-le n row (omega arith)) h) (rw (get_or-take n row x 0 h, get_or-take n row q 0 q-below) b)

  long : length (take (n + 1) row) ≡ n + 1
  long = length-take-le (n + 1) row (omega arith)

  -- the next value is better: it is the best of one value more
  pub better-next : Better (get_or row n 0) (get_or row q 0) → BestValue Better (take (n + 1) row) n
  better-next b = record {
    within = omega (arith, long);
    none-better = λ x h k. go x (omega (arith, long)) (rw (get_or-take (n + 1) row x 0 (omega (arith, long)), get_or-take (n + 1) row n 0 (omega arith)) at k);
    lower-worse = λ x h. rw (get_or-take (n + 1) row x 0 (omega arith), get_or-take (n + 1) row n 0 (omega arith)) (worse x h);
  }
    where
      worse : (x : ℕ) → x < n → Better (get_or row n 0) (get_or row x 0)
      worse x h = elim (c.cotransitive _ (get_or row x 0) _ b) [ inl k ↦ k | inr k ↦ absurd (old-best x h k) ]

      go : (x : ℕ) → x < n + 1 → Better (get_or row x 0) (get_or row n 0) → ⊥
      go x h k = elim (trichotomy x n) [
        | inl m ↦ c.asymmetric _ _ k (worse x m)
        | inr m ↦ elim m [ inl e ↦ irreflexive c _ (rw e at k) | inr m ↦ absurd (omega arith) ]
      ]

  -- it is not: the best stays
  pub no_better-next : (Better (get_or row n 0) (get_or row q 0) → ⊥) → BestValue Better (take (n + 1) row) q
  no_better-next b = record {
    within = omega (arith, long, q-below);
    none-better = λ x h k. go x (omega (arith, long)) (rw (get_or-take (n + 1) row x 0 (omega (arith, long)), get_or-take (n + 1) row q 0 (omega (arith, q-below))) at k);
    lower-worse = λ x h. rw (get_or-take (n + 1) row x 0 (omega (arith, q-below)), get_or-take (n + 1) row q 0 (omega (arith, q-below)))
        (rw (get_or-take n row x 0 (omega (arith, q-below)), get_or-take n row q 0 q-below) at (old.lower-worse x h));
  }
    where
      go : (x : ℕ) → x < n + 1 → Better (get_or row x 0) (get_or row q 0) → ⊥
      go x h k = elim (trichotomy x n) [
        | inl m ↦ old-best x m k
        | inr m ↦ elim m [ inl e ↦ b (rw e at k) | inr m ↦ absurd (omega arith) ]
      ]

-- ---- the model's best value

-- an edition's comparison is one
pub better-compares : (w : Bool) → Compares (Better w)
better-compares false = less-compares
better-compares true = turned-compares less-compares

-- the model's test says which is better
pub better-true : (w : Bool) (a b : ℕ) → better w a b ≡ true → Better w a b
better-true false a b e = ltb-true a b e
better-true true a b e = ltb-true b a e

pub better-false : (w : Bool) (a b : ℕ) → better w a b ≡ false → Better w a b → ⊥
better-false false a b e h = omega (arith, ltb-false a b e)
better-false true a b e h = omega (arith, ltb-false b a e)

-- the best of a row's first values
best_of_first : (w : Bool) (row : List ℕ) (n : ℕ) → n < length row → BestValue (Better w) (take (suc n) row) (best_of w row (suc n))
best_of_first w row zero l = go (better w (get_or row 0 0) (get_or row 0 0))
  where
    go : (b : Bool) → BestValue (Better w) (take 1 row) (lower b 0 0)
    go true = first-best (better-compares w) row l
    go false = first-best (better-compares w) row l
best_of_first w row (suc n) l = rw (add-one (suc n)) at (go (better w (get_or row (suc n) 0) (get_or row old 0)) refl (best_of_first w row n (omega arith)))
  where
    old : ℕ
    old = best_of w row (suc n)

    go : (b : Bool) → better w (get_or row (suc n) 0) (get_or row old 0) ≡ b → BestValue (Better w) (take (suc n) row) old → BestValue (Better w) (take (suc n + 1) row) (lower b (suc n) old)
    go true e h = better-next (better-compares w) row (suc n) old l h (better-true w (get_or row (suc n) 0) (get_or row old 0) e)
    go false e h = no_better-next (better-compares w) row (suc n) old l h (better-false w (get_or row (suc n) 0) (get_or row old 0) e)

-- it is in the domain, no value is better, and every lower value is worse
pub value-best : (w : Bool) (row : List ℕ) → 0 < length row → BestValue (Better w) row (best_value w row)
value-best w [] h = absurd (omega arith)
value-best w (c ∷ row) h = rw (take-length row) at (best_of_first w (c ∷ row) (length row) (omega arith))

-- the best values of rows, row by row
pub values-best : (w : Bool) (rows : List (List ℕ)) → All (λ row. 0 < length row) rows → (v : ℕ) → v < length rows → BestValue (Better w) (get_or rows v []) (get_or (map (best_value w) rows) v 0)
values-best w rows z v h = rw (get_or-map (best_value w) rows v []) (value-best w (get_or rows v []) (all-at [] _ rows z v h))

-- ---- the word

-- no variable: zero
pub no_values : {Better : ℕ → ℕ → Type 0} → BestValues Better [] 0
no_values = record { one_word = omega arith; digit_best = λ v h. absurd (omega arith); rest-zero = λ v h. rw (digits-zero 16 16) (zero-at 16 v) }

-- one variable more: its best value at the next digit
module _ {Better : ℕ → ℕ → Type 0} (rows : List (List ℕ)) (v x word : ℕ) (l : v < length rows) (few : v < 16) (small : x < 16)
    (old : BestValues Better (take v rows) word) (best : BestValue Better (get_or rows v []) x) where
  before : length (take v rows) ≡ v
  before = length-take-le v rows (omega arith)

  after : length (take (v + 1) rows) ≡ v + 1
  after = length-take-le (v + 1) rows (omega arith)

  abbrev ds : List ℕ
  ds = digits 16 16 word

  -- the sum is the number with this digit in place of a zero
  sum_is : number 16 16 (set ds v x) ≡ word + x * 16 ^ (15 - v)
  sum_is =
      let free : get_or ds v 0 ≡ 0 = old.rest-zero v (omega (arith, before)) in
      let put = number-set 16 16 v (15 - v) x ds (omega arith) (rw (digits_length 16 16 word) few) in
      omega (arith, rw (free, zero-mul (16 ^ (15 - v))) at put, number_digits 16 16 word (omega arith) old.one_word)

  digits-small : Below 16 (set ds v x)
  digits-small = all_set (λ d. d < 16) ds v x small (digits-below 16 16 word (omega arith))

  digits-next : digits 16 16 (word + x * 16 ^ (15 - v)) ≡ set ds v x
  digits-next = rw sum_is at (digits-made 16 16 (set ds v x) (omega arith) digits-small (length-set ds v x ∙ digits_length 16 16 word))

  pub next-value : BestValues Better (take (v + 1) rows) (word + x * 16 ^ (15 - v))
  next-value = record {
    one_word = rw sum_is at (number-below 16 16 (set ds v x) (omega arith) digits-small);
    digit_best = λ u k. rw (digits-next, get_or-take (v + 1) rows u [] (omega (arith, after))) (go u (omega (arith, after)));
    rest-zero = λ u k. rw (digits-next, get_or-set_other ds v u x 0 (λ e. absurd (omega (arith, after)))) (old.rest-zero u (omega (arith, before, after)));
  }
    where
      go : (u : ℕ) → u < v + 1 → BestValue Better (get_or rows u []) (get_or (set ds v x) u 0)
      go u k = elim (trichotomy u v) [
        | inl m ↦ rw (get_or-set_other ds v u x 0 (λ e. absurd (omega arith)), ← get_or-take v rows u [] m) (old.digit_best u (rw before m))
        | inr m ↦ elim m [ inl e ↦ rw (e, get_or-set_same ds v x 0 (rw (digits_length 16 16 word) few)) best | inr m ↦ absurd (omega arith) ]
      ]

-- rows have one such word
pub word-unique : {Better : ℕ → ℕ → Type 0} {rows : List (List ℕ)} {w u : ℕ} → BestValues Better rows w → BestValues Better rows u → w ≡ u
word-unique {rows = rows} {w = w} {u = u} a b =
    sym (number_digits 16 16 w (omega arith) a.one_word) ∙ number_same 16 16 (digits 16 16 w) (digits 16 16 u) same ∙ number_digits 16 16 u (omega arith) b.one_word
  where
    same : (v : ℕ) → get_or (digits 16 16 w) v 0 ≡ get_or (digits 16 16 u) v 0
    same v = elim (trichotomy v (length rows)) [
      | inl l ↦ best-unique (a.digit_best v l) (b.digit_best v l)
      | inr l ↦ rest (elim l [ inl e ↦ omega arith | inr g ↦ omega arith ])
    ]
      where
        rest : length rows ≤ v → get_or (digits 16 16 w) v 0 ≡ get_or (digits 16 16 u) v 0
        rest h = a.rest-zero v h ∙ sym (b.rest-zero v h)

-- it is the code of the best values
pub code_hands_in : {Better : ℕ → ℕ → Type 0} (rows : List (List ℕ)) (values : List ℕ) → length values ≡ length rows → length rows ≤ 16 → Below 16 values
    → ((v : ℕ) → v < length rows → BestValue Better (get_or rows v []) (get_or values v 0)) → BestValues Better rows (code values)
code_hands_in rows values e s b best = record {
  one_word = number-below 16 16 values (omega arith) b;
  digit_best = λ v h. rw (number_digit 16 16 v values (omega arith) b (omega arith)) (best v h);
  rest-zero = λ v h. rw (number_digit 16 16 v values (omega arith) b (omega arith)) (get_or-eq_default values 0 {n = v} (omega arith));
}

-- ---- what a run is handed in

-- the edition's figures are weights exactly where it is said so
pub edition-weighed : (w : Bool) → (edition_of w).weighed ≡ w
unfolding edition1 edition2
edition-weighed false = refl
edition-weighed true = refl

-- at most sixteen decision variables
pub edition-few : (w : Bool) (p : Plant) → Accepted (edition_of w) p → length p.costs ≤ 16
unfolding edition1 edition2
edition-few false p a = a.decisions
edition-few true p a = omega (arith, a.decisions)

-- on every accepted plant of either edition:
module _ (w : Bool) (p : Plant) (a : Accepted (edition_of w) p) where
  -- for every decision variable the order's preferred value is its best value, the lowest on a tie
  pub preferred-best : (v : ℕ) → v < length p.costs → BestValue (Better w) (get_or p.costs v []) (get_or (order_of (edition_of w) p).preferred v 0)
  unfolding order_of
  preferred-best = rw (edition-weighed w) (values-best w p.costs (all_map (λ row z. z.0) p.costs a.decision_sizes_lem))

  preferred-below : Below 16 (order_of (edition_of w) p).preferred
  unfolding order_of
  preferred-below = rw (edition-weighed w) (all_image (best_value w) _ p.costs (all_map (λ row s. omega (arith, (value-best w row s.0).within, s.1)) p.costs a.decision_sizes_lem))

  preferred_length : length (order_of (edition_of w) p).preferred ≡ length p.costs
  unfolding order_of
  preferred_length = length-map p.costs (best_value (edition_of w).weighed)

  -- the code of the preferred values, of which best states are made, hands them in
  pub preferred-handed : PreferredValues w p (code (order_of (edition_of w) p).preferred)
  preferred-handed = code_hands_in p.costs (order_of (edition_of w) p).preferred preferred_length (edition-few w p a) preferred-below preferred-best

  -- and nothing else does
  pub handed-is : (word : ℕ) → PreferredValues w p word → word ≡ code (order_of (edition_of w) p).preferred
  handed-is word c = word-unique c preferred-handed

  -- so a digit handed in is a preferred value
  pub digit_preferred : (word : ℕ) → PreferredValues w p word → (v : ℕ) → get_or (digits 16 16 word) v 0 ≡ get_or (order_of (edition_of w) p).preferred v 0
  digit_preferred word c v = rw (handed-is word c) (number_digit 16 16 v (order_of (edition_of w) p).preferred (omega arith) preferred-below (omega (arith, preferred_length, edition-few w p a)))

-- requests L3 and L6, on every accepted sheet of either edition: a word hands in, for every decision variable, its best value, the lowest on a tie, exactly if it is the code of the preferred values
pub handed_exactly : (w : Bool) (sheet : List ℕ) (p : Plant) (end : ℕ) → read_sheet (edition_of w) sheet ≡ got p end → (word : ℕ)
    → PreferredValues w p word ↔ (word ≡ code (order_of (edition_of w) p).preferred)
handed_exactly w sheet p end h word =
    let a = (accepted_any (edition_of w) sheet p end h).0 in
    (handed-is w p a word, λ e. rw e (preferred-handed w p a))
