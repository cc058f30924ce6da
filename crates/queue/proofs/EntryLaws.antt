-- An entry tells its node, and entries come as their nodes do: the figure and the code of the best state stand in it above the mask, and the code keeps the node's values where the widened mask is set. Assumes nothing.
use mathlib.Core.Path.{◌≡◌, refl, sym, ap, ◌∙◌, subst}
use mathlib.Core.Logic.{◌⊎◌, inl, inr}
use mathlib.Core.Bool.{Bool, true, false, or-true}
use mathlib.Core.List.{List}
use Prim.Native.Nat.{ℕ, suc, ◌+◌, ◌-◌, ◌*◌, ◌/◌, ◌%◌, ◌^◌, ◌≤◌, ◌<◌}
use native.Mathlib.Omega.{arith}
use native.Mathlib.Nat.{suc-mul, mul-le-mul_right, add-mul, mul_comm, mul_assoc, mul-lt-mul_of_pos_right, div-add-mod, mod-lt, add-mul-mod_self_right, mod-eq_of_lt}
use lib.Bits.{bit_and}
use lib.Dec.{ltb}
use lib.ListN.{length}
use borrow.Author.Tests.{lt-ltb, eq-eqb}
use Rattle.model.specs.Assignment.{Assignment, Fits, Valid, mask_of, values_of, assignment_of, code}
use Rattle.model.specs.Order.{Order, best}
use Rattle.theory.specs.Value.{Better}
use Rattle.theory.specs.Words.{Words, wide_of}
use Rattle.theory.proofs.Agreement.{valid_length, fits_length}
use Rattle.theory.proofs.Digits.{trichotomy, number-below, number-low}
use Rattle.theory.proofs.Figures.{fits_below}
use Rattle.theory.proofs.Nodes.{best_in}
use Rattle.theory.proofs.Order.{before_sooner}
use Rattle.theory.proofs.Words.{mask_below, mask_low, valid-small, words_hold, words_of}
use Rattle.theory.proofs.WordsParallel.{masked-word}
use Rattle.queue.specs.Order.{Item, packed, entry_of, mask_in, code_in, figure_in, comes_before, FigureFits, Keyed, Suits}

-- the values that stand in an entry
abbrev pub values_in : Bool → Item → ℕ
values_in w e = bit_and (code_in w e) (wide_of (mask_in e.1))

-- ---- the packing, on numbers

-- bits shifted out of a word: those that stay are the lower ones
pub shifted : (x n m : ℕ) → 0 < n → 0 < m → x * m % (n * m) ≡ x % n * m
shifted x n m p q =
    let parts : x * m ≡ x % n * m + x / n * (n * m) =
    ap (λ (y : ℕ). y * m) (sym (div-add-mod x n)) ∙ add-mul (n * (x / n)) (x % n) m ∙ omega (arith, ap (λ (y : ℕ). y * m) (mul_comm n (x / n)), mul_assoc (x / n) n m) in
    ap (λ (y : ℕ). y % (n * m)) parts ∙ add-mul-mod_self_right (x % n * m) (x / n) (n * m) ∙ mod-eq_of_lt (mul-lt-mul_of_pos_right (mod-lt x p) q)

-- and what stands below them has room
pub shifted-room : (x n m y : ℕ) → 0 < n → 0 < m → y < m → x * m % (n * m) + y < n * m
shifted-room x n m y p q l =
    let top : suc (x % n) * m ≤ n * m = mul-le-mul_right m (mod-lt x p) in
    omega (arith, shifted x n m p q, suc-mul (x % n) m)

-- the words that are made of a node's numbers are its entry's
pub cost-words : (figure code mask : ℕ) → figure < 2 ^ 20 → (figure * 2 ^ 44 % 2 ^ 64 + code / 2 ^ 25, code * 2 ^ 39 % 2 ^ 64 + mask / 2 ^ 48) ≡ packed false figure code mask
unfolding packed
cost-words figure code mask h =
    let whole : figure * 2 ^ 44 % 2 ^ 64 ≡ figure * 2 ^ 44 = mod-eq_of_lt (omega arith) in
    rw (whole, shifted code (2 ^ 25) (2 ^ 39) (omega arith) (omega arith))

pub product-words : (figure code mask : ℕ) → code < 2 ^ 64 → (2 ^ 64 - 1 - figure, code / 2 ^ 32 * 2 ^ 27 % 2 ^ 64 + mask / 2 ^ 48) ≡ packed true figure code mask
unfolding packed
product-words figure code mask h =
    let whole : code / 2 ^ 32 * 2 ^ 27 % 2 ^ 64 ≡ code / 2 ^ 32 * 2 ^ 27 = mod-eq_of_lt (omega arith) in
    rw whole

-- a code has room in an entry
abbrev CodeFits : Bool → ℕ → Type 0
CodeFits false code = code < 2 ^ 64
CodeFits true code = (code < 2 ^ 64) × (code % 2 ^ 32 ≡ 0)

-- what was put in is read again
packed-mask : (w : Bool) (figure code mask : ℕ) → mask < 2 ^ 64 → mask % 2 ^ 48 ≡ 0 → mask_in (packed w figure code mask).1 ≡ mask
unfolding packed
packed-mask false figure code mask h l = omega arith
packed-mask true figure code mask h l = omega arith

-- the code's upper bits, shifted back: what stands above them goes out of the word
upper-back : (figure u : ℕ) → u < 2 ^ 39 → (figure * 2 ^ 44 + u) * 2 ^ 25 % 2 ^ 64 ≡ u * 2 ^ 25
upper-back figure u h =
    let whole : (figure * 2 ^ 44 + u) * 2 ^ 25 ≡ u * 2 ^ 25 + figure * 32 * 2 ^ 64 = omega arith in
    rw (whole, add-mul-mod_self_right (u * 2 ^ 25) (figure * 32) (2 ^ 64)) (mod-eq_of_lt (omega arith))

-- its lower bits
lower-back : (u low : ℕ) → low < 2 ^ 39 → (u * 2 ^ 39 + low) / 2 ^ 39 ≡ u
lower-back u low h = omega arith

packed-code : (w : Bool) (figure code mask : ℕ) → CodeFits w code → mask < 2 ^ 64 → code_in w (packed w figure code mask) ≡ code
unfolding packed
packed-code false figure code mask c h =
    rw (upper-back figure (code / 2 ^ 25) (omega arith), lower-back (code % 2 ^ 25) (mask / 2 ^ 48) (omega arith)) (omega arith)
packed-code true figure code mask c h = omega arith

packed-figure : (w : Bool) (figure code mask : ℕ) → FigureFits w figure → CodeFits w code → figure_in w (packed w figure code mask).0 ≡ figure
unfolding packed
packed-figure false figure code mask f c = omega arith
packed-figure true figure code mask f c = omega arith

-- of two entries the first words decide, or are equal and the second ones do
by-words : (x y : Item) → (x.0 < y.0) ⊎ ((x.0 ≡ y.0) × (x.1 < y.1)) → comes_before x y ≡ true
unfolding comes_before
by-words x y (inl l) = rw (lt-ltb x.0 y.0 l)
by-words x y (inr h) = rw (eq-eqb x.0 y.0 h.0, lt-ltb x.1 y.1 h.1) (or-true (ltb x.0 y.0))

-- the lower cost
costs-before : (f c g d : ℕ) → f < g → c < 2 ^ 64 → (packed false f c 0).0 < (packed false g d 0).0
unfolding packed
costs-before f c g d l h = omega arith

-- of equal costs the lower upper part of the code
upper-before : (f c m g d n : ℕ) → f ≡ g → c / 2 ^ 25 < d / 2 ^ 25 → (packed false f c m).0 < (packed false g d n).0
unfolding packed
upper-before f c m g d n e l = omega arith

-- and of equal upper parts the lower code
lower-before : (f c m g d n : ℕ) → f ≡ g → c < d → c / 2 ^ 25 ≡ d / 2 ^ 25 → m < 2 ^ 64 → ((packed false f c m).0 ≡ (packed false g d n).0) × ((packed false f c m).1 < (packed false g d n).1)
unfolding packed
lower-before f c m g d n e l u h = (omega arith, omega arith)

-- the greater product
products-before : (f g : ℕ) → g < f → g < 2 ^ 64 → f < 2 ^ 64 → (packed true f 0 0).0 < (packed true g 0 0).0
unfolding packed
products-before f g l h k = omega arith

-- of equal products the lower code
halves-before : (f c m g d n : ℕ) → f ≡ g → c < d → c % 2 ^ 32 ≡ 0 → d % 2 ^ 32 ≡ 0 → m < 2 ^ 64 → ((packed true f c m).0 ≡ (packed true g d n).0) × ((packed true f c m).1 < (packed true g d n).1)
unfolding packed
halves-before f c m g d n e l u k h = (omega arith, omega arith)

-- a better figure comes first, and of equal ones the lower code
packed-before : (w : Bool) (f c m g d n : ℕ) → FigureFits w f → CodeFits w c → FigureFits w g → CodeFits w d → m < 2 ^ 64 → n < 2 ^ 64
    → Better w f g ⊎ ((f ≡ g) × (c < d)) → comes_before (packed w f c m) (packed w g d n) ≡ true
unfolding packed
packed-before w f c m g d n ff cf gf df ml nl s = by-words (packed w f c m) (packed w g d n) (go w ff cf gf df s)
  where
    go : (w : Bool) → FigureFits w f → CodeFits w c → FigureFits w g → CodeFits w d → Better w f g ⊎ ((f ≡ g) × (c < d))
        → ((packed w f c m).0 < (packed w g d n).0) ⊎ (((packed w f c m).0 ≡ (packed w g d n).0) × ((packed w f c m).1 < (packed w g d n).1))
    go false ff cf gf df (inl l) = inl (costs-before f c g d l cf)
    go false ff cf gf df (inr h) = elim (trichotomy (c / 2 ^ 25) (d / 2 ^ 25)) [
      | inl l ↦ inl (upper-before f c m g d n h.0 l)
      | inr t ↦ inr (elim t [ inl e ↦ lower-before f c m g d n h.0 h.1 e ml | inr l ↦ absurd (omega arith) ])
    ]
    go true ff cf gf df (inl l) = inl (products-before f g l gf ff)
    go true ff cf gf df (inr h) = inr (halves-before f c m g d n h.0 h.1 cf.1 df.1 ml)

-- ---- nodes

-- the code of values within at most sixteen domains, with weights at most eight, has room
code_fits : (ss : List ℕ) (o : Order) → Suits ss o → (f : List ℕ) → Fits ss f → CodeFits o.weighed (code f)
code_fits ss o s f h = go o.weighed s.fewer
  where
    go : (w : Bool) → (w ≡ true → length ss ≤ 8) → CodeFits w (code f)
    go false few = number-below 16 16 f (omega arith) (fits_below 16 ss f s.small h)
    go true few = (number-below 16 16 f (omega arith) (fits_below 16 ss f s.small h), number-low 16 16 8 f (omega (arith, fits_length ss f h, few refl)))

module _ (ss : List ℕ) (o : Order) (n : Assignment) (s : Suits ss o) (v : Valid ss n) where
  -- the best state
  abbrev state : List ℕ
  state = best o.preferred n

  state_in : Fits ss state
  state_in = (best_in ss o.preferred n s.preferred v).0

  pub state-code : CodeFits o.weighed (code state)
  state-code = code_fits ss o s state state_in

  pub state-figure : FigureFits o.weighed (o.figure state)
  state-figure = s.figures state state_in

  pub state-fits : o.weighed ≡ false → o.figure state < 2 ^ 20
  state-fits e = subst (λ (w : Bool). FigureFits w (o.figure state)) e state-figure

  -- the mask in a node's entry is the node's
  pub mask-back : mask_in (entry_of o n).1 ≡ mask_of n
  unfolding entry_of
  mask-back = packed-mask o.weighed (o.figure state) (code state) (mask_of n) (mask_below n) (mask_low n (omega (arith, valid_length ss n v, s.few)))

  -- the code and the figure are the best state's
  pub code-back : code_in o.weighed (entry_of o n) ≡ code state
  unfolding entry_of
  code-back = packed-code o.weighed (o.figure state) (code state) (mask_of n) state-code (mask_below n)

  pub figure-back : figure_in o.weighed (entry_of o n).0 ≡ o.figure state
  unfolding entry_of
  figure-back = packed-figure o.weighed (o.figure state) (code state) (mask_of n) state-figure state-code

  -- so the best state's code keeps the values where the widened mask is set
  pub state-words : Words n (mask_of n) (bit_and (code state) (wide_of (mask_of n)))
  state-words =
      let b = best_in ss o.preferred n s.preferred v in
      let w : Words n (mask_of n) (values_of n) = words_of n (omega (arith, valid_length ss n v, s.few)) (valid-small ss n s.small v) in
      record {
        short = w.short;
        small = w.small;
        mask_is = refl;
        values-is = masked-word state n (wide_of (mask_of n)) (values_of n) (record { mask = mask_of n; words = w; wide_is = refl }) b.1 (fits_below 16 ss _ s.small b.0);
      }

  -- and the entry has the words of the node
  pub node-words : Words n (mask_in (entry_of o n).1) (values_in o.weighed (entry_of o n))
  node-words = rw (mask-back, code-back) state-words

  -- and hold it
  pub node-back : assignment_of (length ss) (mask_in (entry_of o n).1) (values_in o.weighed (entry_of o n)) ≡ n
  node-back = rw (← valid_length ss n v) (words_hold n _ _ node-words)

-- entries come in the order of their nodes' best states
pub suits_keyed : (ss : List ℕ) (o : Order) → Suits ss o → Keyed ss o
unfolding entry_of
suits_keyed ss o s m n vm vn t =
    packed-before o.weighed _ _ (mask_of m) _ _ (mask_of n) (state-figure ss o m s vm) (state-code ss o m s vm) (state-figure ss o n s vn) (state-code ss o n s vn) (mask_below m) (mask_below n)
    ((before_sooner o (best o.preferred m) (best o.preferred n)).0 t)
