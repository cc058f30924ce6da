-- The figure of a full assignment, of either edition: one variable's part taken out and another put in, bounds, and the figure of a code by a table. Assumes nothing.
use mathlib.Core.Path.{◌≡◌, refl, sym, ap, ap₂, ◌∙◌}
use mathlib.Core.Bool.{Bool, true, false}
use mathlib.Core.List.{List, [], ◌∷◌, ◌++◌, map}
use Prim.Native.Nat.{ℕ, zero, suc, ◌-◌, ◌*◌, ◌^◌, ◌≤◌, ◌<◌}
use native.Mathlib.Omega.{arith}
use native.Mathlib.Nat.{mul_left_comm, mul-pos, mul-lt-mul_of_pos_right, mul-le-mul, mul-le-mul_left, mul_comm, pow-suc, one-le-pow, suc-mul}
use lib.ListN.{length, get_or, set, drop, replicate, length-map, get_or-append}
use Rattle.model.specs.Lists.{All}
use Rattle.model.specs.Digits.{digits}
use Rattle.model.specs.Assignment.{Fits, code}
use Rattle.model.specs.Order.{join, unit, figure_of, cost, chance}
use Rattle.theory.specs.Digits.{Below}
use Rattle.theory.specs.Words.{sixteens, HasRows}
use Rattle.theory.specs.Value.{Better}
use Rattle.theory.proofs.Lists.{all-at}
use Rattle.theory.proofs.Digits.{digits_number}
use Rattle.theory.proofs.Agreement.{fits_length}

-- ---- one variable's part

-- figures can be joined in any order
join-swap : (w : Bool) (a b c : ℕ) → join w a (join w b c) ≡ join w b (join w a c)
join-swap false a b c = omega arith
join-swap true a b c = mul_left_comm a b c

-- the figure of all variables but one
abbrev pub others : Bool → List (List ℕ) → List ℕ → ℕ → ℕ
others w [] f v = unit w
others w (row ∷ rows) [] v = unit w
others w (row ∷ rows) (x ∷ f) zero = figure_of w rows f
others w (row ∷ rows) (x ∷ f) (suc v) = join w (get_or row x 0) (others w rows f v)

module _ (w : Bool) where
  -- the whole is one variable's part joined with the others
  pub figure-split : (rows : List (List ℕ)) (f : List ℕ) (v : ℕ) → length f ≡ length rows → v < length rows
      → figure_of w rows f ≡ join w (get_or (get_or rows v []) (get_or f v 0) 0) (others w rows f v)
  figure-split [] f v e l = absurd (omega arith)
  figure-split (row ∷ rows) [] v e l = absurd (omega arith)
  figure-split (row ∷ rows) (x ∷ f) zero e l = refl
  figure-split (row ∷ rows) (x ∷ f) (suc v) e l =
      ap (join w (get_or row x 0)) (figure-split rows f v (omega arith) (omega arith)) ∙ join-swap w (get_or row x 0) (get_or (get_or rows v []) (get_or f v 0) 0) (others w rows f v)

  -- a variable's value is changed: its part is another, and the others stay
  pub figure-set : (rows : List (List ℕ)) (f : List ℕ) (v x : ℕ) → length f ≡ length rows → v < length rows
      → figure_of w rows (set f v x) ≡ join w (get_or (get_or rows v []) x 0) (others w rows f v)
  figure-set [] f v x e l = absurd (omega arith)
  figure-set (row ∷ rows) [] v x e l = absurd (omega arith)
  figure-set (row ∷ rows) (y ∷ f) zero x e l = refl
  figure-set (row ∷ rows) (y ∷ f) (suc v) x e l =
      ap (join w (get_or row y 0)) (figure-set rows f v x (omega arith) (omega arith)) ∙ join-swap w (get_or row y 0) (get_or (get_or rows v []) x 0) (others w rows f v)

-- ---- weights from 1 on

-- no weight is zero
abbrev pub NoZero : List (List ℕ) → Type 0
NoZero = All (All (λ c. 1 ≤ c))

-- a product of such weights is not zero
pub chance-positive : (rows : List (List ℕ)) (f : List ℕ) → NoZero rows → Fits (map length rows) f → 0 < chance rows f
chance-positive [] f z h = omega arith
chance-positive (row ∷ rows) [] z h = absurd h
chance-positive (row ∷ rows) (x ∷ f) z h = mul-pos (all-at 0 _ row z.0 x h.0) (chance-positive rows f z.1 h.1)

pub others-positive : (rows : List (List ℕ)) (f : List ℕ) (v : ℕ) → NoZero rows → Fits (map length rows) f → 0 < others true rows f v
others-positive [] f v z h = omega arith
others-positive (row ∷ rows) [] v z h = absurd h
others-positive (row ∷ rows) (x ∷ f) zero z h = chance-positive rows f z.1 h.1
others-positive (row ∷ rows) (x ∷ f) (suc v) z h = mul-pos (all-at 0 _ row z.0 x h.0) (others-positive rows f v z.1 h.1)

-- a better part betters the whole; of products only where the others are not zero, which is why a weight of zero is refused
join-better : (w : Bool) (a b c : ℕ) → (w ≡ true → 0 < c) → Better w a b → Better w (join w a c) (join w b c)
join-better false a b c z h = omega arith
join-better true a b c z h = mul-lt-mul_of_pos_right h (z refl)

module _ (w : Bool) (rows : List (List ℕ)) (f : List ℕ) (v x : ℕ) (long : length f ≡ length rows) (l : v < length rows) where
  -- bettering one variable betters the whole
  pub figure-better : (w ≡ true → 0 < others true rows f v) → Better w (get_or (get_or rows v []) x 0) (get_or (get_or rows v []) (get_or f v 0) 0)
      → Better w (figure_of w rows (set f v x)) (figure_of w rows f)
  figure-better z h =
      rw (figure-set w rows f v x long l, figure-split w rows f v long l)
      (join-better w (get_or (get_or rows v []) x 0) (get_or (get_or rows v []) (get_or f v 0) 0) (others w rows f v) (λ e. subject w e z) h)
    where
      subject : (u : Bool) → u ≡ true → (u ≡ true → 0 < others true rows f v) → 0 < others u rows f v
      subject u e z = rw e (z e)

  -- and a part that is as good leaves it as it is
  pub figure-same : get_or (get_or rows v []) x 0 ≡ get_or (get_or rows v []) (get_or f v 0) 0 → figure_of w rows (set f v x) ≡ figure_of w rows f
  figure-same e = figure-set w rows f v x long l ∙ ap (λ (c : ℕ). join w c (others w rows f v)) e ∙ sym (figure-split w rows f v long l)

-- ---- bounds

-- no figure of a row is above m
abbrev pub AtMost : ℕ → List (List ℕ) → Type 0
AtMost m = All (All (λ c. c ≤ m))

-- nor is what is read behind its end
row-most : (m : ℕ) (row : List ℕ) (x : ℕ) → All (λ c. c ≤ m) row → get_or row x 0 ≤ m
row-most m [] x z = omega arith
row-most m (c ∷ row) zero z = z.0
row-most m (c ∷ row) (suc x) z = row-most m row x z.1

-- a sum of costs
pub cost-most : (m : ℕ) (rows : List (List ℕ)) (f : List ℕ) → AtMost m rows → cost rows f ≤ length rows * m
cost-most m [] f z = omega arith
cost-most m (row ∷ rows) [] z = omega arith
cost-most m (row ∷ rows) (x ∷ f) z =
    omega (arith, suc-mul (length rows) m, row-most m row x z.0, cost-most m rows f z.1)

-- a product of weights
pub chance-most : (m : ℕ) (rows : List (List ℕ)) (f : List ℕ) → 1 ≤ m → AtMost m rows → chance rows f ≤ m ^ length rows
chance-most m [] f p z = one-le-pow 0 m p
chance-most m (row ∷ rows) [] p z = one-le-pow (suc (length rows)) m p
chance-most m (row ∷ rows) (x ∷ f) p z =
    rw (pow-suc m (length rows), mul_comm (m ^ length rows) m) (mul-le-mul (row-most m row x z.0) (chance-most m rows f p z.1))

-- and of all weights but one
pub others-most : (m : ℕ) (rows : List (List ℕ)) (f : List ℕ) (v : ℕ) → 1 ≤ m → AtMost m rows → length f ≡ length rows → v < length rows → m * others true rows f v ≤ m ^ length rows
others-most m [] f v p z e l = absurd (omega arith)
others-most m (row ∷ rows) [] v p z e l = absurd (omega arith)
others-most m (row ∷ rows) (x ∷ f) zero p z e l = rw (pow-suc m (length rows), mul_comm (m ^ length rows) m) (mul-le-mul_left m (chance-most m rows f p z.1))
others-most m (row ∷ rows) (x ∷ f) (suc v) p z e l =
    rw (pow-suc m (length rows), mul_comm (m ^ length rows) m, mul_left_comm m (get_or row x 0) (others true rows f v))
    (mul-le-mul (row-most m row x z.0) (others-most m rows f v p z.1 (omega arith) (omega arith)))

-- ---- a table with sixteen figures for each variable

-- values within domains of at most b values are digits of base b
pub fits_below : (b : ℕ) (ss f : List ℕ) → All (λ s. s ≤ b) ss → Fits ss f → Below b f
fits_below b [] [] z h = tt
fits_below b [] (x ∷ f) z h = absurd h
fits_below b (s ∷ ss) [] z h = absurd h
fits_below b (s ∷ ss) (x ∷ f) z h = (omega arith, fits_below b ss f z.1 h.1)

-- within its rows, and whatever follows the values, a table's figures are the rows' figures
table-figure : (w : Bool) (rows : List (List ℕ)) (t f zs : List ℕ) → HasRows rows t → Fits (map length rows) f → figure_of w (sixteens (length rows) t) (f ++ zs) ≡ figure_of w rows f
table-figure w [] t f zs r h = refl
table-figure w (row ∷ rows) t [] zs r h = absurd h
table-figure w (row ∷ rows) t (x ∷ f) zs r h =
    ap₂ (join w) (ap (λ (l : List ℕ). get_or l x 0) r.0.1 ∙ get_or-append row r.0.0 0 x h.0) (table-figure w rows (drop 16 t) f zs r.1 h.1)

-- the figure of a code by a table is the figure of the values that it codes
pub figure_of_code : (w : Bool) (rows : List (List ℕ)) (t f : List ℕ) → length rows ≤ 16 → All (λ s. s ≤ 16) (map length rows) → HasRows rows t → Fits (map length rows) f
    → figure_of w (sixteens (length rows) t) (digits 16 16 (code f)) ≡ figure_of w rows f
figure_of_code w rows t f l z r h =
    let n = fits_length (map length rows) f h ∙ length-map rows length in
    rw (digits_number 16 16 f (omega arith) (fits_below 16 (map length rows) f z h) (omega arith)) (table-figure w rows t f (replicate (16 - length f) 0) r h)
