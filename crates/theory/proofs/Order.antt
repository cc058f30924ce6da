-- The order by figure and then by code, and that it is lawful for either edition. Assumes nothing.
use mathlib.Core.Path.{◌≡◌, refl, sym, ◌∙◌}
use mathlib.Core.Logic.{◌⊎◌, inl, inr, ◌↔◌}
use mathlib.Core.Bool.{Bool, true, false, ◌&&◌, ◌||◌, or-true, false≢true}
use mathlib.Core.List.{List, [], ◌∷◌, map}
use Prim.Native.Nat.{ℕ, ◌-◌, ◌^◌, ◌≤◌, ◌<◌}
use native.Mathlib.Omega.{arith}
use native.Mathlib.Nat.{suc-mul, mul-le-mul_right, one-le-pow}
use lib.Dec.{T, ltb, eqb}
use lib.ListN.{length, get_or, set, length-map, get_or-map}
use lib.Seq.{set-get_or}
use borrow.Author.Tests.{ltb-true, eqb-true, lt-ltb, eq-eqb}
use Rattle.model.specs.Lists.{All}
use Rattle.model.specs.Sheet.{Plant, edition_of, decision_sizes}
use Rattle.model.specs.Assignment.{Fits, code}
use Rattle.model.specs.Order.{Order, better, figure_of, before, best_value, order_of, Before}
use Rattle.theory.specs.Digits.{Lex}
use Rattle.theory.specs.Plant.{Accepted}
use Rattle.theory.specs.Order.{Lawful}
use Rattle.theory.specs.Value.{Better, BestValue}
use Rattle.theory.proofs.Lists.{all_map, all_image}
use Rattle.theory.proofs.Digits.{lex_exactly, number_injective, number-set, trichotomy}
use Rattle.theory.proofs.Agreement.{fits_length, fits-at}
use Rattle.theory.proofs.Figures.{fits_below, others, others-positive, figure-better, figure-same}
use Rattle.theory.proofs.Value.{better-true, value-best, values-best, edition-few}

-- ---- the code

module _ (ss f g : List ℕ) (short : length ss ≤ 16) (small : All (λ s. s ≤ 16) ss) (h : Fits ss f) (k : Fits ss g) where
  -- codes are ordered as the values are, from variable 0 on
  pub code_lex : (code f < code g) ↔ Lex f g
  code_lex = lex_exactly 16 16 f g (omega arith) (fits_below 16 ss f small h) (fits_below 16 ss g small k) (fits_length ss f h ∙ sym (fits_length ss g k)) (omega (arith, fits_length ss f h))

  -- full assignments with one code are one
  pub code_injective : code f ≡ code g → f ≡ g
  code_injective = number_injective 16 16 f g (omega arith) (fits_below 16 ss f small h) (fits_below 16 ss g small k) (fits_length ss f h ∙ sym (fits_length ss g k)) (omega (arith, fits_length ss f h))

-- ---- figure, then code

-- f has the better figure, or the same and the lower code
abbrev pub Sooner : Order → List ℕ → List ℕ → Type 0
Sooner o f g = Better o.weighed (o.figure f) (o.figure g) ⊎ ((o.figure f ≡ o.figure g) × (code f < code g))

-- the test of two figures holds where one is better
is-better : (w : Bool) (a b : ℕ) → Better w a b → better w a b ≡ true
is-better false a b h = lt-ltb a b h
is-better true a b h = lt-ltb b a h

-- the test of the order says that exactly
pub before_exactly : (o : Order) (f g : List ℕ) → (before o f g ≡ true) ↔ Sooner o f g
unfolding before
before_exactly o f g = (to (better w x y) (eqb x y) (ltb (code f) (code g)) (better-true w x y) (eqb-true _ _) (ltb-true _ _), from)
  where
    w : Bool
    w = o.weighed

    x : ℕ
    x = o.figure f

    y : ℕ
    y = o.figure g

    to : (s t u : Bool) → (s ≡ true → Better o.weighed (o.figure f) (o.figure g)) → (t ≡ true → o.figure f ≡ o.figure g) → (u ≡ true → code f < code g) → (s || (t && u)) ≡ true → Sooner o f g
    to true t u a b c e = inl (a refl)
    to false true true a b c e = inr (b refl, c refl)
    to false true false a b c e = absurd (false≢true e)
    to false false u a b c e = absurd (false≢true e)

    from : Sooner o f g → (better o.weighed (o.figure f) (o.figure g) || (eqb (o.figure f) (o.figure g) && ltb (code f) (code g))) ≡ true
    from (inl l) = rw (is-better o.weighed (o.figure f) (o.figure g) l)
    from (inr h) = rw (eq-eqb (o.figure f) (o.figure g) h.0, lt-ltb (code f) (code g) h.1) (or-true (better o.weighed (o.figure f) (o.figure g)))

-- a test that holds is true
pub holds : (b : Bool) → T b ↔ (b ≡ true)
holds true = ((λ t. refl), (λ e. tt))
holds false = ((λ t. absurd t), (λ e. absurd (false≢true e)))

-- f comes before g exactly if it has the better figure, or the same and the lower code
pub before_sooner : (o : Order) (f g : List ℕ) → Before o f g ↔ Sooner o f g
before_sooner o f g = ((λ t. (before_exactly o f g).0 ((holds (before o f g)).0 t)), (λ s. (holds (before o f g)).1 ((before_exactly o f g).1 s)))

-- ---- comparisons of figures

-- no figure is better than itself
same_no_better : (w : Bool) (a : ℕ) → Better w a a → ⊥
same_no_better false a h = omega arith
same_no_better true a h = omega arith

better_trans : (w : Bool) (a b c : ℕ) → Better w a b → Better w b c → Better w a c
better_trans false a b c h k = omega arith
better_trans true a b c h k = omega arith

-- of two figures one is better, or they are equal
pub better-total : (w : Bool) (a b : ℕ) → Better w a b ⊎ ((a ≡ b) ⊎ Better w b a)
better-total false a b = trichotomy a b
better-total true a b = elim (trichotomy b a) [ inl l ↦ inl l | inr m ↦ inr (elim m [ inl e ↦ inl (sym e) | inr l ↦ inr l ]) ]

module _ (o : Order) where
  -- nothing comes before itself
  irreflexive : (f : List ℕ) → Sooner o f f → ⊥
  irreflexive f (inl l) = same_no_better o.weighed (o.figure f) l
  irreflexive f (inr h) = omega arith

  -- what comes before something comes before what that comes before
  transitive : (f g h : List ℕ) → Sooner o f g → Sooner o g h → Sooner o f h
  transitive f g h (inl a) (inl b) = inl (better_trans o.weighed (o.figure f) (o.figure g) (o.figure h) a b)
  transitive f g h (inl a) (inr b) = inl (rw b.0 at a)
  transitive f g h (inr a) (inl b) = inl (rw a.0 b)
  transitive f g h (inr a) (inr b) = inr (a.0 ∙ b.0, omega arith)

  -- of two lists one comes first, or they have one code
  total : (f g : List ℕ) → Sooner o f g ⊎ ((code f ≡ code g) ⊎ Sooner o g f)
  total f g = go (better-total o.weighed (o.figure f) (o.figure g)) (trichotomy (code f) (code g))
    where
      go : Better o.weighed (o.figure f) (o.figure g) ⊎ ((o.figure f ≡ o.figure g) ⊎ Better o.weighed (o.figure g) (o.figure f)) → (code f < code g) ⊎ ((code f ≡ code g) ⊎ (code g < code f))
          → Sooner o f g ⊎ ((code f ≡ code g) ⊎ Sooner o g f)
      go (inl l) t = inl (inl l)
      go (inr (inr l)) t = inr (inr (inl l))
      go (inr (inl e)) (inl l) = inl (inr (e, l))
      go (inr (inl e)) (inr (inl d)) = inr (inl d)
      go (inr (inl e)) (inr (inr l)) = inr (inr (inr (sym e, l)))

-- ---- one variable at its best value

-- the best values are within the domains
best-fits : (w : Bool) (rows : List (List ℕ)) → All (λ row. 0 < length row) rows → Fits (map length rows) (map (best_value w) rows)
best-fits w [] z = tt
best-fits w (row ∷ rows) z = ((value-best w row z.0).within, best-fits w rows z.1)

-- a lower value of a variable makes the code lower
lower-code : (f : List ℕ) (v q : ℕ) → length f ≤ 16 → v < length f → q < get_or f v 0 → code (set f v q) < code f
lower-code f v q s l h =
    let w : ℕ = 16 ^ (15 - v) in
    omega (arith, number-set 16 16 v (15 - v) q f (omega arith) l, mul-le-mul_right w h, suc-mul q w, one-le-pow (15 - v) 16 (omega arith))

-- to give a variable its best value betters the whole, or changes nothing
betters : (o : Order) (rows : List (List ℕ)) → o.figure ≡ figure_of o.weighed rows → (f : List ℕ) (v q : ℕ) → length rows ≤ 16 → Fits (map length rows) f → v < length rows
    → (o.weighed ≡ true → 0 < others true rows f v) → BestValue (Better o.weighed) (get_or rows v []) q → (set f v q ≡ f) ⊎ Sooner o (set f v q) f
betters o rows is f v q s h l z best = go (better-total o.weighed (get_or row q 0) (get_or row (get_or f v 0) 0)) (trichotomy q (get_or f v 0))
  where
    row : List ℕ
    row = get_or rows v []

    long : length f ≡ length rows
    long = fits_length (map length rows) f h ∙ length-map rows length

    within : get_or f v 0 < length (get_or rows v [])
    within = rw (get_or-map length rows v []) at (fits-at (map length rows) f v h (rw (length-map rows length) l))

    Worth : ℕ → ℕ → Type 0
    Worth x y = Better o.weighed (get_or (get_or rows v []) x 0) (get_or (get_or rows v []) y 0)

    go : Worth q (get_or f v 0) ⊎ ((get_or (get_or rows v []) q 0 ≡ get_or (get_or rows v []) (get_or f v 0) 0) ⊎ Worth (get_or f v 0) q)
        → (q < get_or f v 0) ⊎ ((q ≡ get_or f v 0) ⊎ (get_or f v 0 < q)) → (set f v q ≡ f) ⊎ Sooner o (set f v q) f
    go (inl b) t = inr (inl (rw is (figure-better o.weighed rows f v q long l z b)))
    go (inr (inr b)) t = absurd (best.none-better (get_or f v 0) within b)
    go (inr (inl e)) (inl m) = inr (inr (rw is (figure-same o.weighed rows f v q long l e), lower-code f v q (omega (arith, long)) (omega (arith, long)) m))
    go (inr (inl e)) (inr (inl d)) = inl (rw d (set-get_or f v 0))
    go (inr (inl e)) (inr (inr m)) = absurd (same_no_better o.weighed (get_or (get_or rows v []) (get_or f v 0) 0) (rw e at (best.lower-worse (get_or f v 0) m)))

-- ---- the order of a plant

-- the order by figure and then by code is lawful for the plants of either edition, also where there is no decision variable
pub edition-lawful : (w : Bool) (p : Plant) → Accepted (edition_of w) p → Lawful (decision_sizes p) (order_of (edition_of w) p)
unfolding order_of
edition-lawful w p a = record {
  irreflexive = λ f t. irreflexive o f ((before_sooner o f f).0 t);
  transitive = λ f g h t u. (before_sooner o f h).1 (transitive o f g h ((before_sooner o f g).0 t) ((before_sooner o g h).0 u));
  total = λ f g h k. elim (total o f g) [
    | inl t ↦ inl ((before_sooner o f g).1 t)
    | inr t ↦ elim t [ inl e ↦ inr (inl (code_injective ss f g few small h k e)) | inr u ↦ inr (inr ((before_sooner o g f).1 u)) ]
  ];
  preferred = best-fits (edition_of w).weighed rows filled;
  betters = λ f h v l.
      let k : v < length rows = rw (length-map rows length) at l in
      elim (betters o rows refl f v _ (edition-few w p a) h k (λ e. others-positive rows f v (a.weights e) h) (values-best (edition_of w).weighed rows filled v k)) [ inl e ↦ inl e | inr t ↦ inr ((before_sooner o _ f).1 t) ];
}
  where
    o : Order
    o = order_of (edition_of w) p

    rows : List (List ℕ)
    rows = p.costs

    ss : List ℕ
    ss = decision_sizes p

    few : length ss ≤ 16
    few = rw (length-map rows length) (edition-few w p a)

    filled : All (λ row. 0 < length row) rows
    filled = all_map (λ row z. z.0) rows a.decision_sizes_lem

    small : All (λ s. s ≤ 16) ss
    small = all_image length _ rows (all_map (λ row z. z.1) rows a.decision_sizes_lem)
