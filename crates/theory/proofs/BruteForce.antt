-- Trying all values of all variables decides whether an assignment is consistent. Assumes nothing.
use mathlib.Core.Path.{◌≡◌, refl}
use mathlib.Core.Logic.{◌⊎◌, inl, inr, ◌↔◌}
use mathlib.Core.Bool.{Bool, true, false, ◌&&◌, and-eq-true_iff, false≢true}
use mathlib.Core.Option.{Option, none, some}
use mathlib.Core.List.{List, [], ◌∷◌}
use Prim.Native.Nat.{ℕ}
use borrow.Author.Tests.{eq-eqb, eqb-true}
use Rattle.model.specs.Lists.{Some, any_of}
use Rattle.model.specs.Sheet.{Plant, sizes}
use Rattle.model.specs.Assignment.{Assignment, Fits, Takes, Agree}
use Rattle.model.specs.Consistency.{all_hold, over_all, Consistent}
use Rattle.model.specs.Order.{every, takes, agrees, is_consistent}
use Rattle.theory.proofs.Lists.{some_map, meet}
use Rattle.theory.proofs.Every.{every-fits, every-all}

-- "any" passes exactly where some member passes
pub any_exactly : {A : Type 0} (test : A → Bool) (xs : List A) → (any_of test xs ≡ true) ↔ Some (λ x. test x ≡ true) xs
any_exactly test [] = (false≢true, λ s. absurd s)
any_exactly test (x ∷ xs) = go (test x) (any_exactly test xs)
  where
    go : (b : Bool) → (any_of test xs ≡ true) ↔ Some (λ x. test x ≡ true) xs → (elim b [ true ↦ true | false ↦ any_of test xs ] ≡ true) ↔ ((b ≡ true) ⊎ Some (λ x. test x ≡ true) xs)
    go true ih = (inl, λ s. refl)
    go false ih = ((λ e. inr (ih.0 e)), λ s. elim s [ inl e ↦ absurd (false≢true e) | inr t ↦ ih.1 t ])

-- the test of a value is its meaning
takes_exactly : (x : ℕ) (o : Option ℕ) → (takes x o ≡ true) ↔ Takes x o
takes_exactly x none = ((λ e. tt), λ t. refl)
takes_exactly x (some y) = (eqb-true x y, eq-eqb x y)

-- the test of values is its meaning
pub agrees_exactly : (f : List ℕ) (a : Assignment) → (agrees f a ≡ true) ↔ Agree f a
agrees_exactly [] [] = ((λ e. tt), λ t. refl)
agrees_exactly [] (o ∷ a) = (false≢true, λ t. absurd t)
agrees_exactly (x ∷ f) [] = (false≢true, λ t. absurd t)
agrees_exactly (x ∷ f) (o ∷ a) =
    let b = and-eq-true_iff (takes x o) (agrees f a) in
    let h = takes_exactly x o in
    let t = agrees_exactly f a in
    ((λ e. let k = b.0 e in (h.0 k.0, t.0 k.1)), λ k. b.1 (h.1 k.0, t.1 k.1))

-- an assignment passes the test by brute force exactly where it is consistent
pub is-consistent : (p : Plant) (a : Assignment) → (is_consistent p a ≡ true) ↔ Consistent p a
unfolding is_consistent
is-consistent p a = (found, there)
  where
    passes : List ℕ → Bool
    passes f = agrees f (over_all p a) && all_hold f p.clauses

    found : any_of passes (every (sizes p)) ≡ true → Consistent p a
    found e =
        let m = meet (Fits (sizes p)) (λ f. passes f ≡ true) (every (sizes p)) (every-fits (sizes p)) ((any_exactly passes (every (sizes p))).0 e) in
        let k = (and-eq-true_iff (agrees m.0 (over_all p a)) (all_hold m.0 p.clauses)).0 m.2 in
        (m.0, record { fits = m.1; extends = (agrees_exactly m.0 (over_all p a)).0 k.0; holds = k.1 })

    there : Consistent p a → any_of passes (every (sizes p)) ≡ true
    there s =
        let f = s.0 in
        let k : passes f ≡ true = (and-eq-true_iff (agrees f (over_all p a)) (all_hold f p.clauses)).1 ((agrees_exactly f (over_all p a)).1 s.1.extends, s.1.holds) in
        (any_exactly passes (every (sizes p))).1 (some_map (λ g e. rw e at k) (every (sizes p)) (every-all (sizes p) f s.1.fits))
