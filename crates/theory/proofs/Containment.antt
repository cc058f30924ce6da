-- An assignment that is contained in a consistent one is consistent, and what a conflict is in terms of full assignments. Assumes nothing.
use mathlib.Core.Path.{◌≡◌, refl, sym, ◌∙◌}
use mathlib.Core.Logic.{◌↔◌}
use mathlib.Core.Bool.{Bool, true, false, not, ◌&&◌, ◌||◌, and-eq-true_iff, false≢true}
use mathlib.Core.Option.{Option, none, some}
use mathlib.Core.List.{List, [], ◌∷◌, ◌++◌}
use Prim.Native.Nat.{ℕ, zero, suc}
use native.Mathlib.Omega.{arith}
use borrow.Author.Tests.{eq-eqb, eqb-true}
use lib.Dec.{eqb}
use lib.ListN.{length, take, set, replicate, length-set, length-map}
use Rattle.model.specs.Sheet.{Plant, decision_sizes}
use Rattle.model.specs.Assignment.{Assignment, Fits, Valid, Takes, Agree, full}
use Rattle.model.specs.Consistency.{over_all, Consistent}
use Rattle.model.specs.Conflict.{Conflict, contains, manifests, resolves}
use Rattle.theory.proofs.Agreement.{valid_length, agree_length}

-- ---- containment

-- the parts of a test of both
both : (a b : Bool) → a ≡ true → b ≡ true → (a && b) ≡ true
both a b p q = (and-eq-true_iff a b).1 (p, q)

-- a value is contained in itself
contains_self : (o : Option ℕ) → contains o o ≡ true
contains_self none = refl
contains_self (some x) = eq-eqb x x refl

-- an assignment is contained in itself
pub manifests_self : (c : Assignment) → manifests c c ≡ true
manifests_self [] = refl
manifests_self (o ∷ c) = both (contains o o) (manifests c c) (contains_self o) (manifests_self c)

-- what no value contains, every value contains
contains-none : (o d : Option ℕ) → contains none d ≡ true → contains o d ≡ true
contains-none o none h = refl
contains-none o (some y) h = absurd (false≢true h)

-- what is contained in an assignment without one value is contained in the assignment
pub manifests-more : (c r : Assignment) (v : ℕ) → manifests (set c v none) r ≡ true → manifests c r ≡ true
manifests-more [] r v h = refl
manifests-more (o ∷ c) [] v h = refl
manifests-more (o ∷ c) (d ∷ r) zero h =
    let k = (and-eq-true_iff (contains none d) (manifests c r)).0 h in
    both (contains o d) (manifests c r) (contains-none o d k.0) k.1
manifests-more (o ∷ c) (d ∷ r) (suc v) h =
    let k = (and-eq-true_iff (contains o d) (manifests (set c v none) r)).0 h in
    both (contains o d) (manifests c r) k.0 (manifests-more c r v k.1)

-- an assignment contains what it is without one value
pub manifests-without : (c : Assignment) (v : ℕ) → manifests c (set c v none) ≡ true
manifests-without c v = manifests-more c (set c v none) v (manifests_self (set c v none))

-- values that extend an assignment contain it
pub manifests-full : (f : List ℕ) (c : Assignment) → Agree f c → manifests (full f) c ≡ true
manifests-full [] c h = refl
manifests-full (x ∷ f) [] h = refl
manifests-full (x ∷ f) (d ∷ c) h = both (contains (some x) d) (manifests (full f) c) (holds d h.0) (manifests-full f c h.1)
  where
    holds : (d : Option ℕ) → Takes x d → contains (some x) d ≡ true
    holds none t = refl
    holds (some y) t = eq-eqb x y t

-- a variable that takes a value takes what the value contains
contains-takes : (x : ℕ) (o d : Option ℕ) → contains o d ≡ true → Takes x o → Takes x d
contains-takes x o none h t = tt
contains-takes x none (some y) h t = absurd (false≢true h)
contains-takes x (some z) (some y) h t = t ∙ eqb-true z y h

-- values that extend an assignment extend what is contained in it, with the same variables m after it
pub manifests-agree : (n c m : Assignment) (f : List ℕ) → length n ≡ length c → manifests n c ≡ true → Agree f (n ++ m) → Agree f (c ++ m)
manifests-agree [] [] m f e h k = k
manifests-agree [] (d ∷ c) m f e h k = absurd (omega arith)
manifests-agree (o ∷ n) [] m f e h k = absurd (omega arith)
manifests-agree (o ∷ n) (d ∷ c) m [] e h k = absurd k
manifests-agree (o ∷ n) (d ∷ c) m (x ∷ f) e h k =
    let b = (and-eq-true_iff (contains o d) (manifests n c)).0 h in
    (contains-takes x o d b.0 k.0, manifests-agree n c m f (omega arith) b.1 k.1)

-- a full assignment that does not manifest an assignment resolves it (Definition 2: it "manifests" it if it contains it, "otherwise" it "resolves" it)
pub full_otherwise : (f : List ℕ) (c : Assignment) → resolves (full f) c ≡ not (manifests (full f) c)
full_otherwise [] c = refl
full_otherwise (x ∷ f) [] = refl
full_otherwise (x ∷ f) (none ∷ c) = full_otherwise f c
full_otherwise (x ∷ f) (some y ∷ c) = go (eqb x y) (full_otherwise f c)
  where
    go : (b : Bool) → resolves (full f) c ≡ not (manifests (full f) c) → (not b || resolves (full f) c) ≡ not (b && manifests (full f) c)
    go true ih = ih
    go false ih = refl

-- ---- the first variables

-- values of all domains fit the first ones with as many as these are
fits-first : (ss ts f : List ℕ) → Fits (ss ++ ts) f → Fits ss (take (length ss) f)
fits-first [] ts f h = tt
fits-first (s ∷ ss) ts [] h = absurd h
fits-first (s ∷ ss) ts (x ∷ f) h = (h.0, fits-first ss ts f h.1)

-- values that extend an assignment c and m after it: the first ones extend c, and all extend the first ones and m after them
restricted : (c m : Assignment) (f : List ℕ) → Agree f (c ++ m) → Agree (take (length c) f) c × Agree f (full (take (length c) f) ++ m)
restricted [] m f h = (tt, h)
restricted (o ∷ c) m [] h = absurd h
restricted (o ∷ c) m (x ∷ f) h = let r = restricted c m f h.1 in ((h.0, r.0), (refl, r.1))

-- ---- consistency

module _ (p : Plant) where
  -- an assignment that asks no more than a consistent one is consistent
  pub consistent-less : (a b : Assignment) → ((f : List ℕ) → Agree f (over_all p a) → Agree f (over_all p b)) → Consistent p a → Consistent p b
  consistent-less a b h s = (s.0, record { fits = s.1.fits; extends = h s.0 s.1.extends; holds = s.1.holds })

  -- an assignment that a consistent one manifests is consistent
  pub consistent-manifests : (n c : Assignment) → length n ≡ length c → manifests n c ≡ true → Consistent p n → Consistent p c
  consistent-manifests n c e h = consistent-less n c (λ f. manifests-agree n c (replicate (length p.states) none) f e h)

  -- a consistent assignment is consistent without one of its values
  pub consistent-without : (a : Assignment) (v : ℕ) → Consistent p a → Consistent p (set a v none)
  consistent-without a v = consistent-manifests a (set a v none) (sym (length-set a v none)) (manifests-without a v)

  -- an assignment that a consistent full one extends is consistent: a conflict holds no consistent full assignment
  pub full-extends : (f : List ℕ) (c : Assignment) → Agree f c → Consistent p (full f) → Consistent p c
  full-extends f c h = consistent-manifests (full f) c (length-map f some ∙ agree_length f c h) (manifests-full f c h)

  -- a consistent assignment has a consistent full one that extends it: what its values of all variables say of the decision variables
  pub consistent-full : (c : Assignment) → Valid (decision_sizes p) c → Consistent p c → (f : List ℕ) × Fits (decision_sizes p) f × Agree f c × Consistent p (full f)
  consistent-full c v (w, s) =
      let d = restricted c (replicate (length p.states) none) w s.extends in (
        take (length c) w,
        rw (valid_length (decision_sizes p) c v) (fits-first (decision_sizes p) p.states w s.fits),
        d.0,
        (w, record { fits = s.fits; extends = d.1; holds = s.holds }),
      )

  -- Williams and Ragno, Definition 2: a conflict is "a partial assignment .. such that every state that extends" it "is inconsistent"
  pub conflict_exactly : (c : Assignment) → Valid (decision_sizes p) c → Conflict p c ↔ ((f : List ℕ) → Fits (decision_sizes p) f → Agree f c → Consistent p (full f) → ⊥)
  conflict_exactly c v = (
    λ k f h a s. k.inconsistent (full-extends f c a s),
    λ h. record { valid = v; inconsistent = λ s. let (f, fits, agree, good) = consistent-full c v s in h f fits agree good },
  )
