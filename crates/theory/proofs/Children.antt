-- The children of a node by place, as a loop over the variables has them, and their best states. Assumes nothing.
use mathlib.Core.Path.{◌≡◌, refl, sym, ap}
use mathlib.Core.Bool.{Bool, true, false, not, false≢true}
use mathlib.Core.Option.{none, some}
use mathlib.Core.List.{List, [], ◌∷◌, ◌++◌, map, map-map, map-id, map-append, append_assoc}
use Prim.Native.Nat.{ℕ, zero, suc, ◌+◌, ◌≤◌, ◌<◌}
use native.Mathlib.Omega.{arith}
use native.Mathlib.Numerals.{add-one}
use lib.Dec.{eqb}
use lib.ListN.{length, get_or, set, take, drop, drop_of_length-le}
use lib.Seq.{drop-cons, take-suc, set_split, take-suc-set, drop-set-lt}
use borrow.Author.Tests.{ne_eqb}
use Rattle.model.specs.Lists.{All, keep_if, keep, values_from}
use Rattle.model.specs.Assignment.{Assignment}
use Rattle.model.specs.Order.{value_or, best}
use Rattle.model.specs.Listing.{other_values, resolving, branching}
use Rattle.theory.specs.Nodes.{Filled}

-- ---- lists

-- what holds of all members, and of what is read past them, holds at each place
pub all-at : {A : Type 0} (P : A → Type 0) (d : A) → P d → (xs : List A) (v : ℕ) → All P xs → P (get_or xs v d)
all-at P d h [] v a = h
all-at P d h (x ∷ xs) zero a = a.0
all-at P d h (x ∷ xs) (suc v) a = all-at P d h xs v a.1

-- of two lists in a row as much is kept as of each
pub keep_join : {A : Type 0} (test : A → Bool) (xs ys : List A) → keep test (xs ++ ys) ≡ keep test xs ++ keep test ys
keep_join test [] ys = refl
keep_join {A} test (x ∷ xs) ys = go (test x) (keep test (xs ++ ys)) (keep test xs) (keep_join test xs ys)
  where
    go : (b : Bool) (zs ws : List A) → zs ≡ ws ++ keep test ys → keep_if b x zs ≡ keep_if b x ws ++ keep test ys
    go true zs ws e = cc
    go false zs ws e = e

-- values in a row
pub values_join : (x a y b c : ℕ) → y ≡ x + a → c ≡ a + b → values_from x c ≡ values_from x a ++ values_from y b
values_join x zero y b c e f = let g : y ≡ x = omega arith in let h : c ≡ b = omega arith in rw (g, h)
values_join x (suc a) y b zero e f = absurd (omega arith)
values_join x (suc a) y b (suc c) e f = ap (λ (l : List ℕ). x ∷ l) (values_join (x + 1) a y b c (omega arith) (omega arith))

-- a value beyond the domain leaves none of it off
pub all_others : (y s : ℕ) → s ≤ y → other_values y s ≡ values_from 0 s
all_others y s h = go 0 s (omega arith)
  where
    go : (x n : ℕ) → x + n ≤ y → keep (λ z. not (eqb z y)) (values_from x n) ≡ values_from x n
    go x zero h = refl
    go x (suc n) h = rw (ne_eqb x y (omega arith)) (ap (λ (l : List ℕ). x ∷ l) (go (x + 1) n (omega arith)))

-- ---- step 5

-- where the first v variables are assigned and v is not, v is given each value
pub branching-at : (ss : List ℕ) (n : Assignment) (v : ℕ) → length n ≡ length ss → v < length ss → Filled v n → get_or n v none ≡ none
    → branching ss n ≡ map (λ x. set n v (some x)) (values_from 0 (get_or ss v 0))
branching-at [] n v e l h f = absurd (omega arith)
branching-at (s ∷ ss) [] v e l h f = absurd (omega arith)
branching-at (s ∷ ss) (none ∷ n) zero e l h f = refl
branching-at (s ∷ ss) (some x ∷ n) zero e l h f = let z : ◌≡◌ {A = ℕ} 0 1 = cc in absurd (omega arith)
branching-at (s ∷ ss) (none ∷ n) (suc v) e l h f = absurd (false≢true h.0)
branching-at (s ∷ ss) (some x ∷ n) (suc v) e l h f = rw (branching-at ss n v (omega arith) (omega arith) h.1 f) (simp map-map)

-- where all are assigned there are no children
pub branching-full : (ss : List ℕ) (n : Assignment) → length n ≡ length ss → Filled (length n) n → branching ss n ≡ []
branching-full [] n e h = refl
branching-full (s ∷ ss) [] e h = refl
branching-full (s ∷ ss) (none ∷ n) e h = absurd (false≢true h.0)
branching-full (s ∷ ss) (some x ∷ n) e h = rw (branching-full ss n (omega arith) h.1) refl

-- ---- step 4

-- the children that resolve a conflict from variable v on, of a node that has what the variables before v are to have
abbrev pub resolving_from : List ℕ → Assignment → Assignment → ℕ → List Assignment
resolving_from ss n c v = map (λ m. take v n ++ m) (resolving (drop v ss) (drop v n) (drop v c))

-- from the first on they are all
pub resolving-start : (ss : List ℕ) (n c : Assignment) → resolving ss n c ≡ resolving_from ss n c 0
resolving-start ss n c = sym (map-id (resolving ss n c))

-- and after the last there are none
pub resolving-end : (ss : List ℕ) (n c : Assignment) (v : ℕ) → length ss ≤ v → resolving_from ss n c v ≡ []
resolving-end ss n c v h = rw (drop_of_length-le ss {i = v} h)

module _ (ss : List ℕ) (n c : Assignment) (v : ℕ) (hs : v < length ss) (hn : v < length n) (hc : v < length c) where
  -- the variable is assigned
  pub resolving-held : (x : ℕ) → get_or n v none ≡ some x → resolving_from ss n c v ≡ resolving_from ss n c (v + 1)
  resolving-held x e = rw (add-one v, drop-cons ss v 0, drop-cons n v none, drop-cons c v none, take-suc n v none, e) (simp (map-map, append_assoc))

  -- it is no member of the conflict
  pub resolving-free : get_or n v none ≡ none → get_or c v none ≡ none → resolving_from ss n c v ≡ resolving_from ss n c (v + 1)
  resolving-free e f = rw (add-one v, drop-cons ss v 0, drop-cons n v none, drop-cons c v none, take-suc n v none, e, f) (simp (map-map, append_assoc))

  -- it is an unassigned member
  pub resolving-here : (y : ℕ) → get_or n v none ≡ none → get_or c v none ≡ some y
      → resolving_from ss n c v ≡ map (λ x. set n v (some x)) (other_values y (get_or ss v 0)) ++ resolving_from ss (set n v (some y)) c (v + 1)
  resolving-here y e f = rw (add-one v, drop-cons ss v 0, drop-cons n v none, drop-cons c v none, e, f, take-suc-set n v (some y), drop-set-lt (suc v) n v (some y) (omega arith))
      (simp (map-append, map-map, append_assoc, set_split, hn))

-- ---- best states

-- the best state at an unassigned variable has the preferred value
pub best-at : (ps : List ℕ) (n : Assignment) (v : ℕ) → length ps ≡ length n → v < length n → get_or n v none ≡ none → get_or (best ps n) v 0 ≡ get_or ps v 0
best-at [] n v e l f = absurd (omega arith)
best-at (p ∷ ps) [] v e l f = absurd (omega arith)
best-at (p ∷ ps) (o ∷ n) zero e l f = rw f
best-at (p ∷ ps) (o ∷ n) (suc v) e l f = best-at ps n v (omega arith) (omega arith) f

-- a variable is given a value: so it is in the best state
pub best-set : (ps : List ℕ) (n : Assignment) (v x : ℕ) → best ps (set n v (some x)) ≡ set (best ps n) v x
best-set [] n v x = refl
best-set (p ∷ ps) [] v x = refl
best-set (p ∷ ps) (o ∷ n) zero x = refl
best-set (p ∷ ps) (o ∷ n) (suc v) x = ap (λ (f : List ℕ). value_or p o ∷ f) (best-set ps n v x)
