-- The list of every full assignment: it has exactly the lists of values that fit the domains, each once. Assumes nothing.
use mathlib.Core.Path.{◌≡◌, refl}
use mathlib.Core.Logic.{inl, inr, ◌≢◌}
use mathlib.Core.List.{List, [], ◌∷◌, map}
use Prim.Native.Nat.{ℕ, zero, suc, ◌+◌, ◌≤◌, ◌<◌}
use native.Mathlib.Omega.{arith}
use native.Mathlib.Decide.{ℕ_discrete}
use Rattle.model.specs.Lists.{Mem, All, Pairs, values_from}
use Rattle.model.specs.Assignment.{Fits}
use Rattle.model.specs.Order.{combine, every}
use Rattle.theory.proofs.Lists.{some_map, some_left, some_right, all_map, all_join, all_any, pairs-join, pairs_map, some_image, all_image, pairs_image}

-- ---- the values of a domain

-- the n numbers from x on are at least x and below x + n
pub values-small : (x n : ℕ) → All (λ y. (x ≤ y) × (y < x + n)) (values_from x n)
values-small x zero = tt
values-small x (suc n) = (omega arith, all_map (λ y h. omega arith) (values_from (x + 1) n) (values-small (x + 1) n))

-- and all of those numbers are there
pub values-all : (x n y : ℕ) → x ≤ y → y < x + n → Mem y (values_from x n)
values-all x zero y h l = absurd (omega arith)
values-all x (suc n) y h l = elim (ℕ_discrete y x) [ yes e ↦ inl e | no d ↦ inr (values-all (x + 1) n y (omega arith) (omega arith)) ]

-- no two of them are equal
pub values-apart : (x n : ℕ) → Pairs ◌≢◌ (values_from x n)
values-apart x zero = tt
values-apart x (suc n) = (all_map (λ y h. omega arith) (values_from (x + 1) n) (values-small (x + 1) n), values-apart (x + 1) n)

-- ---- every list with a head of the one and a tail of the other

-- if the heads and the tails fit, the lists fit
combine-fits : (s : ℕ) (ss xs : List ℕ) (fs : List (List ℕ)) → All (λ x. x < s) xs → All (Fits ss) fs → All (Fits (s ∷ ss)) (combine xs fs)
combine-fits s ss [] fs a b = tt
combine-fits s ss (x ∷ xs) fs a b =
    all_join (Fits (s ∷ ss)) (map (λ f. x ∷ f) fs) (combine xs fs) (all_image _ _ fs (all_map (λ f h. (a.0, h)) fs b)) (combine-fits s ss xs fs a.1 b)

-- equal lists have equal heads and equal tails
parts-equal : {x y : ℕ} {f g : List ℕ} → x ∷ f ≡ y ∷ g → (x ≡ y) × (f ≡ g)
parts-equal e = (cc, cc)

-- a list whose head is none of the heads is not among them
head_apart : (x : ℕ) (f xs : List ℕ) (fs : List (List ℕ)) → All (λ y. x ≢ y) xs → All (λ g. (x ∷ f) ≢ g) (combine xs fs)
head_apart x f [] fs d = tt
head_apart x f (y ∷ xs) fs d =
    all_join _ (map (λ g. y ∷ g) fs) (combine xs fs) (all_image _ _ fs (all_any (λ g e. d.0 (parts-equal e).0) fs)) (head_apart x f xs fs d.1)

-- if no two heads and no two tails are equal, no two lists are
combine-apart : (xs : List ℕ) (fs : List (List ℕ)) → Pairs ◌≢◌ xs → Pairs ◌≢◌ fs → Pairs ◌≢◌ (combine xs fs)
combine-apart [] fs a b = tt
combine-apart (x ∷ xs) fs a b =
    pairs-join ◌≢◌ (map (λ f. x ∷ f) fs) (combine xs fs)
    (pairs_image _ _ fs (pairs_map (λ f g d e. d (parts-equal e).1) fs b))
    (combine-apart xs fs a.1 b)
    (all_image _ _ fs (all_any (λ f. head_apart x f xs fs a.0) fs))

-- a list whose head is among the heads and whose tail is among the tails is there
combine-all : (x : ℕ) (f xs : List ℕ) (fs : List (List ℕ)) → Mem x xs → Mem f fs → Mem (x ∷ f) (combine xs fs)
combine-all x f [] fs m k = absurd m
combine-all x f (y ∷ xs) fs (inl e) k = some_left _ (map (λ g. y ∷ g) fs) (combine xs fs) (some_image _ _ fs (some_map (λ g d. cc) fs k))
combine-all x f (y ∷ xs) fs (inr m) k = some_right _ (map (λ g. y ∷ g) fs) (combine xs fs) (combine-all x f xs fs m k)

-- ---- every full assignment

-- each list of `every` fits the domains
pub every-fits : (ss : List ℕ) → All (Fits ss) (every ss)
every-fits [] = (tt, tt)
every-fits (s ∷ ss) = combine-fits s ss (values_from 0 s) (every ss) (all_map (λ x h. omega arith) (values_from 0 s) (values-small 0 s)) (every-fits ss)

-- each list that fits the domains is there
pub every-all : (ss f : List ℕ) → Fits ss f → Mem f (every ss)
every-all [] [] h = inl refl
every-all [] (x ∷ f) h = absurd h
every-all (s ∷ ss) [] h = absurd h
every-all (s ∷ ss) (x ∷ f) h = combine-all x f (values_from 0 s) (every ss) (values-all 0 s x (omega arith) (omega arith)) (every-all ss f h.1)

-- no list is there twice
pub every-apart : (ss : List ℕ) → Pairs ◌≢◌ (every ss)
every-apart [] = (tt, tt)
every-apart (s ∷ ss) = combine-apart (values_from 0 s) (every ss) (values-apart 0 s) (every-apart ss)
