-- Laws of permutations of entries, each by sums: a swap of two places, an entry taken out, what a test keeps, members. Assumes nothing.
use mathlib.Core.Path.{◌≡◌, refl, sym, ap, ap₂, ◌∙◌}
use mathlib.Core.Logic.{inl, inr}
use mathlib.Core.Bool.{Bool, true, false, ◌&&◌}
use mathlib.Core.List.{List, [], ◌∷◌, map}
use Prim.Native.Nat.{ℕ, zero, suc, ◌+◌, ◌-◌, ◌≤◌, ◌<◌}
use native.Mathlib.Omega.{arith}
use lib.Dec.{eqb}
use lib.ListN.{length, set, take}
use borrow.Author.Tests.{eqb-true, eq-eqb}
use Rattle.model.specs.Lists.{Some, Mem, All, keep_if, keep}
use Rattle.theory.specs.Nodes.{sum_of}
use Rattle.theory.proofs.Lists.{some_map, all-by, sum_ones, and_both}
use Rattle.queue.specs.Order.{Item}
use Rattle.queue.specs.Entries.{Same}
use Rattle.queue.specs.Inside.{nth}

-- ---- places

-- an entry in front changes places with the one at i
exchange : (v : Item) (xs : List Item) (n i : ℕ) → i < n → i < length xs → Same (v ∷ take n xs) (nth xs i ∷ take n (set xs i v))
exchange v [] n i h k w = absurd (omega arith)
exchange v (x ∷ xs) zero i h k w = absurd (omega arith)
exchange v (x ∷ xs) (suc n) zero h k w = omega arith
exchange v (x ∷ xs) (suc n) (suc i) h k w = omega (arith, exchange v xs n i (omega arith) (omega arith) w)

-- the entries at p and c change places
unfoldable pub swapped : List Item → ℕ → ℕ → List Item
swapped xs p c = set (set xs p (nth xs c)) c (nth xs p)

-- which leaves a permutation
pub swap-same : (xs : List Item) (n p c : ℕ) → p < c → c < n → c < length xs → Same (take n xs) (take n (swapped xs p c))
unfolding swapped
swap-same [] n p c h k l w = absurd (omega arith)
swap-same (x ∷ xs) zero p c h k l w = absurd (omega arith)
swap-same (x ∷ xs) (suc n) p zero h k l w = absurd (omega arith)
swap-same (x ∷ xs) (suc n) zero (suc c) h k l w = exchange x xs n c (omega arith) (omega arith) w
swap-same (x ∷ xs) (suc n) (suc p) (suc c) h k l w = ap (λ (s : ℕ). w x + s) (swap-same xs n p c (omega arith) (omega arith) (omega arith) w)

-- the last of the first suc n entries may stand in front
pub last-first : (xs : List Item) (n : ℕ) → n < length xs → Same (take (suc n) xs) (nth xs n ∷ take n xs)
last-first [] n h w = absurd (omega arith)
last-first (x ∷ xs) zero h w = refl
last-first (x ∷ xs) (suc n) h w = omega (arith, last-first xs n (omega arith) w)

-- the first entry is taken out, and the last takes its place
pub first_out : (xs : List Item) (n : ℕ) → 1 < n → n ≤ length xs → Same (take n xs) (nth xs 0 ∷ take (n - 1) (set xs 0 (nth xs (n - 1))))
first_out [] n h k w = absurd (omega arith)
first_out (x ∷ xs) zero h k w = absurd (omega arith)
first_out (x ∷ xs) (suc zero) h k w = absurd (omega arith)
first_out (x ∷ xs) (suc (suc n)) h k w =
    let e : suc (suc n) - 1 ≡ suc n = omega arith in
    rw e (ap (λ (s : ℕ). w x + s) (last-first xs n (omega arith) w))

-- the only entry is taken out
pub only_out : (xs : List Item) (n : ℕ) → 0 < n → n ≤ 1 → n ≤ length xs → Same (take n xs) (nth xs 0 ∷ take (n - 1) xs)
only_out [] n h k l w = absurd (omega arith)
only_out (x ∷ xs) zero h k l w = absurd (omega arith)
only_out (x ∷ xs) (suc zero) h k l w = refl
only_out (x ∷ xs) (suc (suc n)) h k l w = absurd (omega arith)

-- what holds at each place holds of all entries
pub all_of : (P : Item → Type 0) (xs : List Item) (n : ℕ) → ((i : ℕ) → i < n → P (nth xs i)) → All P (take n xs)
all_of P xs zero h = tt
all_of P [] (suc n) h = tt
all_of P (x ∷ xs) (suc n) h = (h 0 (omega arith), all_of P xs n (λ i k. h (suc i) (omega arith)))

-- and the other way round
pub of_all : (P : Item → Type 0) (xs : List Item) (n : ℕ) → n ≤ length xs → All P (take n xs) → (i : ℕ) → i < n → P (nth xs i)
of_all P xs zero l a i h = absurd (omega arith)
of_all P [] (suc n) l a i h = absurd (omega arith)
of_all P (x ∷ xs) (suc n) l a zero h = a.0
of_all P (x ∷ xs) (suc n) l a (suc i) h = of_all P xs n (omega arith) a.1 i (omega arith)

-- ---- a map, and what a test keeps

-- a sum over images
pub sum_map : {A B : Type 0} (f : A → B) (w : B → ℕ) (xs : List A) → sum_of w (map f xs) ≡ sum_of (λ x. w (f x)) xs
sum_map f w [] = refl
sum_map f w (x ∷ xs) = ap (λ (s : ℕ). w (f x) + s) (sum_map f w xs)

-- a measure where a test holds, and zero elsewhere
abbrev only_if : Bool → ℕ → ℕ
only_if true m = m
only_if false m = 0

-- a sum over what a test keeps
sum_kept : {A : Type 0} (test : A → Bool) (w : A → ℕ) (xs : List A) → sum_of w (keep test xs) ≡ sum_of (λ x. only_if (test x) (w x)) xs
sum_kept test w [] = refl
sum_kept {A} test w (x ∷ xs) = go (test x) (sum_kept test w xs)
  where
    go : (b : Bool) → sum_of w (keep test xs) ≡ sum_of (λ y. only_if (test y) (w y)) xs → sum_of w (keep_if b x (keep test xs)) ≡ only_if b (w x) + sum_of (λ y. only_if (test y) (w y)) xs
    go true e = ap (λ (s : ℕ). w x + s) e
    go false e = e ∙ omega arith

-- what a test keeps of a permutation is a permutation
pub keep_same : {A : Type 0} (test : A → Bool) (xs ys : List A) → Same xs ys → Same (keep test xs) (keep test ys)
keep_same test xs ys s w = sum_kept test w xs ∙ s (λ x. only_if (test x) (w x)) ∙ sym (sum_kept test w ys)

-- ---- members

-- a permutation has as many
pub same_length : {A : Type 0} (xs ys : List A) → Same xs ys → length xs ≡ length ys
same_length xs ys s = omega (arith, s (λ x. 1), sum_ones xs, sum_ones ys)

-- how many pass a test
tally : {A : Type 0} → (A → Bool) → List A → ℕ
tally test = sum_of (λ x. only_if (test x) 1)

-- where one passes, some does
tally_some : {A : Type 0} (test : A → Bool) (xs : List A) → 0 < tally test xs → Some (λ x. test x ≡ true) xs
unfolding tally
tally_some test [] h = absurd (omega arith)
tally_some {A} test (x ∷ xs) h = go (test x) refl h (tally_some test xs)
  where
    go : (b : Bool) → test x ≡ b → 0 < only_if b 1 + tally test xs → (0 < tally test xs → Some (λ y. test y ≡ true) xs) → Some (λ y. test y ≡ true) (x ∷ xs)
    go true e h r = inl e
    go false e h r = inr (r (omega arith))

-- where some passes, one does
some_tally : {A : Type 0} (test : A → Bool) (xs : List A) → Some (λ x. test x ≡ true) xs → 0 < tally test xs
unfolding tally
some_tally test [] s = absurd s
some_tally test (x ∷ xs) (inl e) = rw e (omega arith)
some_tally test (x ∷ xs) (inr s) = omega (arith, some_tally test xs s)

-- two entries are one
equal : Item → Item → Bool
equal x y = eqb x.0 y.0 && eqb x.1 y.1

-- the test says so
equal-true : (x y : Item) → equal x y ≡ true → x ≡ y
unfolding equal
equal-true x y e =
    let t = and_both (eqb x.0 y.0) (eqb x.1 y.1) e in
    ap₂ {C = Item} (λ a b. (a, b)) (eqb-true x.0 y.0 t.0) (eqb-true x.1 y.1 t.1)

-- and says so of an entry and itself
equal_self : (x y : Item) → x ≡ y → equal x y ≡ true
unfolding equal
equal_self x y e = rw (e, eq-eqb y.0 y.0 refl, eq-eqb y.1 y.1 refl)

-- a permutation has the same members
pub same-member : (xs ys : List Item) → Same xs ys → (x : Item) → Mem x ys → Mem x xs
unfolding tally
same-member xs ys s x m =
    let h : 0 < tally (equal x) ys = some_tally (equal x) ys (some_map (equal_self x) ys m) in
    some_map (equal-true x) xs (tally_some (equal x) xs (rw (← s (λ y. only_if (equal x y) 1)) at h))

-- so what holds of all entries holds of all entries of a permutation
pub same-all : (P : Item → Type 0) (xs ys : List Item) → Same xs ys → All P xs → All P ys
same-all P xs ys s = all-by P xs ys (same-member xs ys s)
