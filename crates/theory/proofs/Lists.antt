-- Laws of Some, All, Pairs and keep. Assumes nothing.
use mathlib.Core.Path.{◌≡◌, refl, sym, ap}
use mathlib.Core.Logic.{◌⊎◌, inl, inr}
use mathlib.Core.List.{List, [], ◌∷◌, ◌++◌, map, append_assoc}
use mathlib.Core.Bool.{Bool, true, false, ◌&&◌, ◌||◌}
use Prim.Native.Nat.{ℕ, zero, suc, ◌+◌, ◌*◌, ◌≤◌, ◌<◌}
use native.Mathlib.Omega.{arith}
use native.Mathlib.Nat.{mul-zero, mul-suc}
use lib.Dec.{T}
use lib.ListN.{length, get_or, set, length-append}
use Rattle.model.specs.Lists.{Some, Mem, All, Pairs, keep_if, keep, in_turn, values_from}
use Rattle.theory.specs.Nodes.{sum_of}

module _ {A : Type 0} where
  pub some_map : {P Q : A → Type 0} → ((x : A) → P x → Q x) → (xs : List A) → Some P xs → Some Q xs
  some_map h [] s = s
  some_map h (x ∷ xs) (inl p) = inl (h x p)
  some_map h (x ∷ xs) (inr s) = inr (some_map h xs s)

  pub some_left : (P : A → Type 0) (xs ys : List A) → Some P xs → Some P (xs ++ ys)
  some_left P [] ys s = absurd s
  some_left P (x ∷ xs) ys (inl p) = inl p
  some_left P (x ∷ xs) ys (inr s) = inr (some_left P xs ys s)

  pub some_right : (P : A → Type 0) (xs ys : List A) → Some P ys → Some P (xs ++ ys)
  some_right P [] ys s = s
  some_right P (x ∷ xs) ys s = inr (some_right P xs ys s)

  pub some_cases : (P : A → Type 0) (xs ys : List A) → Some P (xs ++ ys) → Some P xs ⊎ Some P ys
  some_cases P [] ys s = inr s
  some_cases P (x ∷ xs) ys (inl p) = inl (inl p)
  some_cases P (x ∷ xs) ys (inr s) = elim (some_cases P xs ys s) [ inl t ↦ inl (inr t) | inr t ↦ inr t ]

  pub all_map : {P Q : A → Type 0} → ((x : A) → P x → Q x) → (xs : List A) → All P xs → All Q xs
  all_map h [] a = tt
  all_map h (x ∷ xs) a = (h x a.0, all_map h xs a.1)

  pub all_join : (P : A → Type 0) (xs ys : List A) → All P xs → All P ys → All P (xs ++ ys)
  all_join P [] ys a b = b
  all_join P (x ∷ xs) ys a b = (a.0, all_join P xs ys a.1 b)

  pub all_left : (P : A → Type 0) (xs ys : List A) → All P (xs ++ ys) → All P xs
  all_left P [] ys a = tt
  all_left P (x ∷ xs) ys a = (a.0, all_left P xs ys a.1)

  pub all_right : (P : A → Type 0) (xs ys : List A) → All P (xs ++ ys) → All P ys
  all_right P [] ys a = a
  all_right P (x ∷ xs) ys a = all_right P xs ys a.1

  pub all-zip : (P Q : A → Type 0) (xs : List A) → All P xs → All Q xs → All (λ x. P x × Q x) xs
  all-zip P Q [] a b = tt
  all-zip P Q (x ∷ xs) a b = ((a.0, b.0), all-zip P Q xs a.1 b.1)

  -- what holds of all holds of some
  pub meet : (P Q : A → Type 0) (xs : List A) → All P xs → Some Q xs → (x : A) × P x × Q x
  meet P Q [] a s = absurd s
  meet P Q (x ∷ xs) a (inl q) = (x, a.0, q)
  meet P Q (x ∷ xs) a (inr s) = meet P Q xs a.1 s

  -- what holds of a member holds of some
  pub member_some : (P : A → Type 0) (xs : List A) (x : A) → Mem x xs → P x → Some P xs
  member_some P [] x m p = absurd m
  member_some P (y ∷ xs) x (inl e) p = inl (rw e at p)
  member_some P (y ∷ xs) x (inr m) p = inr (member_some P xs x m p)

  pub from-members : {P : A → Type 0} (xs : List A) → ((x : A) → Mem x xs → P x) → All P xs
  from-members [] h = tt
  from-members (x ∷ xs) h = (h x (inl refl), from-members xs (λ y m. h y (inr m)))

  pub at-member : (P : A → Type 0) (xs : List A) → All P xs → (x : A) → Mem x xs → P x
  at-member P [] a x m = absurd m
  at-member P (y ∷ xs) a x (inl e) = rw e a.0
  at-member P (y ∷ xs) a x (inr m) = at-member P xs a.1 x m

  module _ (R : A → A → Type 0) where
    pub pairs-join : (xs ys : List A) → Pairs R xs → Pairs R ys → All (λ x. All (R x) ys) xs → Pairs R (xs ++ ys)
    pairs-join [] ys p q c = q
    pairs-join (x ∷ xs) ys p q c = (all_join (R x) xs ys p.0 c.0, pairs-join xs ys p.1 q c.1)

    pub pairs-left : (xs ys : List A) → Pairs R (xs ++ ys) → Pairs R xs
    pairs-left [] ys p = tt
    pairs-left (x ∷ xs) ys p = (all_left (R x) xs ys p.0, pairs-left xs ys p.1)

    pub pairs-right : (xs ys : List A) → Pairs R (xs ++ ys) → Pairs R ys
    pairs-right [] ys p = p
    pairs-right (x ∷ xs) ys p = pairs-right xs ys p.1

    pub pairs-across : (xs ys : List A) → Pairs R (xs ++ ys) → All (λ x. All (R x) ys) xs
    pairs-across [] ys p = tt
    pairs-across (x ∷ xs) ys p = (all_right (R x) xs ys p.0, pairs-across xs ys p.1)

  -- a list and what a test keeps of it
  some_if : (P : A → Type 0) (b : Bool) (x : A) (xs : List A) → (P x → T b) → P x ⊎ Some P xs → Some P (keep_if b x xs)
  some_if P true x xs h s = s
  some_if P false x xs h (inl p) = absurd (h p)
  some_if P false x xs h (inr s) = s

  some_unif : (P : A → Type 0) (b : Bool) (x : A) (xs : List A) → Some P (keep_if b x xs) → P x ⊎ Some P xs
  some_unif P true x xs s = s
  some_unif P false x xs s = inr s

  pub some_keep : (P : A → Type 0) (test : A → Bool) → ((x : A) → P x → T (test x)) → (xs : List A) → Some P xs → Some P (keep test xs)
  some_keep P test h [] s = s
  some_keep P test h (x ∷ xs) (inl p) = some_if P (test x) x (keep test xs) (h x) (inl p)
  some_keep P test h (x ∷ xs) (inr s) = some_if P (test x) x (keep test xs) (h x) (inr (some_keep P test h xs s))

  pub some_unkeep : (P : A → Type 0) (test : A → Bool) (xs : List A) → Some P (keep test xs) → Some P xs
  some_unkeep P test [] s = s
  some_unkeep P test (x ∷ xs) s = elim (some_unif P (test x) x (keep test xs) s) [ inl p ↦ inl p | inr t ↦ inr (some_unkeep P test xs t) ]

  all_if : (P : A → Type 0) (b : Bool) (x : A) (xs : List A) → P x → All P xs → All P (keep_if b x xs)
  all_if P true x xs p a = (p, a)
  all_if P false x xs p a = a

  pub all_keep : (P : A → Type 0) (test : A → Bool) (xs : List A) → All P xs → All P (keep test xs)
  all_keep P test [] a = tt
  all_keep P test (x ∷ xs) a = all_if P (test x) x (keep test xs) a.0 (all_keep P test xs a.1)

  pairs_if : (R : A → A → Type 0) (b : Bool) (x : A) (xs : List A) → All (R x) xs → Pairs R xs → Pairs R (keep_if b x xs)
  pairs_if R true x xs a p = (a, p)
  pairs_if R false x xs a p = p

  pub pairs-keep : (R : A → A → Type 0) (test : A → Bool) (xs : List A) → Pairs R xs → Pairs R (keep test xs)
  pairs-keep R test [] p = tt
  pairs-keep R test (x ∷ xs) p = pairs_if R (test x) x (keep test xs) (all_keep (R x) test xs p.0) (pairs-keep R test xs p.1)

  kept_if : (test : A → Bool) (b : Bool) (x : A) (xs : List A) → (T b → T (test x)) → All (λ y. T (test y)) xs → All (λ y. T (test y)) (keep_if b x xs)
  kept_if test true x xs h a = (h tt, a)
  kept_if test false x xs h a = a

  pub kept : (test : A → Bool) (xs : List A) → All (λ x. T (test x)) (keep test xs)
  kept test [] = tt
  kept test (x ∷ xs) = kept_if test (test x) x (keep test xs) (λ t. t) (kept test xs)

  pub all_any : {P : A → Type 0} → ((x : A) → P x) → (xs : List A) → All P xs
  all_any h [] = tt
  all_any h (x ∷ xs) = (h x, all_any h xs)

  pub pairs_map : {R S : A → A → Type 0} → ((x y : A) → R x y → S x y) → (xs : List A) → Pairs R xs → Pairs S xs
  pairs_map h [] p = tt
  pairs_map h (x ∷ xs) p = (all_map (h x) xs p.0, pairs_map h xs p.1)

-- through a map
module _ {A B : Type 0} (g : A → B) where
  pub some_image : (P : B → Type 0) (xs : List A) → Some (λ x. P (g x)) xs → Some P (map g xs)
  some_image P [] s = s
  some_image P (x ∷ xs) (inl p) = inl p
  some_image P (x ∷ xs) (inr s) = inr (some_image P xs s)

  pub all_image : (P : B → Type 0) (xs : List A) → All (λ x. P (g x)) xs → All P (map g xs)
  all_image P [] a = tt
  all_image P (x ∷ xs) a = (a.0, all_image P xs a.1)

  pub pairs_image : (R : B → B → Type 0) (xs : List A) → Pairs (λ x y. R (g x) (g y)) xs → Pairs R (map g xs)
  pairs_image R [] p = tt
  pairs_image R (x ∷ xs) p = (all_image (R (g x)) xs p.0, pairs_image R xs p.1)

-- what holds of all members of one list holds of all of another, if its members are among them
pub all-by : {A : Type 0} (P : A → Type 0) (xs ys : List A) → ((x : A) → Mem x ys → Mem x xs) → All P xs → All P ys
all-by P xs ys h a = from-members ys (λ x m. at-member P xs a x (h x m))

-- two lists in a row have the same members either way round
pub some_swap : {A : Type 0} (P : A → Type 0) (xs ys : List A) → Some P (xs ++ ys) → Some P (ys ++ xs)
some_swap P xs ys s = elim (some_cases P xs ys s) [ inl t ↦ some_right P ys xs t | inr t ↦ some_left P ys xs t ]

-- and a symmetric relation that holds of each pair holds of each pair either way round
pub pairs-swap : {A : Type 0} (R : A → A → Type 0) → ((x y : A) → R x y → R y x) → (xs ys : List A) → Pairs R (xs ++ ys) → Pairs R (ys ++ xs)
pairs-swap R swap xs ys p = pairs-join R ys xs (pairs-right R xs ys p) (pairs-left R xs ys p)
    (from-members ys (λ y m. all_map (λ x a. swap x y (at-member (R x) ys a y m)) xs (pairs-across R xs ys p)))

-- what holds of all members holds of both members of each pair
pub pairs-zip : {A : Type 0} (P : A → Type 0) (R : A → A → Type 0) (xs : List A) → All P xs → Pairs R xs → Pairs (λ x y. P x × P y × R x y) xs
pairs-zip P R [] a p = tt
pairs-zip P R (x ∷ xs) a p = (all_map (λ y c. (a.0, c.0, c.1)) xs (all-zip P (R x) xs a.1 p.0), pairs-zip P R xs a.1 p.1)

-- what two lists in a row give in turn is what the one gives, then what the other does
pub in_turn-join : {A B : Type 0} (give : A → List B) (xs ys : List A) → in_turn give (xs ++ ys) ≡ in_turn give xs ++ in_turn give ys
in_turn-join give [] ys = refl
in_turn-join give (x ∷ xs) ys = rw (in_turn-join give xs ys) (sym (append_assoc (give x) (in_turn give xs) (in_turn give ys)))

-- where each member gives w, all give w for each
pub in_turn_length : {A B : Type 0} (give : A → List B) (w : ℕ) (xs : List A) → All (λ x. length (give x) ≡ w) xs → length (in_turn give xs) ≡ w * length xs
in_turn_length give w [] h = sym (mul-zero w)
in_turn_length give w (x ∷ xs) h = omega (arith, h.0, in_turn_length give w xs h.1, length-append (give x) (in_turn give xs), mul-suc w (length xs))

-- the sum over two lists in a row is the sum of the sums
pub sum-join : {A : Type 0} (w : A → ℕ) (xs ys : List A) → sum_of w (xs ++ ys) ≡ sum_of w xs + sum_of w ys
sum-join w [] ys = omega arith
sum-join w (x ∷ xs) ys = omega (arith, sum-join w xs ys)

-- whether an element is kept or not, the sum is at most what it is with it
sum_if : {A : Type 0} (w : A → ℕ) (b : Bool) (x : A) (xs : List A) → sum_of w (keep_if b x xs) ≤ w x + sum_of w xs
sum_if w true x xs = omega arith
sum_if w false x xs = omega arith

-- the sum over what a test keeps is no greater
pub sum-keep : {A : Type 0} (w : A → ℕ) (test : A → Bool) (xs : List A) → sum_of w (keep test xs) ≤ sum_of w xs
sum-keep w test [] = omega arith
sum-keep w test (x ∷ xs) = omega (arith, sum_if w (test x) x (keep test xs), sum-keep w test xs)

-- the length is the sum of ones
pub sum_ones : {A : Type 0} (xs : List A) → sum_of (λ x. 1) xs ≡ length xs
sum_ones [] = refl
sum_ones (x ∷ xs) = omega (arith, sum_ones xs)

-- the members that pass a test are no more than all
pub keep_length : {A : Type 0} (test : A → Bool) (xs : List A) → length (keep test xs) ≤ length xs
keep_length test xs = omega (arith, sum-keep (λ x. 1) test xs, sum_ones xs, sum_ones (keep test xs))

-- where all pass the test, all are kept
pub keep_all : {A : Type 0} (test : A → Bool) (xs : List A) → All (λ x. test x ≡ true) xs → keep test xs ≡ xs
keep_all test [] a = refl
keep_all {A} test (x ∷ xs) a = rw a.0 (ap (λ (r : List A). x ∷ r) (keep_all test xs a.1))

-- where a member fails the test, fewer are kept
pub keep-fewer : {A : Type 0} (test : A → Bool) (xs : List A) → Some (λ x. test x ≡ false) xs → length (keep test xs) < length xs
keep-fewer test [] s = absurd s
keep-fewer test (x ∷ xs) (inl e) = rw e (omega (arith, keep_length test xs))
keep-fewer test (x ∷ xs) (inr s) = omega (arith, sum_if (λ x. 1) (test x) x (keep test xs), sum_ones (keep test (x ∷ xs)), sum_ones (keep test xs), keep-fewer test xs s)

-- there are n values from x on
pub values_length : (x n : ℕ) → length (values_from x n) ≡ n
values_length x zero = refl
values_length x (suc n) = ap suc (values_length (x + 1) n)

-- a conjunction holds only if both parts do
pub and_both : (a b : Bool) → (a && b) ≡ true → (a ≡ true) × (b ≡ true)
and_both true b e = (refl, e)
and_both false b e = (e, cc)

-- a disjunction fails only if both parts do
pub or_neither : (a b : Bool) → (a || b) ≡ false → (a ≡ false) × (b ≡ false)
or_neither true b e = (e, cc)
or_neither false b e = (refl, e)

-- what holds of all holds at each place
pub all-at : {A : Type 0} (d : A) (P : A → Type 0) (xs : List A) → All P xs → (i : ℕ) → i < length xs → P (get_or xs i d)
all-at d P [] a i h = absurd (omega arith)
all-at d P (x ∷ xs) a zero h = a.0
all-at d P (x ∷ xs) a (suc i) h = all-at d P xs a.1 i (omega arith)

-- what holds of each member and each later one holds at any two places, the first before the second
pub pairs-at : {A : Type 0} (d : A) (R : A → A → Type 0) (xs : List A) → Pairs R xs → (i j : ℕ) → i < j → j < length xs → R (get_or xs i d) (get_or xs j d)
pairs-at d R [] p i j h l = absurd (omega arith)
pairs-at d R (x ∷ xs) p i zero h l = absurd (omega arith)
pairs-at d R (x ∷ xs) p zero (suc j) h l = all-at d (R x) xs p.0 j (omega arith)
pairs-at d R (x ∷ xs) p (suc i) (suc j) h l = pairs-at d R xs p.1 i j (omega arith) (omega arith)

-- one is replaced by another of which it holds
pub all_set : {A : Type 0} (P : A → Type 0) (xs : List A) (i : ℕ) (x : A) → P x → All P xs → All P (set xs i x)
all_set P [] i x h a = tt
all_set P (y ∷ xs) zero x h a = (h, a.1)
all_set P (y ∷ xs) (suc i) x h a = (a.0, all_set P xs i x h a.1)
