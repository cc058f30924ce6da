-- Words about lists that the other files share. Assumes nothing: these are definitions.
use Rattle.std.specs.Prelude.{◌≡◌, ◌⊎◌, List, [], ◌∷◌, ◌++◌, Bool, true, false, ℕ, zero, suc, ◌+◌, length, drop}

module _ {A : Type 0} where
  -- P holds at some place of the list; a proof says at which
  abbrev pub Some : (A → Type 0) → List A → Type 0
  Some P [] = ⊥
  Some P (x ∷ xs) = P x ⊎ Some P xs

  -- a is a member of the list
  abbrev pub Mem : A → List A → Type 0
  Mem a = Some (λ x. a ≡ x)

  -- P holds at each place
  abbrev pub All : (A → Type 0) → List A → Type 0
  All P [] = Unit {0}
  All P (x ∷ xs) = P x × All P xs

  -- R holds of each member and each later one
  abbrev pub Pairs : (A → A → Type 0) → List A → Type 0
  Pairs R [] = Unit {0}
  Pairs R (x ∷ xs) = All (R x) xs × Pairs R xs

  -- one list begins another: the other is it and some rest, which may be empty
  abbrev pub Begins : List A → List A → Type 0
  Begins xs ys = (rest : List A) × (ys ≡ xs ++ rest)

  -- the members that pass a test, in their order
  abbrev pub keep_if : Bool → A → List A → List A
  keep_if true x xs = x ∷ xs
  keep_if false x xs = xs

  abbrev pub keep : (A → Bool) → List A → List A
  keep test [] = []
  keep test (x ∷ xs) = keep_if (test x) x (keep test xs)

  -- whether some member passes a test
  abbrev pub any_of : (A → Bool) → List A → Bool
  any_of test [] = false
  any_of test (x ∷ xs) = elim (test x) [ true ↦ true | false ↦ any_of test xs ]

  -- whether each member passes a test
  abbrev pub all_of : (A → Bool) → List A → Bool
  all_of test [] = true
  all_of test (x ∷ xs) = elim (test x) [ true ↦ all_of test xs | false ↦ false ]

  -- a buffer after its first places have been filled
  abbrev pub filled : List A → List A → List A
  filled xs buffer = xs ++ drop (length xs) buffer

module _ {A B : Type 0} where
  -- what each member gives, in turn
  abbrev pub in_turn : (A → List B) → List A → List B
  in_turn give [] = []
  in_turn give (x ∷ xs) = give x ++ in_turn give xs

module _ {A : Type 0} (precedes : A → A → Bool) where
  -- an element at its place: before the first member that it precedes
  unfoldable pub place : A → List A → List A
  place x [] = x ∷ []
  place x (y ∷ ys) = elim (precedes x y) [ true ↦ x ∷ y ∷ ys | false ↦ y ∷ place x ys ]

  -- elements of a list, each at its place in another
  unfoldable pub place_all : List A → List A → List A
  place_all [] ys = ys
  place_all (x ∷ xs) ys = place x (place_all xs ys)

-- the n numbers from x on
abbrev pub values_from : ℕ → ℕ → List ℕ
values_from x zero = []
values_from x (suc n) = x ∷ values_from (x + 1) n
