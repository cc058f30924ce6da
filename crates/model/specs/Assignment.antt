-- Specification, "Assignments": assignments to the decision variables, their two words, full, code and well formed. Assumes nothing: these are definitions.
use Rattle.std.specs.Prelude.{◌≡◌, Bool, true, false, ◌&&◌, List, [], ◌∷◌, map, ℕ, zero, suc, ◌<◌, eqb, ltb, length, take, drop}
use Rattle.std.proofs.Math.Option.{Option, none, some}
use Rattle.model.specs.Digits.{number, digits}

-- for each variable its value, or none where it is unassigned
abbrev pub Assignment : Type 0
Assignment = List (Option ℕ)

-- ---- within the domains

-- a value for each variable, each below the size of its domain
abbrev pub Fits : List ℕ → List ℕ → Type 0
Fits [] [] = Unit {0}
Fits [] (x ∷ f) = ⊥
Fits (s ∷ ss) [] = ⊥
Fits (s ∷ ss) (x ∷ f) = (x < s) × Fits ss f

-- a value, if there is one, is below the size of its domain
abbrev pub Under : ℕ → Option ℕ → Type 0
Under s none = Unit {0}
Under s (some x) = x < s

-- an assignment over domains of these sizes
abbrev pub Valid : List ℕ → Assignment → Type 0
Valid [] [] = Unit {0}
Valid [] (o ∷ a) = ⊥
Valid (s ∷ ss) [] = ⊥
Valid (s ∷ ss) (o ∷ a) = Under s o × Valid ss a

-- x is the variable's value, if it has one
abbrev pub Takes : ℕ → Option ℕ → Type 0
Takes x none = Unit {0}
Takes x (some y) = x ≡ y

-- the values f extend the assignment: they have its value where it has one
abbrev pub Agree : List ℕ → Assignment → Type 0
Agree [] [] = Unit {0}
Agree [] (o ∷ a) = ⊥
Agree (x ∷ f) [] = ⊥
Agree (x ∷ f) (o ∷ a) = Takes x o × Agree f a

-- ---- the two words

-- a variable's bit of the mask
abbrev pub bit : Option ℕ → ℕ
bit none = 0
bit (some x) = 1

-- a variable's four bits of the values word; zero where it is unassigned
abbrev pub nibble : Option ℕ → ℕ
nibble none = 0
nibble (some x) = x

-- the mask: variable 0 is the top bit, the bits of absent variables are zero
abbrev pub mask_of : Assignment → ℕ
mask_of a = number 2 64 (map bit a)

-- the values: variable 0 is the top four bits
abbrev pub values_of : Assignment → ℕ
values_of a = number 16 16 (map nibble a)

-- what a bit and a nibble say of a variable
abbrev pub optional : ℕ → ℕ → Option ℕ
optional zero x = none
optional (suc b) x = some x

-- what bits and nibbles say of the variables in turn
abbrev pub optionals : List ℕ → List ℕ → Assignment
optionals [] xs = []
optionals (b ∷ bs) [] = []
optionals (b ∷ bs) (x ∷ xs) = optional b x ∷ optionals bs xs

-- the assignment to d variables that two words hold
unfoldable pub assignment_of : ℕ → ℕ → ℕ → Assignment
assignment_of d mask values = take d (optionals (digits 2 64 mask) (digits 16 16 values))

-- ---- well formed

-- whether each digit is zero
abbrev pub all_zero : List ℕ → Bool
all_zero [] = true
all_zero (d ∷ ds) = eqb d 0 && all_zero ds

-- an assigned variable's value is in its domain, an unassigned one's nibble is zero
abbrev pub nibble_fits : ℕ → ℕ → ℕ → Bool
nibble_fits s zero x = eqb x 0
nibble_fits s (suc b) x = ltb x s

-- each variable's nibble is right, and the nibbles of absent variables are zero
abbrev pub nibbles_fit : List ℕ → List ℕ → List ℕ → Bool
nibbles_fit [] bs xs = all_zero xs
nibbles_fit (s ∷ ss) [] xs = false
nibbles_fit (s ∷ ss) (b ∷ bs) [] = false
nibbles_fit (s ∷ ss) (b ∷ bs) (x ∷ xs) = nibble_fits s b x && nibbles_fit ss bs xs

-- no mask bit beyond D (refusal 14)
unfoldable pub mask_fits : List ℕ → ℕ → Bool
mask_fits domains mask = all_zero (drop (length domains) (digits 2 64 mask))

-- no value outside its domain and no nonzero unused nibble (refusal 15)
unfoldable pub values_fit : List ℕ → ℕ → ℕ → Bool
values_fit domains mask values = nibbles_fit domains (digits 2 64 mask) (digits 16 16 values)

-- both: what step 1 of a listing asks of an offered entry
unfoldable pub well_formed : List ℕ → ℕ → ℕ → Bool
well_formed domains mask values = mask_fits domains mask && values_fit domains mask values

-- ---- full assignments

-- whether a variable is assigned
abbrev pub is_some : Option ℕ → Bool
is_some none = false
is_some (some x) = true

-- whether all variables are assigned
abbrev pub is_full : Assignment → Bool
is_full [] = true
is_full (o ∷ a) = is_some o && is_full a

-- the values of a full assignment
abbrev pub value_list : Assignment → List ℕ
value_list = map nibble

-- a list of values as a full assignment
abbrev pub full : List ℕ → Assignment
full = map some

-- the code of a full assignment, given by its values: its values word
abbrev pub code : List ℕ → ℕ
code f = number 16 16 f
