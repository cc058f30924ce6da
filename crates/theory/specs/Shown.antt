-- What bytes that show the values of an assignment say, after a test and in a list. Assumes nothing: these are definitions.
use Rattle.std.specs.Prelude.{◌≡◌, List, [], ◌∷◌, ◌++◌, ℕ, ◌-◌, ◌<◌, length, get_or, replicate}
use Rattle.model.specs.Sheet.{Plant, got, Edition, read_sheet, decision_sizes, sizes}
use Rattle.model.specs.Assignment.{Assignment, Fits, code, full}
use Rattle.model.specs.Consistency.{Satisfies}
use Rattle.model.specs.Calls.{Buffers, state_bytes, state_values}
use Rattle.theory.specs.BestFirst.{Weak}
use Rattle.theory.specs.Digits.{Lex}

-- 48 bytes show an assignment: values within the domains that agree with it and satisfy every clause, the first such values in trial order; one byte a variable, and zero beyond D + S
pub record Shows (p : Plant) (a : Assignment) (bytes : List ℕ) : Type 0 where
  pub values : List ℕ
  pub satisfies : Satisfies p a values
  -- the order of the trials is lexicographic: variables in number order, values from 0
  pub first : (g : List ℕ) → Satisfies p a g → Weak Lex values g
  pub are : bytes ≡ values ++ replicate (state_bytes - length (sizes p)) 0

-- R holds of the members of two lists, place by place; they are equally long
abbrev pub Each : {A B : Type 0} → (A → B → Type 0) → List A → List B → Type 0
Each R [] [] = Unit {0}
Each R [] (y ∷ ys) = ⊥
Each R (x ∷ xs) [] = ⊥
Each R (x ∷ xs) (y ∷ ys) = R x y × Each R xs ys

-- the place i of a list holds the code of a full assignment, and its 48 bytes show that assignment
abbrev pub ShownAt : Plant → Buffers → ℕ → Type 0
ShownAt p b i = (f : List ℕ) × Fits (decision_sizes p) f × (get_or b.codes i 0 ≡ code f) × Shows p (full f) (state_values i b)

-- each of the first so many places does, for the plant that the sheet of this edition says
pub record ShownOn (e : Edition) (sheet : List ℕ) (listed : ℕ) (b : Buffers) : Type 0 where
  pub plant : Plant
  pub end : ℕ
  pub says : read_sheet e sheet ≡ got plant end
  pub shown : (i : ℕ) → i < listed → ShownAt plant b i

-- two lists that both have a state show the same values for it
abbrev pub SameValues : (m n : ℕ) → (b c : Buffers) → Type 0
SameValues m n b c = (i j : ℕ) → i < m → j < n → get_or b.codes i 0 ≡ get_or c.codes j 0 → state_values i b ≡ state_values j c
