-- Words about digits that the theorems use. Assumes nothing: these are definitions.
use Rattle.std.specs.Prelude.{◌≡◌, ◌⊎◌, List, [], ◌∷◌, ℕ, ◌+◌, ◌*◌, ◌^◌, ◌<◌, ◌≤◌}
use Rattle.model.specs.Lists.{All}

-- each is a digit of base b
abbrev pub Below : ℕ → List ℕ → Type 0
Below b ds = All (λ d. d < b) ds

-- the digits taken in one after another, after n
unfoldable pub horner : ℕ → ℕ → List ℕ → ℕ
horner b n [] = n
horner b n (d ∷ ds) = horner b (n * b + d) ds

-- lexicographic order: the first digit that differs decides
abbrev pub Lex : List ℕ → List ℕ → Type 0
Lex [] ys = ⊥
Lex (x ∷ xs) [] = ⊥
Lex (x ∷ xs) (y ∷ ys) = (x < y) ⊎ ((x ≡ y) × Lex xs ys)

-- w is the fewest places, at least one, that hold n in base b
pub record Fewest (b n w : ℕ) : Type 0 where
  pub one : 1 ≤ w
  pub holds : n < b ^ w
  pub least : (v : ℕ) → 1 ≤ v → n < b ^ v → w ≤ v
