-- The best value of a variable by a comparison of figures, and the word that hands in each variable's. Assumes nothing: these are definitions.
use Rattle.std.specs.Prelude.{◌≡◌, ◌⊎◌, Bool, true, false, List, [], ℕ, ◌^◌, ◌≤◌, ◌<◌, length, get_or}
use Rattle.model.specs.Digits.{digits}
use Rattle.model.specs.Sheet.{Plant}

-- a comparison of figures (a strict weak order): which of two is better, where two may be equally good
pub record Compares (Better : ℕ → ℕ → Type 0) : Type 0 where
  pub asymmetric : (a b : ℕ) → Better a b → Better b a → ⊥
  pub cotransitive : (a b c : ℕ) → Better a c → Better a b ⊎ Better b c

-- the comparison of an edition: of costs the lesser is better, of weights the greater
abbrev pub Better : Bool → ℕ → ℕ → Type 0
Better false = ◌<◌
Better true = λ a b. b < a

-- of a row with a figure for each value of a domain: this value is in the domain, no value is better, and every lower value is worse
pub record BestValue (Better : ℕ → ℕ → Type 0) (row : List ℕ) (value : ℕ) : Type 0 where
  pub within : value < length row
  pub none-better : (x : ℕ) → x < length row → Better (get_or row x 0) (get_or row value 0) → ⊥
  pub lower-worse : (x : ℕ) → x < value → Better (get_or row value 0) (get_or row x 0)

-- the cheapest value of a row of costs, the lowest on a tie: it is in the domain, no value costs less, and every lower value costs more
abbrev pub CheapestValue : List ℕ → ℕ → Type 0
CheapestValue = BestValue ◌<◌

-- a word hands in the best value of each row: the word's digits from the top are these values, and all digits after them are zero
pub record BestValues (Better : ℕ → ℕ → Type 0) (rows : List (List ℕ)) (word : ℕ) : Type 0 where
  pub one_word : word < 2 ^ 64
  pub digit_best : (v : ℕ) → v < length rows → BestValue Better (get_or rows v []) (get_or (digits 16 16 word) v 0)
  pub rest-zero : (v : ℕ) → length rows ≤ v → get_or (digits 16 16 word) v 0 ≡ 0

-- requests L3 and L6: the word hands in, for every decision variable, its best value: the cheapest, or the one of greatest weight, and the lowest on a tie
abbrev pub PreferredValues : Bool → Plant → ℕ → Type 0
PreferredValues weighed p = BestValues (Better weighed) p.costs

abbrev pub CheapestValues : Plant → ℕ → Type 0
CheapestValues = PreferredValues false
