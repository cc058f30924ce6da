-- A slice of words as a list of entries. Assumes nothing: these are definitions.
use Rattle.std.specs.Prelude.{◌≡◌, List, [], ◌∷◌, ℕ, take}
use Rattle.theory.specs.Nodes.{sum_of}
use Rattle.queue.specs.Order.{Item}

-- the words of a slice, two by two
unfoldable pub pairs : List ℕ → List Item
pairs [] = []
pairs (a ∷ []) = []
pairs (a ∷ b ∷ words) = (a, b) ∷ pairs words

-- the first n entries of a slice
unfoldable pub entries : ℕ → List ℕ → List Item
entries n words = take n (pairs words)

-- one list is a permutation of the other: any measure has the same sum over both, such as 1 for one element and 0 for each other
abbrev pub Same : {A : Type 0} → List A → List A → Type 0
Same {A} xs ys = (w : A → ℕ) → sum_of w xs ≡ sum_of w ys
