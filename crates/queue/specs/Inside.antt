-- What only the queue's own functions know: the entries are a binary heap. Assumes nothing: these are definitions.
use Rattle.std.specs.Prelude.{◌≡◌, Bool, not, List, ℕ, ◌+◌, ◌*◌, ◌≤◌, ◌<◌, length, get_or, set, take}
use Rattle.model.specs.Assignment.{Assignment, Valid}
use Rattle.model.specs.Conflict.{manifests}
use Rattle.model.specs.Order.{Order}
use Rattle.theory.specs.Words.{Wide}
use Rattle.queue.specs.Order.{Item, entry_of, Due, Suits}
use Rattle.queue.specs.Entries.{Same}

-- the entry at place i
abbrev pub nth : List Item → ℕ → Item
nth xs i = get_or xs i (0, 0)

-- place c is one of the two children of place p
abbrev pub Child : ℕ → ℕ → Type 0
Child p c = (2 * p + 1 ≤ c) × (c ≤ 2 * p + 2)

-- of the first n entries none from place s on is due later than one of its children
unfoldable pub HeapFrom : ℕ → ℕ → List Item → Type 0
HeapFrom s n xs = (p c : ℕ) → s ≤ p → Child p c → c < n → Due (nth xs p) (nth xs c)

-- `lesser_child`: place r is the child of place i that is due first
pub record LesserChild (n i : ℕ) (xs : List Item) (r : ℕ) : Type 0 where
  pub child : Child i r
  pub within : r < n
  pub least : (c : ℕ) → Child i c → c < n → Due (nth xs r) (nth xs c)

-- `sift_down`: (a, b) stands at `from` or below, and all from `from` on is in order
pub record Sifted (n from a b : ℕ) (old new : List Item) : Type 0 where
  pub heap : HeapFrom from n new
  pub same : Same (take n (set old from (a, b))) (take n new)

-- `rebuild`: the same n entries, all in order
pub record Rebuilt (n : ℕ) (old new : List Item) : Type 0 where
  pub heap : HeapFrom 0 n new
  pub same : Same (take n old) (take n new)

-- `stays`: the entry's node does not manifest the conflict with this widened mask and these values
abbrev pub Stays : Bool → ℕ → ℕ → Item → Bool → Type 0
Stays weighed wide values e r = (ss : List ℕ) (o : Order) (n c : Assignment) → Suits ss o → weighed ≡ o.weighed → Valid ss n → e ≡ entry_of o n → Wide c wide values → length c ≡ length ss → r ≡ not (manifests n c)
