-- Words about nodes, their children and the queue that the theorems use. Assumes nothing: these are definitions.
use Rattle.std.specs.Prelude.{◌≡◌, true, List, [], ◌∷◌, ℕ, zero, suc, ◌+◌, ◌*◌}
use Rattle.std.proofs.Math.Option.{none, some}
use Rattle.model.specs.Assignment.{Assignment, Valid, Agree, is_some}
use Rattle.model.specs.Lists.{Pairs}
use Rattle.model.specs.Order.{Order, Before, best}
use Rattle.model.specs.Listing.{weight}

-- what a node hands down: each f of the child is in the node, and the child is valid
pub record Child (ss : List ℕ) (n m : Assignment) : Type 0 where
  pub inside : (f : List ℕ) → Agree f m → Agree f n
  pub valid : Valid ss m

-- the sum of a measure over a list
abbrev pub sum_of : {A : Type 0} → (A → ℕ) → List A → ℕ
sum_of w [] = 0
sum_of w (x ∷ xs) = w x + sum_of w xs

-- the weight of a queue: a bound on the steps that its nodes can cause
abbrev pub weights : List ℕ → List Assignment → ℕ
weights ss = sum_of (weight ss)

-- how many full assignments a node has: the product of the sizes over its unassigned variables
abbrev pub room : List ℕ → Assignment → ℕ
room [] n = 1
room (s ∷ ss) [] = 1
room (s ∷ ss) (none ∷ n) = s * room ss n
room (s ∷ ss) (some x ∷ n) = room ss n

-- how many full assignments the nodes of a queue have
abbrev pub rooms : List ℕ → List Assignment → ℕ
rooms ss = sum_of (room ss)

-- the queue is in the order of best states
abbrev pub Ordered : Order → List Assignment → Type 0
Ordered o = Pairs (λ m n. Before o (best o.preferred m) (best o.preferred n))

-- the first v variables are assigned
abbrev pub Filled : ℕ → Assignment → Type 0
Filled zero a = Unit {0}
Filled (suc v) [] = ⊥
Filled (suc v) (o ∷ a) = (is_some o ≡ true) × Filled v a

-- how many variables are unassigned
abbrev pub unset : Assignment → ℕ
unset [] = 0
unset (none ∷ a) = unset a + 1
unset (some x ∷ a) = unset a

-- what the test may hand down at the unassigned variable v of an assignment a: one variable fewer is left to set, and those up to v are assigned
pub record HandedDown (v : ℕ) (a b : Assignment) : Type 0 where
  pub fewer : unset b + 1 ≡ unset a
  pub filled : Filled (v + 1) b
