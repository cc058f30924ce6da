-- What a listing needs of an order of full assignments, and what it means that full assignments lie in a node. Assumes nothing: these are definitions.
use Rattle.std.specs.Prelude.{◌≡◌, ◌⊎◌, List, ℕ, ◌<◌, length, get_or, set}
use Rattle.model.specs.Assignment.{Assignment, Fits, Agree}
use Rattle.model.specs.Order.{Order, Before}
use Rattle.theory.specs.BestFirst.{Weak}

-- f is a full assignment of the node
abbrev pub In : List ℕ → List ℕ → Assignment → Type 0
In ss f n = Fits ss f × Agree f n

-- a strict order of the full assignments over domains of sizes ss, in which bettering one variable betters the whole
pub record Lawful (ss : List ℕ) (o : Order) : Type 0 where
  pub irreflexive : (f : List ℕ) → Before o f f → ⊥
  pub transitive : (f g h : List ℕ) → Before o f g → Before o g h → Before o f h
  pub total : (f g : List ℕ) → Fits ss f → Fits ss g → Before o f g ⊎ ((f ≡ g) ⊎ Before o g f)
  pub preferred : Fits ss o.preferred
  pub betters : (f : List ℕ) → Fits ss f → (v : ℕ) → v < length ss → Weak (Before o) (set f v (get_or o.preferred v 0)) f
