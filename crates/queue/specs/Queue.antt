-- What a slice of words holds: the model's queue. How the entries stand, `Ready`, is no caller's concern. Assumes nothing: these are definitions.
use Rattle.std.specs.Prelude.{◌≡◌, List, map, ℕ, length}
use Rattle.model.specs.Assignment.{Assignment}
use Rattle.model.specs.Order.{Order}
use Rattle.queue.specs.Order.{entry_of}
use Rattle.queue.specs.Entries.{pairs, entries, Same}
use Rattle.queue.specs.Inside.{HeapFrom}

-- the first n entries of a slice stand as `push` and `pop` want them
unfoldable pub Ready : ℕ → List ℕ → Type 0
Ready n words = HeapFrom 0 n (pairs words)

-- the first n entries of a slice are ready, and are those of the queue's n nodes in any order
pub record Holds (o : Order) (n : ℕ) (words : List ℕ) (queue : List Assignment) : Type 0 where
  pub ready : Ready n words
  pub same : Same (map (entry_of o) queue) (entries n words)
  pub count : length queue ≡ n
