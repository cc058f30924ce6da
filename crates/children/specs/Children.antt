-- What a node's numbers, the tables and the lent slices stand for, and what it means that children are put into the queue. Assumes nothing: these are definitions.
use Rattle.std.specs.Prelude.{◌≡◌, Bool, true, false, not, Option, None, Some, Result, Ok, Err, List, map, ℕ, ◌+◌, ◌*◌, ◌/◌, ◌≤◌, ◌<◌, ltb, eqb, length, get_or, set, take}
use Rattle.std.proofs.Math.Option.{Option as Maybe, none, some}
use Rattle.model.specs.Lists.{All, keep}
use Rattle.model.specs.Sheet.{Plant, edition_of, decision_sizes}
use Rattle.model.specs.Assignment.{Assignment, Valid, mask_of, code}
use Rattle.model.specs.Order.{Order, best, order_of}
use Rattle.model.specs.Listing.{leave_off, enqueue_all}
use Rattle.theory.specs.Plant.{Accepted, Sized}
use Rattle.theory.specs.Tables.{rows}
use Rattle.theory.specs.Value.{PreferredValues}
use Rattle.queue.specs.Queue.{Holds}
use Rattle.store.specs.Store.{Keeps}
use Rattle.children.specs.declared.Node.{Node}
use Rattle.children.specs.declared.Choices.{Choices}
use Rattle.children.specs.declared.Full.{Full}

-- ---- what is lent

-- at most sixteen decision variables, each with a size that a domain may have and sixteen prices
pub record Choosable (choices : Choices) : Type 0 where
  pub few : choices.decisions ≤ 16
  pub sizes-long : choices.decisions ≤ length choices.sizes.now
  pub prices-long : 16 * choices.decisions ≤ length choices.prices.now
  pub sized : All Sized (take choices.decisions choices.sizes.now)

-- ---- what the numbers stand for

-- a node of a plant, whose figures are weights or costs, by its mask, the code of its best state and the figure of that state
pub record NodeIs (w : Bool) (p : Plant) (n : Assignment) (node : Node) : Type 0 where
  pub accepted : Accepted (edition_of w) p
  pub valid : Valid (decision_sizes p) n
  pub mask_is : node.mask ≡ mask_of n
  pub code_is : node.code ≡ code (best (order_of (edition_of w) p).preferred n)
  pub figure-is : node.figure ≡ (order_of (edition_of w) p).figure (best (order_of (edition_of w) p).preferred n)

-- what children are made of are a plant's costs or weights, and the word that hands in each variable's best value
pub record Table (p : Plant) (choices : Choices) : Type 0 where
  pub rows_are : p.costs ≡ rows (decision_sizes p) choices.prices.now
  pub preferred-is : PreferredValues choices.weighed p choices.preferred

-- the same with the sizes of its decision variables, which other sizes may follow
pub record Tables (p : Plant) (choices : Choices) : Type 0 where
  pub table : Table p choices
  pub decisions : choices.decisions ≤ length choices.sizes.now
  pub sizes-are : decision_sizes p ≡ take choices.decisions choices.sizes.now

-- variable v of the node is unassigned, and the table has its costs
pub record Free (p : Plant) (n : Assignment) (v : ℕ) (choices : Choices) : Type 0 where
  pub table : Table p choices
  pub within : v < length p.costs
  pub free : get_or n v none ≡ none

-- what a step's words stand for: a plant, a node of it, the stored conflicts and the queued nodes
pub record Step (w : Bool) (node : Node) (queue : List ℕ) (n : ℕ) (store : List ℕ) (m : ℕ) : Type 0 where
  pub plant : Plant
  pub parent : Assignment
  pub conflicts : List Assignment
  pub rest : List Assignment
  pub is : NodeIs w plant parent node
  pub keeps : Keeps (length plant.costs) store m conflicts
  pub holds : Holds (order_of (edition_of w) plant) n queue rest
  pub room : 2 * n ≤ length queue

-- ---- what is put into the queue

-- the node with variable v at each of these values, or at each but one
abbrev pub variants : Assignment → ℕ → Option ℕ → List ℕ → List Assignment
variants n v None xs = map (λ x. set n v (some x)) xs
variants n v (Some but) xs = map (λ x. set n v (some x)) (keep (λ x. not (eqb x but)) xs)

-- step 6, as the answer tells it: the children that manifest no stored conflict are in the queue, or they outnumber its free entries
unfoldable pub PutOf : Order → (conflicts rest children : List Assignment) (queue after : List ℕ) → Result ℕ Full → Type 0
PutOf o conflicts rest children queue after (Err full) = ltb (length queue / 2) (length rest + length (leave_off conflicts children)) ≡ true
PutOf o conflicts rest children queue after (Ok n) =
    (ltb (length queue / 2) (length rest + length (leave_off conflicts children)) ≡ false)
    × (n ≡ length rest + length (leave_off conflicts children))
    × Holds o n after (enqueue_all o (leave_off conflicts children) rest)

-- the same for what a step's words stand for
abbrev pub Puts : {w : Bool} {node : Node} {queue : List ℕ} {n : ℕ} {store : List ℕ} {m : ℕ} → Step w node queue n store m → List Assignment → List ℕ → Result ℕ Full → Type 0
Puts {w = w} {queue = queue} s children after r = PutOf (order_of (edition_of w) s.plant) s.conflicts s.rest children queue after r

-- the conflict's value for a variable that the node leaves unassigned
abbrev pub member : Maybe ℕ → Maybe ℕ → Maybe ℕ
member none d = d
member (some x) d = none

-- an answer tells a value that may be there
abbrev pub Tells : Option ℕ → Maybe ℕ → Type 0
Tells None o = o ≡ none
Tells (Some x) o = o ≡ some x
