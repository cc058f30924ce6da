-- What holds between the steps of a listing's run and at its end. Assumes nothing: these are definitions.
use Rattle.std.specs.Prelude.{◌≡◌, ◌⊎◌, Bool, true, false, List, [], ◌∷◌, ◌++◌, ℕ, ◌+◌, ◌≤◌, ◌<◌, length}
use Rattle.std.proofs.Math.Option.{none, some}
use Rattle.model.specs.Lists.{Some, All, Pairs}
use Rattle.model.specs.Sheet.{Plant, decision_sizes}
use Rattle.model.specs.Assignment.{Assignment, Fits, Valid, Agree, full}
use Rattle.model.specs.Consistency.{Consistent}
use Rattle.model.specs.Conflict.{Conflict, Minimal}
use Rattle.model.specs.Order.{Order, Before, product}
use Rattle.model.specs.Listing.{State, Ending, enough, all, Next, ended, more, weight, first_unresolved, resolving, branching, leave_off, most_tested}
use Rattle.model.specs.Calls.{value_bytes}
use Rattle.theory.specs.BestFirst.{Apart, Inv}
use Rattle.theory.specs.Order.{In}
use Rattle.theory.specs.Shown.{Shows, Each}
use Rattle.theory.specs.Store.{Among, Neither, ContainsOne}
use Rattle.theory.specs.Nodes.{Ordered, weights, room, rooms}

-- one where the limit struck inside a reduction
abbrev pub strikes : Bool → ℕ
strikes true = 1
strikes false = 0

-- f is a full consistent assignment
abbrev pub Good : Plant → List ℕ → Type 0
Good p f = Fits (decision_sizes p) f × Consistent p (full f)

-- the store is what is left of the survivors of step 1, which are conflicts, and then all conflicts learned, which are minimal; none contains another, and each survivor contains a stored one
pub record Stored (p : Plant) (survivors : List Assignment) (learned : ℕ) (store : List Assignment) : Type 0 where
  pub left : List Assignment
  pub since : List Assignment
  pub parts : store ≡ left ++ since
  pub count : length since ≡ learned
  pub offered : All (Conflict p) survivors
  pub among : Among left survivors
  pub minimal : All (Minimal p) since
  pub apart : Pairs Neither store
  pub covers : All (ContainsOne store) survivors

-- nodes that a node may give way to: they are parts of it with nothing in common, hold each good f of it, and leave less to do
pub record Children (p : Plant) (n : Assignment) (children : List Assignment) : Type 0 where
  pub inside : All (λ m. (f : List ℕ) → Agree f m → Agree f n) children
  pub apart : Pairs (Apart Agree) children
  pub valid : All (Valid (decision_sizes p)) children
  pub covers : (f : List ℕ) → Good p f → Agree f n → Some (Agree f) children
  pub lighter : weights (decision_sizes p) children < weight (decision_sizes p) n
  pub smaller : rooms (decision_sizes p) children ≤ room (decision_sizes p) n

-- what is queued and what has been listed
pub record Searching (p : Plant) (o : Order) (queue : List Assignment) (listed : List (List ℕ)) : Type 0 where
  pub search : Inv (Before o) (In (decision_sizes p)) (Good p) queue listed
  pub valid : All (Valid (decision_sizes p)) queue
  pub ordered : Ordered o queue
  pub roomy : rooms (decision_sizes p) queue + length listed ≤ product (decision_sizes p)

-- the children of a node: step 4's, by the first stored conflict that it does not resolve, or where it resolves all step 5's, of which a full node has none
abbrev pub children_of : List ℕ → List Assignment → Assignment → List Assignment
children_of ss store n = elim (first_unresolved store n) [ some c ↦ resolving ss n c | none ↦ branching ss n ]

-- why a run ends 'full': a node was removed from a queue that fitted, and its children, without those that manifest a stored conflict, outnumber the free entries, counting the one just freed
pub record Overfull (p : Plant) (o : Order) (entries : ℕ) (store : List Assignment) (listed : List (List ℕ)) : Type 0 where
  pub node : Assignment
  pub rest : List Assignment
  pub searching : Searching p o (node ∷ rest) listed
  pub fitted : length rest < entries
  pub outnumber : entries < length rest + length (leave_off store (children_of (decision_sizes p) store node))

module _ (p : Plant) (o : Order) (k limit : ℕ) (survivors : List Assignment) where
  -- between steps, and at the end
  pub record Kept (s : State) : Type 0 where
    pub searching : Searching p o s.queue s.listed
    pub shown : Each (λ f g. Shows p (full f) (value_bytes g)) s.listed s.shown
    pub store : Stored p survivors s.learned s.store
    pub sum : s.tested ≡ length s.listed + s.learned + s.unkept + strikes s.struck
    pub tested : s.tested ≤ most_tested
    pub trials : s.trials ≤ limit
    pub listed : length s.listed ≤ k

  -- between steps
  pub record Going (s : State) : Type 0 where
    pub kept : Kept s
    pub unstruck : s.struck ≡ false

  -- at the end, with a queue of so many entries
  pub record Done (entries : ℕ) (e : Ending) (s : State) : Type 0 where
    pub kept : Kept s
    pub all-empty : e ≡ all → s.queue ≡ []
    pub enough-listed : e ≡ enough → length s.listed ≡ k
    pub enough-left : e ≡ enough → 0 < length s.queue
    pub struck-spent : s.struck ≡ true → e ≡ Ending.spent
    pub spent_why : e ≡ Ending.spent → (s.trials ≡ limit) ⊎ (s.tested ≡ most_tested)
    pub full-small : e ≡ Ending.full → entries + length s.listed < product (decision_sizes p)
    pub full_why : e ≡ Ending.full → Overfull p o entries s.store s.listed

  -- after a step from s: the run has ended, or goes on with less to do and a queue that fits
  abbrev pub Stepped : ℕ → State → Next → Type 0
  Stepped entries s (ended e t) = Done entries e t
  Stepped entries s (more t) = Going t × (weights (decision_sizes p) t.queue < weights (decision_sizes p) s.queue) × (length t.queue ≤ entries)
