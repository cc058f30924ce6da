-- What the words of a run stand for between its steps, and what a step makes of them. Assumes nothing: these are definitions.
use Rattle.std.specs.Prelude.{◌≡◌, Bool, List, ◌∷◌, map, ℕ, ◌+◌, ◌*◌, ◌≤◌, ◌<◌, length, set}
use Rattle.std.specs.declared.ops.ControlFlow.{ControlFlow}
use Rattle.std.specs.declared.ops.ControlFlow.TheVariants.{Continue, Break}
use Rattle.model.specs.Lists.{filled, in_turn}
use Rattle.model.specs.Sheet.{Plant, edition_of}
use Rattle.model.specs.Assignment.{Assignment, code}
use Rattle.model.specs.Order.{Order, order_of}
use Rattle.model.specs.Calls.{state_bytes, value_bytes}
use Rattle.model.specs.Listing.{State, Ending, enough, all, full, spent, Next, ended, more, most_tested}
use Rattle.theory.specs.Puts.{written}
use Rattle.theory.specs.Run.{Going}
use Rattle.theory.specs.Tables.{Tabled}
use Rattle.clauses.specs.declared.tables.Decoded.{Decoded}
use Rattle.queue.specs.Queue.{Holds}
use Rattle.store.specs.Store.{Keeps}
use Rattle.children.specs.declared.Node.{Node}
use Rattle.children.specs.Children.{NodeIs}
use Rattle.judge.specs.declared.Progress.{Progress}
use Rattle.judge.specs.declared.Counts.{Counts}
use Rattle.judge.specs.declared.Ending.{Ending as Ended}
use Rattle.judge.specs.declared.Finished.{Finished}

-- what a run is about: a plant whose figures are weights or costs, how many states are wanted, and what codes and values held before
pub record Question (weighed : Bool) : Type 0 where
  pub plant : Plant
  pub wanted : ℕ
  pub codes : List ℕ
  pub values : List ℕ

-- the tables, with these prices, are the plant's
abbrev pub TabledBy : Plant → Decoded → (prices : List ℕ) → Type 0
TabledBy p plant prices = Tabled p plant.decisions plant.sizes.now prices plant.counts.now plant.lits.now

-- the order of its states
abbrev pub order_in : {weighed : Bool} → Question weighed → Order
order_in {weighed} q = order_of (edition_of weighed) q.plant

-- the store, the list and the counts are those of a state
pub record Written {weighed : Bool} (q : Question weighed) (store codes values : List ℕ) (g : Progress) (s : State) : Type 0 where
  pub keeps : Keeps (length q.plant.costs) store g.stored s.store
  pub codes-are : codes ≡ filled (map code s.listed) q.codes
  pub values-are : values ≡ filled (in_turn value_bytes s.shown) q.values
  pub listed-is : g.counts.listed ≡ length s.listed
  pub tested-is : g.counts.tested ≡ s.tested
  pub learned-is : g.counts.learned ≡ s.learned
  pub unkept-is : g.counts.unkept ≡ s.unkept
  pub trials-is : g.counts.trials ≡ s.trials

-- and the queue holds these nodes
pub record Standing {weighed : Bool} (q : Question weighed) (queue store codes values : List ℕ) (g : Progress) (s : State) (nodes : List Assignment) : Type 0 where
  pub holds : Holds (order_in q) g.queued queue nodes
  pub room : 2 * g.queued ≤ length queue
  pub written : Written q store codes values g s

-- ---- a step

-- the words stand for a state of a run that goes on
pub record Turn {weighed : Bool} (q : Question weighed) (limit : ℕ) (queue store codes values : List ℕ) (g : Progress) (s : State) (nodes : List Assignment) : Type 0 where
  pub survivors : List Assignment
  pub going : Going q.plant (order_in q) q.wanted limit survivors s
  pub standing : Standing q queue store codes values g s nodes
  pub codes-room : q.wanted ≤ length q.codes
  pub values-room : state_bytes * q.wanted ≤ length q.values

-- a node has been removed, and fewer states are listed than are wanted
pub record Removed {weighed : Bool} (q : Question weighed) (limit : ℕ) (queue store codes values : List ℕ) (g : Progress) (node : Node) : Type 0 where
  pub state : State
  pub parent : Assignment
  pub rest : List Assignment
  pub turn : Turn q limit queue store codes values g state rest
  pub removed : state.queue ≡ parent ∷ rest
  pub is : NodeIs weighed q.plant parent node
  pub wanting : length state.listed < q.wanted

-- no count can go beyond its greatest
pub record CanCount (k : Counts) : Type 0 where
  pub tested-less : k.tested < most_tested
  pub learned-less : k.learned ≤ k.tested
  pub unkept-less : k.unkept ≤ k.tested

-- ---- what a step made

-- a test more has been made, with so many trials
abbrev pub counted : Counts → ℕ → Counts
counted k trials = record { listed = k.listed; tested = k.tested + 1; learned = k.learned; unkept = k.unkept; trials = trials }

-- a state more has been listed: the node's, whose code and values are written behind the others
pub record ListedOne (k : Counts) (node : Node) (trials : ℕ) (shown codes values codes' values' : List ℕ) (r : Counts) : Type 0 where
  pub codes-are : codes' ≡ set codes k.listed node.code
  pub values-are : values' ≡ written (state_bytes * k.listed) shown values
  pub counts-are : r ≡ record { listed = k.listed + 1; tested = k.tested + 1; learned = k.learned; unkept = k.unkept; trials = trials }

-- the ending's name in the model
abbrev pub ending_of : Ended → Ending
ending_of Ended.Enough = enough
ending_of Ended.All = all
ending_of Ended.Full = full
ending_of Ended.Spent = spent

-- the code's answer after a step
abbrev pub After : Type 0
After = ControlFlow Finished Progress

-- what a step made of the words is what it makes of the state
abbrev pub NextIs : {weighed : Bool} → Question weighed → (queue store codes values : List ℕ) → After → Next → Type 0
NextIs q queue store codes values (Continue g) (more s) = Standing q queue store codes values g s s.queue
NextIs q queue store codes values (Break f) (ended e s) = (ending_of f.ending ≡ e) × Written q store codes values f.progress s
NextIs q queue store codes values (Continue g) (ended e s) = ⊥
NextIs q queue store codes values (Break f) (more s) = ⊥
