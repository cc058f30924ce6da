-- What steps 4 to 6 make of the words is what they make of the state: a node's children are put into the queue. Assumes nothing.
use mathlib.Core.Path.{◌≡◌, refl, sym, ◌∙◌}
use mathlib.Core.Bool.{Bool, true, false}
use mathlib.Core.Option.{none, some}
use mathlib.Core.List.{List, [], ◌∷◌}
use Prim.Native.Nat.{ℕ, ◌+◌, ◌*◌, ◌/◌, ◌≤◌}
use native.Mathlib.Omega.{arith}
use lib.ListN.{length, length-map}
use borrow.Author.Tests.{ltb-false}
use Rattle.std.proofs.Common.{Option, Some, None, Result, Ok, Err}
use Rattle.model.specs.Lists.{All}
use Rattle.model.specs.Sheet.{Plant, decision_sizes}
use Rattle.model.specs.Assignment.{Assignment, Valid, is_full}
use Rattle.model.specs.Conflict.{Conflict, resolves}
use Rattle.model.specs.Listing.{State, first_unresolved, resolving, branching, leave_off, put_children, judge, expand}
use Rattle.theory.specs.Words.{Words, Wide}
use Rattle.theory.specs.Tables.{Tabled}
use Rattle.theory.proofs.Agreement.{valid_length}
use Rattle.theory.proofs.Learned.{stored-conflicts}
use Rattle.theory.proofs.Tables.{tabled-count, tabled-few, tabled-decisions, tabled-sized}
use Rattle.store.specs.Store.{Keeps, Tells}
use Rattle.words.specs.declared.Pair.{Pair}
use Rattle.store.proofs.Callers.{keeps-room}
use Rattle.children.specs.declared.Node.{Node}
use Rattle.children.specs.declared.Full.{Full}
use Rattle.children.specs.declared.Choices.{Choices}
use Rattle.children.specs.Children.{Choosable, Tables as Choosing, NodeIs, Step, PutOf, Puts}
use Rattle.children.proofs.Numbers.{words_are}
use Rattle.children.proofs.Callers.{tables_of_lem}
use Rattle.conflict.specs.Given.{ReadyFor}
use Rattle.conflict.proofs.Given.{tabled-ready}
use Rattle.judge.specs.declared.Progress.{Progress}
use Rattle.judge.specs.Standing.{Question, order_in, Written, Removed, After, NextIs}
use Rattle.expand.specs.declared.Query.{Query}
use Rattle.expand.specs.Expands.{Expands, queuing, PutNext}

-- the first unresolved conflict is one of the store's
unresolved : (p : Plant) (n c : Assignment) (store : List Assignment) → All (Conflict p) store → first_unresolved store n ≡ some c → Conflict p c
unresolved p n c [] a e = let z : ◌≡◌ {A = ℕ} 0 1 = cc in absurd (omega arith)
unresolved p n c (d ∷ store) a e = go (resolves n d) refl (unresolved p n c store a.1)
  where
    go : (b : Bool) → resolves n d ≡ b → (first_unresolved store n ≡ some c → Conflict p c) → Conflict p c
    go true f ih = ih (rw (first_unresolved, f) at e)
    go false f ih = let h : some d ≡ some c = rw (first_unresolved, f) at e in let same : d ≡ c = cc in rw same at a.0

-- what is written down does not tell of the queue
pub queued-written : {weighed : Bool} {q : Question weighed} {store codes values : List ℕ} {g : Progress} {s : State} → Written q store codes values g s → (n : ℕ) (nodes : List Assignment)
    → Written q store codes values (queuing g n)
    (record { queue = nodes; store = s.store; listed = s.listed; shown = s.shown; tested = s.tested; learned = s.learned; unkept = s.unkept; trials = s.trials; struck = s.struck })
queued-written w n nodes = record {
  keeps = w.keeps;
  codes-are = w.codes-are;
  values-are = w.values-are;
  listed-is = w.listed-is;
  tested-is = w.tested-is;
  learned-is = w.learned-is;
  unkept-is = w.unkept-is;
  trials-is = w.trials-is;
}

module _ {weighed : Bool} {q : Question weighed} {limit : ℕ} {queue store codes values : List ℕ} {g : Progress} {node : Node} (t : Removed q limit queue store codes values g node) where
  -- what the step's words stand for
  abbrev pub removed-step : Step weighed node queue g.queued store g.stored
  removed-step = record {
    plant = q.plant;
    parent = t.parent;
    conflicts = t.state.store;
    rest = t.rest;
    is = t.is;
    keeps = t.turn.standing.written.keeps;
    holds = t.turn.standing.holds;
    room = t.turn.standing.room;
  }

  -- the store's room
  pub removed-room : 2 * g.stored ≤ length store
  removed-room = keeps-room t.turn.standing.written.keeps

  -- a node has a place for each decision variable
  parent_length : length t.parent ≡ length q.plant.costs
  parent_length = valid_length (decision_sizes q.plant) t.parent t.is.valid ∙ length-map q.plant.costs length

  -- the store's answer for the node's words is the model's for the node
  module _ {wide held : ℕ} (r : Option Pair) (words : (w : Bool) (p : Plant) (n : Assignment) → NodeIs w p n node → Wide n wide held)
      (answer : (d : ℕ) (conflicts : List Assignment) (n : Assignment) → Keeps d store g.stored conflicts → Wide n wide held → length n ≡ d → Tells r (first_unresolved conflicts n)) where
    told : Tells r (first_unresolved t.state.store t.parent)
    told = answer (length q.plant.costs) t.state.store t.parent t.turn.standing.written.keeps
        (words weighed q.plant t.parent t.is) parent_length

    -- that conflict, by its words
    pub found-one : {found : Pair} → r ≡ Some found → (c : Assignment) × (first_unresolved t.state.store t.parent ≡ some c) × Words c found.mask found.values
    found-one f = rw f at told

    -- or none
    pub found_none : r ≡ None → first_unresolved t.state.store t.parent ≡ none
    found_none f = rw f at told

  -- whether the node's words are those of a full assignment
  pub removed-full : {d : ℕ} {sizes prices counts lits : List ℕ} {r b : Bool} → Tabled q.plant d sizes prices counts lits
      → ((a : Assignment) (values : ℕ) → Words a node.mask values → length a ≡ d → r ≡ is_full a) → r ≡ b → is_full t.parent ≡ b
  removed-full tabled answer e = sym (answer t.parent _ (words_are t.is) (parent_length ∙ tabled-count tabled)) ∙ e

  -- a conflict that is found in the store is valid
  pub removed-valid : (c : Assignment) → first_unresolved t.state.store t.parent ≡ some c → Valid (decision_sizes q.plant) c
  removed-valid c e = (unresolved q.plant t.parent c t.state.store (stored-conflicts q.plant t.turn.going.kept.store) e).valid

  -- ---- the children have been put into the queue, or are too many

  module _ (after : List ℕ) (same : length after ≡ length queue) where
    -- step 6
    put_is : (children : List Assignment) (r : Result ℕ Full) (n : After) → Puts removed-step children after r → PutNext g r n
        → NextIs q after store codes values n (put_children q.plant (order_in q) q.wanted (length queue / 2) (length store / 2) limit t.state t.rest children)
    unfolding PutOf put_children
    put_is children (Err full) n h e = rw (e, put_children, h) (refl, t.turn.standing.written)
    put_is children (Ok m) n h e =
        let others = leave_off t.state.store children in
        let w = t.turn.standing.written in
        rw (e, put_children, h.0) (record {
          holds = h.2;
          room = omega (arith, h.1, ltb-false (length queue / 2) (length t.rest + length others) h.0);
          written = queued-written w _ _;
        })

    -- step 4
    pub resolved_is : (c : Assignment) (r : Result ℕ Full) (n : After) → first_unresolved t.state.store t.parent ≡ some c
        → Puts removed-step (resolving (decision_sizes q.plant) t.parent c) after r → PutNext g r n
        → NextIs q after store codes values n (expand q.plant (order_in q) q.wanted (length queue / 2) (length store / 2) limit t.state t.rest t.parent)
    unfolding expand
    resolved_is c r n f h e = rw (expand, f) (put_is (resolving (decision_sizes q.plant) t.parent c) r n h e)

    -- step 5
    pub branched_is : (r : Result ℕ Full) (n : After) → first_unresolved t.state.store t.parent ≡ none → is_full t.parent ≡ false
        → Puts removed-step (branching (decision_sizes q.plant) t.parent) after r → PutNext g r n
        → NextIs q after store codes values n (expand q.plant (order_in q) q.wanted (length queue / 2) (length store / 2) limit t.state t.rest t.parent)
    unfolding expand
    branched_is r n f b h e = rw (expand, f, b) (put_is (branching (decision_sizes q.plant) t.parent) r n h e)

  -- step 7
  pub judged-is : first_unresolved t.state.store t.parent ≡ none → is_full t.parent ≡ true
      → judge q.plant (order_in q) q.wanted (length queue / 2) (length store / 2) limit t.state t.rest t.parent
      ≡ expand q.plant (order_in q) q.wanted (length queue / 2) (length store / 2) limit t.state t.rest t.parent
  unfolding expand
  judged-is f b = rw (expand, f, b) refl

-- what the functions that it calls are given
module _ {query : Query} {plan codes values queue store : List ℕ} {g : Progress} {node : Node} (t : Expands query plan codes values queue store g node) where
  -- what children are made of
  abbrev pub choices : Choices
  choices = record { decisions = query.plant.decisions; sizes = query.plant.sizes; prices = query.prices; weighed = query.weighed; preferred = query.preferred }

  pub choices-tables : Choosing t.question.plant choices
  choices-tables = tables_of_lem t.tables.tabled t.tables.preferred-is

  pub children_given : Choosable choices × (2 * g.stored ≤ length store)
  children_given =
      let tabled = t.tables.tabled in
      (record { few = tabled-few tabled; sizes-long = tabled.decisions; prices-long = tabled.cost-room; sized = rw (tabled-decisions tabled) at (tabled-sized tabled) }, removed-room t.taken)

  pub judge-given : ReadyFor query.plant plan × ((q : Question query.weighed) × Removed q query.limit queue store codes values g node)
  judge-given = (tabled-ready t.tables.tabled t.tables.prepared t.tables.planned, (t.question, t.taken))
