-- What step 3 makes of the words is what it makes of the state: a node is removed. Assumes nothing.
use mathlib.Core.Path.{◌≡◌, refl, ap, ◌∙◌}
use mathlib.Core.Bool.{true}
use mathlib.Core.List.{List, [], ◌∷◌}
use Prim.Native.Nat.{ℕ, ◌-◌, ◌/◌, ◌≤◌, ◌<◌}
use native.Mathlib.Omega.{arith}
use lib.Dec.{ltb}
use lib.ListN.{length}
use borrow.Author.Tests.{lt-ltb, le-ltb}
use Rattle.std.specs.declared.ops.ControlFlow.TheVariants.{Break}
use Rattle.model.specs.Lists.{All}
use Rattle.model.specs.Sheet.{Plant, edition_of, decision_sizes}
use Rattle.model.specs.Assignment.{Assignment, Valid}
use Rattle.model.specs.Order.{Order, order_of}
use Rattle.model.specs.Listing.{State, expand, remove, step}
use Rattle.theory.specs.Plant.{Accepted}
use Rattle.theory.specs.Nodes.{Ordered}
use Rattle.theory.specs.Run.{Searching}
use Rattle.queue.specs.Order.{entry_of, Keyed}
use Rattle.queue.specs.Queue.{Holds}
use Rattle.queue.proofs.Callers.{edition-suits}
use Rattle.queue.proofs.EntryLaws.{suits_keyed}
use Rattle.children.specs.declared.Node.{Node}
use Rattle.children.specs.Children.{NodeIs}
use Rattle.judge.specs.declared.Progress.{Progress}
use Rattle.judge.specs.declared.Ending.{Ending}
use Rattle.judge.specs.Standing.{order_in, Removed, NextIs}
use Rattle.expand.specs.declared.Query.{Query}
use Rattle.expand.specs.Expands.{Expands, queuing}
use Rattle.expand.proofs.Expanding.{queued-written}
use Rattle.steps.specs.Run.{Steps}

-- a list with no elements, and one with some
no_elements : (xs : List Assignment) → length xs ≡ 0 → xs ≡ []
no_elements [] e = refl
no_elements (x ∷ xs) e = absurd (omega arith)

first_element : (xs : List Assignment) → 0 < length xs → (n : Assignment) × (rest : List Assignment) × (xs ≡ n ∷ rest)
first_element [] h = absurd (omega arith)
first_element (x ∷ xs) h = (x, xs, refl)

-- the node in front is removed
step-expand : (p : Plant) (o : Order) {k wanted entries others : ℕ} (places limit : ℕ) (s : State) (n : Assignment) (rest : List Assignment) → wanted ≡ k → others ≡ entries
    → ltb (length s.listed) k ≡ true → s.queue ≡ n ∷ rest → expand p o wanted others places limit s rest n ≡ step p o k entries places limit s
unfolding step remove
step-expand p o {k} {entries = entries} places limit s n rest a b e f = rw (step, ap (remove p o k entries places limit s) f, remove, e, a, b) refl

module _ {query : Query} {plan codes values queue store : List ℕ} {g : Progress} (t : Steps query plan codes values queue store g) where
  -- the queue has no nodes
  pub step-all : g.queued ≡ 0
      → NextIs t.question queue store codes values (Break (record { ending = Ending.All; progress = g })) (step t.question.plant (order_in t.question) query.wanted (length queue / 2) (length store / 2) query.limit t.state)
  unfolding step remove
  step-all h =
      let p = t.question.plant in
      rw (step, ap (remove p (order_of (edition_of query.weighed) p) query.wanted (length queue / 2) (length store / 2) query.limit t.state) (no_elements t.state.queue (t.turn.standing.holds.count ∙ h)))
      (refl, t.turn.standing.written)

  module _ (filled : 0 < g.queued) where
    -- the node in front
    front : (n : Assignment) × (rest : List Assignment) × (t.state.queue ≡ n ∷ rest)
    front = first_element t.state.queue (omega (arith, t.turn.standing.holds.count))

    -- as many states are listed as are wanted
    pub step-enough : query.wanted ≤ g.counts.listed
        → NextIs t.question queue store codes values (Break (record { ending = Ending.Enough; progress = g })) (step t.question.plant (order_in t.question) query.wanted (length queue / 2) (length store / 2) query.limit t.state)
    unfolding step remove
    step-enough h =
        let p = t.question.plant in
        let w = t.turn.standing.written in
        rw (step, ap (remove p (order_of (edition_of query.weighed) p) query.wanted (length queue / 2) (length store / 2) query.limit t.state) front.2, remove, le-ltb (length t.state.listed) query.wanted (omega (arith, w.listed-is)))
        (refl, w)

    module _ (wanting : g.counts.listed < query.wanted) where
      fewer : ltb (length t.state.listed) query.wanted ≡ true
      fewer = lt-ltb (length t.state.listed) query.wanted (omega (arith, t.turn.standing.written.listed-is))

      searched : Searching t.question.plant (order_in t.question) (front.0 ∷ front.1) t.state.listed
      searched = rw front.2 at t.turn.going.kept.searching

      -- the queue has one entry less
      abbrev pub one_less : Progress
      one_less = queuing g (g.queued - 1)

      module _ (after : List ℕ) (same : length after ≡ length queue) (a b : ℕ) (node : Node)
          (popped : (ss : List ℕ) (o : Order) (n : Assignment) (rest : List Assignment) → Keyed ss o → All (Valid ss) (n ∷ rest) → Ordered o (n ∷ rest) → Holds o g.queued queue (n ∷ rest) → ((a, b) ≡ entry_of o n) × Holds o (g.queued - 1) after rest)
          (read : (p : Plant) (n : Assignment) → Accepted (edition_of query.weighed) p → Valid (decision_sizes p) n → (a, b) ≡ entry_of (order_of (edition_of query.weighed) p) n → NodeIs query.weighed p n node) where
        taken_out : ((a, b) ≡ entry_of (order_in t.question) front.0) × Holds (order_in t.question) (g.queued - 1) after front.1
        taken_out =
            let ss = decision_sizes t.question.plant in
            popped ss (order_in t.question) front.0 front.1 (suits_keyed ss (order_in t.question) (edition-suits query.weighed t.question.plant t.tables.accepted)) searched.valid searched.ordered (rw front.2 at t.turn.standing.holds)

        -- what the words stand for without it
        pub left : Removed t.question query.limit after store codes values one_less node
        left =
            let w = t.turn.standing.written in
            record {
              state = t.state;
              parent = front.0;
              rest = front.1;
              turn = record {
                survivors = t.turn.survivors;
                going = t.turn.going;
                standing = record {
                  holds = taken_out.1;
                  room = omega (arith, t.turn.standing.room);
                  written = queued-written w (g.queued - 1) t.state.queue;
                };
                codes-room = t.turn.codes-room;
                values-room = t.turn.values-room;
              };
              removed = front.2;
              is = read t.question.plant front.0 t.tables.accepted searched.valid.0 taken_out.0;
              wanting = omega (arith, w.listed-is, t.asked);
            }

        abbrev pub removes : Expands query plan codes values after store one_less node
        removes = record { question = t.question; tables = t.tables; taken = left }

        -- the rest of the step is the model's
        pub step-removed : expand t.question.plant (order_in t.question) t.question.wanted (length after / 2) (length store / 2) query.limit left.state left.rest left.parent
            ≡ step t.question.plant (order_in t.question) query.wanted (length queue / 2) (length store / 2) query.limit t.state
        unfolding left
        step-removed = step-expand t.question.plant (order_in t.question) (length store / 2) query.limit t.state front.0 front.1 t.asked (ap (λ (l : ℕ). l / 2) same) fewer front.2
