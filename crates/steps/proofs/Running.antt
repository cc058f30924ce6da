-- The run as a loop: where it has come to, that each turn brings it on by a step and leaves the queue lighter, and that the last turn ends it as the model's run ends. Assumes nothing.
use mathlib.Core.Path.{◌≡◌, refl, sym, ap, ap₂, ◌∙◌}
use mathlib.Core.Bool.{Bool}
use mathlib.Core.List.{List, [], ◌∷◌}
use Prim.Native.Nat.{ℕ, zero, suc, ◌/◌, ◌≤◌, ◌<◌, ◌+◌}
use native.Mathlib.Omega.{arith}
use lib.ListN.{length, take}
use Rattle.std.specs.declared.ops.ControlFlow.TheVariants.{Continue, Break}
use Rattle.plan.specs.Plans.{plan_words}
use Rattle.model.specs.Lists.{All}
use Rattle.model.specs.Sheet.{Plant, edition1, edition_of, decision_sizes}
use Rattle.model.specs.Assignment.{Assignment, Valid, assignment_of}
use Rattle.model.specs.Order.{Order}
use Rattle.model.specs.Listing.{State, Ending, Next, ended, more, weight, step, run}
use Rattle.theory.specs.Plant.{Accepted}
use Rattle.theory.specs.Consistency.{VariablesPresent}
use Rattle.theory.specs.Nodes.{sum_of, weights}
use Rattle.theory.specs.Run.{Stepped}
use Rattle.theory.specs.Tables.{Tabled}
use Rattle.theory.proofs.Lists.{all_map}
use Rattle.theory.proofs.Order.{edition-lawful}
use Rattle.theory.proofs.Test.{accepted-present}
use Rattle.theory.proofs.Run.{step-stepped}
use Rattle.theory.proofs.Tables.{tabled-decisions, tabled-sized}
use Rattle.queue.specs.Order.{Item, entry_of, mask_in, Suits}
use Rattle.queue.specs.Entries.{entries}
use Rattle.queue.specs.Queue.{Holds}
use Rattle.queue.proofs.SumLaws.{sum_map}
use Rattle.queue.proofs.EntryLaws.{values_in, node-back}
use Rattle.queue.proofs.Callers.{edition-suits}
use Rattle.children.proofs.Numbers.{weighed-is}
use Rattle.judge.specs.declared.Progress.{Progress}
use Rattle.judge.specs.declared.Finished.{Finished}
use Rattle.judge.specs.Standing.{Question, order_in, Turn, After, NextIs}
use Rattle.expand.specs.declared.Query.{Query}
use Rattle.steps.specs.Run.{Steps, FinishedAs}

-- ---- what an accepted plant's tables give

module _ {p : Plant} {d : ℕ} {sizes prices counts lits : List ℕ} (t : Tabled p d sizes prices counts lits) where
  pub tabled-present : VariablesPresent p
  tabled-present = accepted-present edition1 p t.accepted

  pub tabled-at-least : All (λ m. 1 ≤ m) (decision_sizes p)
  tabled-at-least = all_map (λ s h. h.0) (decision_sizes p) (tabled-sized t)

-- ---- the queue's weight, read off its words

-- what the node that an entry tells weighs
entry_weight : Bool → List ℕ → Item → ℕ
entry_weight w ss e = weight ss (assignment_of (length ss) (mask_in e.1) (values_in w e))

pub queue_weight : Bool → List ℕ → ℕ → List ℕ → ℕ
queue_weight w ss n words = sum_of (entry_weight w ss) (entries n words)

module _ (ss : List ℕ) (o : Order) (s : Suits ss o) where
  -- an entry weighs what its node weighs
  nodes_weigh : (nodes : List Assignment) → All (Valid ss) nodes → sum_of (λ n. entry_weight o.weighed ss (entry_of o n)) nodes ≡ weights ss nodes
  unfolding entry_weight
  nodes_weigh [] a = refl
  nodes_weigh (n ∷ nodes) a = ap₂ ◌+◌ (ap (weight ss) (node-back ss o n s a.0)) (nodes_weigh nodes a.1)

  -- so the words weigh what the queue weighs that they hold
  pub words_weigh : {n : ℕ} {words : List ℕ} {nodes : List Assignment} → Holds o n words nodes → All (Valid ss) nodes → queue_weight o.weighed ss n words ≡ weights ss nodes
  unfolding queue_weight
  words_weigh {nodes = nodes} h a = sym (h.same (entry_weight o.weighed ss)) ∙ sum_map (entry_of o) (entry_weight o.weighed ss) nodes ∙ nodes_weigh nodes a

-- ---- between two turns

-- a run has come to these words: it ends as the run from the state for which they stand
pub record Reached {weighed : Bool} (q : Question weighed) (k limit : ℕ) (whole : Next) (queue store codes values : List ℕ) (g : Progress) : Type 0 where
  pub state : State
  pub left : ℕ
  pub turn : Turn q limit queue store codes values g state state.queue
  pub enough : weights (decision_sizes q.plant) state.queue < left
  pub same : whole ≡ run q.plant (order_in q) k (length queue / 2) (length store / 2) limit left state

module _ {query : Query} {plan codes values queue store : List ℕ} {g : Progress} (t : Steps query plan codes values queue store g) where
  -- at first
  pub reached-start : (fuel : ℕ) → weights (decision_sizes t.question.plant) t.state.queue < fuel
      → Reached t.question query.wanted query.limit (run t.question.plant (order_in t.question) query.wanted (length queue / 2) (length store / 2) query.limit fuel t.state) queue store codes values g
  reached-start fuel h = record { state = t.state; left = fuel; turn = t.turn; enough = h; same = refl }

  -- a turn may begin
  abbrev pub reached-steps : {whole : Next} {plan' codes' values' queue' store' : List ℕ} {g' : Progress} → length plan' ≡ plan_words
      → Reached t.question query.wanted query.limit whole queue' store' codes' values' g' → Steps query plan' codes' values' queue' store' g'
  reached-steps l r = record {
    question = t.question;
    state = r.state;
    asked = t.asked;
    tables = record { tabled = t.tables.tabled; accepted = t.tables.accepted; prepared = t.tables.prepared; planned = l; preferred-is = t.tables.preferred-is };
    turn = r.turn;
  }

-- ---- a turn

module _ {weighed : Bool} {q : Question weighed} {k limit : ℕ} {whole : Next} {queue store codes values : List ℕ} {g : Progress} (r : Reached q k limit whole queue store codes values g) where
  -- what the model's step makes of the state
  abbrev stepped : Next
  stepped = step q.plant (order_in q) k (length queue / 2) (length store / 2) limit r.state

  -- a step that ends the run
  run-ended : (e : Ending) (s : State) → stepped ≡ ended e s → whole ≡ ended e s
  unfolding run
  run-ended e s h = r.same ∙ go r.left r.enough
    where
      go : (n : ℕ) → weights (decision_sizes q.plant) r.state.queue < n
          → run q.plant (order_in q) k (length queue / 2) (length store / 2) limit n r.state ≡ ended e s
      go zero l = absurd (omega arith)
      go (suc n) l = rw (run, h)

  module _ (queue' store' codes' values' : List ℕ) where
    pub reached-end : {x : After} (f : Finished) → x ≡ Break f → NextIs q queue' store' codes' values' x stepped → FinishedAs q store' codes' values' f whole
    reached-end f e n = go stepped refl (rw e at n)
      where
        go : (x : Next) → stepped ≡ x → NextIs q queue' store' codes' values' (Break f) x → FinishedAs q store' codes' values' f whole
        go (ended e s) h n = record { state = s; ends = run-ended e s h ∙ ap (λ (f : Ending). ended f s) (sym n.0); written = n.1 }
        go (more s) h n = absurd n

    -- a step after which it goes on, with a lighter queue
    pub reached-next : {d : ℕ} {sizes prices counts lits : List ℕ} {x : After} → Tabled q.plant d sizes prices counts lits → Accepted (edition_of weighed) q.plant → q.wanted ≡ k
        → length queue' ≡ length queue → length store' ≡ length store → (next : Progress) → x ≡ Continue next → NextIs q queue' store' codes' values' x stepped
        → Reached q k limit whole queue' store' codes' values' next × (queue_weight weighed (take d sizes) next.queued queue' < queue_weight weighed (take d sizes) g.queued queue)
    unfolding run
    reached-next {d} {sizes} t ok asked le ls next f n = go stepped refl (rw f at n) again
      where
        ss : List ℕ
        ss = decision_sizes q.plant

        suits : Suits (decision_sizes q.plant) (order_in q)
        suits = edition-suits weighed q.plant ok

        is : weighed ≡ (order_in q).weighed
        is = weighed-is weighed q.plant ok

        again : Stepped q.plant (order_in q) k limit r.turn.survivors (length queue / 2) r.state stepped
        again = step-stepped q.plant (order_in q) (edition-lawful weighed q.plant ok) (tabled-present t) k (length queue / 2) (length store / 2) limit r.turn.survivors (tabled-at-least t)
            r.state (rw asked at r.turn.going) (omega (arith, r.turn.standing.room, r.turn.standing.holds.count))

        on : (s : State) → stepped ≡ more s → weights ss s.queue < weights ss r.state.queue → (m : ℕ) → weights ss r.state.queue < m
            → (left : ℕ) × (weights ss s.queue < left)
            × (run q.plant (order_in q) k (length queue / 2) (length store / 2) limit m r.state ≡ run q.plant (order_in q) k (length queue / 2) (length store / 2) limit left s)
        on s h l zero m = absurd (omega arith)
        on s h l (suc left) m = (left, omega arith, rw (run, h))

        go : (x : Next) → stepped ≡ x → NextIs q queue' store' codes' values' (Continue next) x → Stepped q.plant (order_in q) k limit r.turn.survivors (length queue / 2) r.state x
            → Reached q k limit whole queue' store' codes' values' next × (queue_weight weighed (take d sizes) next.queued queue' < queue_weight weighed (take d sizes) g.queued queue)
        go (ended e s) h n a = absurd n
        go (more s) h n a =
            let w = on s h a.1 r.left r.enough in
            let new = words_weigh ss (order_in q) suits n.holds a.0.kept.searching.valid in
            let old = words_weigh ss (order_in q) suits r.turn.standing.holds r.turn.going.kept.searching.valid in (
              record {
                state = s;
                left = w.0;
                turn = record {
                  survivors = r.turn.survivors;
                  going = rw asked a.0;
                  standing = n;
                  codes-room = r.turn.codes-room;
                  values-room = r.turn.values-room;
                };
                enough = w.1;
                same = rw (le, ls) (r.same ∙ w.2);
              },
              rw (← tabled-decisions t, ap (λ (w : Bool). queue_weight w (decision_sizes q.plant) next.queued queue') is ∙ new, ap (λ (w : Bool). queue_weight w (decision_sizes q.plant) g.queued queue) is ∙ old) a.1,
            )
