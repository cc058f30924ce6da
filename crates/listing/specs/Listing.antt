-- What the listing over decoded tables answers and leaves, as the model's. Assumes nothing: these are definitions.
use Rattle.std.specs.Prelude.{◌≡◌, Bool, List, map, ℕ, ◌*◌, ◌≤◌, length, replicate, Result, Ok, Err}
use Rattle.model.specs.Lists.{All, Pairs, filled, in_turn}
use Rattle.model.specs.Sheet.{Plant, edition_of}
use Rattle.model.specs.Assignment.{Assignment, code}
use Rattle.model.specs.Conflict.{Conflict}
use Rattle.model.specs.Order.{order_of}
use Rattle.model.specs.Listing.{State, Next, ended}
use Rattle.model.specs.Calls.{refused, answered, Buffers, Counts, counts_of as countsIn, ran, Answer, Called, state_bytes, value_bytes, entry_words, run_of, called_of}
use Rattle.theory.specs.Store.{Neither}
use Rattle.store.specs.Store.{Keeps}
use Rattle.refusal.specs.declared.Refusal.{Refusal as Whose}
use Rattle.refusal.specs.Refusal.{refusal_of}
use Rattle.offers.specs.declared.Offered.{Offered}
use Rattle.judge.specs.declared.Finished.{Finished}
use Rattle.judge.specs.declared.Progress.{Progress}
use Rattle.judge.specs.Standing.{Question, ending_of}
use Rattle.expand.specs.declared.Query.{Query}
use Rattle.expand.specs.Expands.{Tables}
use Rattle.judge.specs.declared.Counts.{Counts as Tallies}
use Rattle.listing.specs.declared.Ran.{Ran}

abbrev pub question : (weighed : Bool) → Plant → ℕ → (codes values : List ℕ) → Question weighed
question weighed p k codes values = record { plant = p; wanted = k; codes = codes; values = values }

abbrev pub buffers : (codes costs values queue store : List ℕ) → Buffers
buffers codes costs values queue store = record { codes = codes; costs = costs; values = values; queue = queue; store = store }

-- ---- over decoded tables

-- room for so many states, for a node, and for the entries offered
pub record Room (k held : ℕ) (codes values queue store : List ℕ) : Type 0 where
  pub codes-room : k ≤ length codes
  pub values-room : state_bytes * k ≤ length values
  pub queue-room : 2 ≤ length queue
  pub store-room : 2 * held ≤ length store

-- before step 1
pub record Lists (query : Query) (held : ℕ) (plan codes values queue store : List ℕ) : Type 0 where
  pub plant : Plant
  pub tables : Tables plant query plan
  pub room : Room query.wanted held codes values queue store

-- how far a run is at its start, after step 1: nothing is listed, tested, learned or left unkept
abbrev pub first : ℕ → Offered → Progress
first queued o = record { queued = queued; stored = o.survivors; counts = record { listed = 0; tested = 0; learned = 0; unkept = 0; trials = o.trials } }

-- the store keeps the survivors of step 1, conflicts of which none contains another, and the trials are within the limit
pub record Survivors (p : Plant) (limit : ℕ) (survivors : List Assignment) (store : List ℕ) (o : Offered) : Type 0 where
  pub keeps : Keeps (length p.costs) store o.survivors survivors
  pub conflicts : All (Conflict p) survivors
  pub apart : Pairs Neither survivors
  pub within : o.trials ≤ limit

-- ---- the answer

abbrev pub counts_of : Tallies → Counts
counts_of c = record { listed = c.listed; tested = c.tested; learned = c.learned; unkept = c.unkept; trials = c.trials }

-- what the call answers
abbrev pub answer_of : Result Ran Whose → Answer
answer_of (Err r) = refused (refusal_of r)
answer_of (Ok r) = answered (ran (ending_of r.ending) (counts_of r.counts))

-- `finish`: the run's ending and counts are told, the queue is zero, and so is the store behind its conflicts
pub record Finishes (f : Finished) (queue store queueAfter storeAfter : List ℕ) (r : Ran) : Type 0 where
  pub ending-is : r.ending ≡ f.ending
  pub counts-are : r.counts ≡ f.progress.counts
  pub queue-is : queueAfter ≡ replicate (length queue) 0
  pub store_is : (d : ℕ) (conflicts : List Assignment) → Keeps d store f.progress.stored conflicts → storeAfter ≡ filled (entry_words conflicts) (replicate (length store) 0)

-- the answer and every lent word are those of the model's call
pub record CalledAs (r : Result Ran Whose) (after : Buffers) (c : Called) : Type 0 where
  pub answer-is : answer_of r ≡ c.answer
  pub after_is : after ≡ c.after

-- an accepted call on this plant, whose figures are weights or costs
abbrev pub plant_call : Bool → Plant → ℕ → Buffers → ℕ → ℕ → Called
plant_call weighed p k b held limit = called_of (order_of (edition_of weighed) p) b (run_of p (order_of (edition_of weighed) p) k b held limit)

-- what a run has told and left: its ending and counts, the codes and the values of its states, zeros in the queue, and its conflicts in the store; the figures are yet to be filled in
pub record RanAs (r : Ran) (codes values queue store codes' values' queue' store' : List ℕ) (n : Next) : Type 0 where
  pub state : State
  pub ends : n ≡ ended (ending_of r.ending) state
  pub counts-are : counts_of r.counts ≡ countsIn state
  pub codes-are : codes' ≡ filled (map code state.listed) codes
  pub values-are : values' ≡ filled (in_turn value_bytes state.shown) values
  pub queue-is : queue' ≡ replicate (length queue) 0
  pub store_is : store' ≡ filled (entry_words state.store) (replicate (length store) 0)
