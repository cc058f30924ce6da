-- From decoded tables to the run, and what is told and left at its end. Assumes nothing.
use mathlib.Core.Path.{◌≡◌, sym, ap, ◌∙◌}
use mathlib.Core.Bool.{Bool}
use mathlib.Core.List.{List}
use Prim.Native.Nat.{ℕ, ◌*◌, ◌≤◌}
use lib.ListN.{length}
use Rattle.model.specs.Sheet.{Plant, edition_of}
use Rattle.model.specs.Listing.{Next, ended}
use Rattle.model.specs.Tables.{clauses}
use Rattle.theory.specs.Plant.{Accepted}
use Rattle.theory.specs.Value.{PreferredValues}
use Rattle.plan.specs.Plans.{plan_words}
use Rattle.clauses.specs.Tables.{Prepared}
use Rattle.store.proofs.Callers.{keeps-room}
use Rattle.judge.specs.declared.Finished.{Finished}
use Rattle.judge.specs.declared.Ending.{Ending as Ended}
use Rattle.judge.specs.Standing.{Question, TabledBy, ending_of}
use Rattle.expand.specs.declared.Query.{Query}
use Rattle.steps.specs.Run.{FinishedAs}
use Rattle.listing.specs.declared.Ran.{Ran}
use Rattle.listing.specs.Listing.{question, Room, Lists, Finishes, counts_of, RanAs}

-- a plant's tables and buffers with room are what steps 1 to 7 are given
abbrev pub lists_of : {p : Plant} {query : Query} {held : ℕ} {plan codes values queue store : List ℕ} → TabledBy p query.plant query.prices.now
    → Accepted (edition_of query.weighed) p → Prepared (clauses query.plant.counts.now query.plant.lits.now) query.plant.sat.now query.plant.uses.now → length plan ≡ plan_words
    → PreferredValues query.weighed p query.preferred → Room query.wanted held codes values queue store → Lists query held plan codes values queue store
lists_of {p = p} t ok s l e r = record { plant = p; tables = record { tabled = t; accepted = ok; prepared = s; planned = l; preferred-is = e }; room = r }

-- the store has room for the conflicts that it keeps at the end
pub finished_room : {weighed : Bool} {q : Question weighed} {store codes values : List ℕ} {f : Finished} {n : Next} → FinishedAs q store codes values f n → 2 * f.progress.stored ≤ length store
finished_room h = keeps-room h.written.keeps

-- what is told after the queue and the store have been zeroed is what the model's run ends with
pub finished_ran : (weighed : Bool) (p : Plant) (k : ℕ) (codes values queue store : List ℕ) {codesEnd valuesEnd queueEnd storeEnd queueAfter storeAfter : List ℕ} {f : Finished} {r : Ran} {n : Next}
    → FinishedAs (question weighed p k codes values) storeEnd codesEnd valuesEnd f n → length queueEnd ≡ length queue → length storeEnd ≡ length store → Finishes f queueEnd storeEnd queueAfter storeAfter r
    → RanAs r codes values queue store codesEnd valuesEnd queueAfter storeAfter n
finished_ran weighed p k codes values queue store h eq es g =
    let w = h.written in
    record {
      state = h.state;
      ends = h.ends ∙ ap (λ (e : Ended). ended (ending_of e) h.state) (sym g.ending-is);
      counts-are = ap counts_of g.counts-are ∙ rw (w.listed-is, w.tested-is, w.learned-is, w.unkept-is, w.trials-is);
      codes-are = w.codes-are;
      values-are = w.values-are;
      queue-is = rw (← eq) g.queue-is;
      store_is = rw (← es) (g.store_is _ _ w.keeps);
    }
