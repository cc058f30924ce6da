-- How a run starts: the empty assignment as a node, the words with it in the queue, and the survivors of step 1. Assumes nothing.
use mathlib.Core.Path.{◌≡◌, refl, sym, ap, ◌∙◌, subst}
use mathlib.Core.Bool.{Bool, true}
use mathlib.Core.List.{List, [], ◌∷◌, map}
use Prim.Native.Nat.{ℕ, ◌/◌, ◌≤◌, ◌<◌}
use native.Mathlib.Omega.{arith}
use lib.ListN.{length, replicate}
use Rattle.std.specs.Prelude.{Ok, Err}
use Rattle.plan.specs.Plans.{plan_words}
use Rattle.model.specs.Lists.{place}
use Rattle.model.specs.Sheet.{Plant, edition_of, decision_sizes}
use Rattle.model.specs.Digits.{number, digits}
use Rattle.model.specs.Assignment.{Assignment, Fits, bit, code}
use Rattle.model.specs.Order.{Order, figure_of, best_value, best, order_of}
use Rattle.model.specs.Listing.{Checked, checked, broken_off, check_offers, enqueue, unassigned, start, enough_steps, run, listing}
use Rattle.model.specs.Calls.{offers_of}
use Rattle.theory.specs.Nodes.{weights}
use Rattle.theory.specs.Tables.{Tabled}
use Rattle.theory.specs.Plant.{Accepted}
use Rattle.theory.specs.Value.{PreferredValues}
use Rattle.theory.specs.Words.{sixteens}
use Rattle.theory.proofs.Digits.{number-zeros}
use Rattle.theory.proofs.Nodes.{unassigned-valid}
use Rattle.theory.proofs.Bounds.{few-weighed}
use Rattle.theory.proofs.Figures.{figure_of_code}
use Rattle.theory.proofs.Order.{edition-lawful}
use Rattle.theory.proofs.Tables.{tabled-count, tabled-rows}
use Rattle.theory.proofs.Value.{handed-is, edition-few, edition-weighed}
use Rattle.theory.proofs.Listing.{Survived, offers-survive, start-going}
use Rattle.figures.specs.Weights.{ReadsWeights}
use Rattle.figures.proofs.Listed.{reads-weights}
use Rattle.queue.specs.Order.{Suits}
use Rattle.queue.specs.Queue.{Holds}
use Rattle.queue.proofs.Callers.{edition-suits}
use Rattle.children.specs.Children.{NodeIs}
use Rattle.offers.specs.declared.Offered.{Offered}
use Rattle.judge.specs.declared.Progress.{Progress}
use Rattle.judge.specs.declared.Ending.{Ending as Ended}
use Rattle.judge.specs.declared.Finished.{Finished}
use Rattle.offers.specs.Offers.{OfferedAs}
use Rattle.judge.specs.Standing.{Written, Turn}
use Rattle.expand.specs.declared.Query.{Query}
use Rattle.steps.specs.Run.{Steps, FinishedAs}
use Rattle.steps.proofs.Running.{tabled-present, tabled-at-least}
use Rattle.listing.specs.Listing.{question, Lists, first, Survivors}

-- ---- the empty assignment as a node

-- no bit of its mask is set
no_bits : (ss : List ℕ) → map bit (unassigned ss) ≡ replicate (length ss) 0
no_bits [] = refl
no_bits (s ∷ ss) = ap {B = List ℕ} (λ r. 0 ∷ r) (no_bits ss)

-- its best state has the preferred values
best-unassigned : (ss xs : List ℕ) → Fits ss xs → best xs (unassigned ss) ≡ xs
best-unassigned [] [] h = refl
best-unassigned [] (x ∷ xs) h = absurd h
best-unassigned (s ∷ ss) [] h = absurd h
best-unassigned (s ∷ ss) (x ∷ xs) h = ap {B = List ℕ} (λ r. x ∷ r) (best-unassigned ss xs h.1)

module _ (w : Bool) {p : Plant} {d : ℕ} {sizes prices counts lits : List ℕ} (t : Tabled p d sizes prices counts lits) (ok : Accepted (edition_of w) p) where
  abbrev o : Order
  o = order_of (edition_of w) p

  suits : Suits (decision_sizes p) o
  suits = edition-suits w p ok

  -- a code's figure by the table is the order's
  preferred-figure : figure_of w (sixteens d prices) (digits 16 16 (code o.preferred)) ≡ o.figure o.preferred
  unfolding order_of
  preferred-figure = rw (← tabled-count t, edition-weighed w) (figure_of_code w p.costs prices (map (best_value w) p.costs) (edition-few w p ok) suits.small (tabled-rows t) (rw (edition-weighed w) at suits.preferred))

  -- with weights there are at most eight decision variables, and what is read of the preferred values is below 256
  pub root_few : w ≡ true → d ≤ 8
  root_few e = rw (tabled-count t) at (few-weighed p (subst (λ (u : Bool). Accepted (edition_of u) p) e ok))

  root_reads : (preferred : ℕ) → PreferredValues w p preferred → w ≡ true → ReadsWeights d prices preferred
  root_reads preferred h e = rw (handed-is w p ok preferred h, ← tabled-count t) (reads-weights w p prices ok (tabled-rows t) e o.preferred suits.preferred)

  pub root_is : (preferred figure : ℕ) → ((w ≡ true → ReadsWeights d prices preferred) → figure ≡ figure_of w (sixteens d prices) (digits 16 16 preferred)) → PreferredValues w p preferred
      → NodeIs w p (unassigned (decision_sizes p)) (record { mask = 0; code = preferred; figure = figure })
  root_is preferred figure c h =
      let e : preferred ≡ code o.preferred = handed-is w p ok preferred h in
      let b : best o.preferred (unassigned (decision_sizes p)) ≡ o.preferred = best-unassigned (decision_sizes p) o.preferred suits.preferred in
      record {
        accepted = ok;
        valid = unassigned-valid (decision_sizes p);
        mask_is = sym (ap (number 2 64) (no_bits (decision_sizes p)) ∙ number-zeros 2 64 (length (decision_sizes p)));
        code_is = e ∙ ap code (sym b);
        figure-is = c (root_reads preferred h) ∙ ap (λ (n : ℕ). figure_of w (sixteens d prices) (digits 16 16 n)) e ∙ preferred-figure ∙ ap o.figure (sym b);
      }

-- ---- the words at the start

-- the store, the list and the counts are those of the start
start-written : (weighed : Bool) {p : Plant} {limit : ℕ} {survivors : List Assignment} {store : List ℕ} {o : Offered} (k : ℕ) (codes values : List ℕ) (queued : ℕ)
    → Survivors p limit survivors store o → Written (question weighed p k codes values) store codes values (first queued o) (start (decision_sizes p) survivors o.trials)
unfolding start
start-written weighed k codes values queued s = record {
  keeps = s.keeps;
  codes-are = refl;
  values-are = refl;
  listed-is = refl;
  tested-is = refl;
  learned-is = refl;
  unkept-is = refl;
  trials-is = refl;
}

module _ {query : Query} {held : ℕ} {plan codes values queue store : List ℕ} (t : Lists query held plan codes values queue store) where
  -- what the tables give still holds with another plan and another store
  abbrev pub lists-again : {plan' store' : List ℕ} → length plan' ≡ plan_words → Lists query 0 plan' codes values queue store'
  lists-again l = record {
    plant = t.plant;
    tables = record { tabled = t.tables.tabled; accepted = t.tables.accepted; prepared = t.tables.prepared; planned = l; preferred-is = t.tables.preferred-is };
    room = record { codes-room = t.room.codes-room; values-room = t.room.values-room; queue-room = t.room.queue-room; store-room = omega arith };
  }

  module _ {survivors : List Assignment} {store' : List ℕ} {o : Offered} (s : Survivors t.plant query.limit survivors store' o) where
    -- with the root in the queue
    pub start-turn : (queue' : List ℕ) → length queue' ≡ length queue → Holds (order_of (edition_of query.weighed) t.plant) 1 queue' (enqueue (order_of (edition_of query.weighed) t.plant) (unassigned (decision_sizes t.plant)) [])
        → Turn (question query.weighed t.plant query.wanted codes values) query.limit queue' store' codes values (first 1 o) (start (decision_sizes t.plant) survivors o.trials) (start (decision_sizes t.plant) survivors o.trials).queue
    unfolding start place
    start-turn queue' e h =
        let b = t.tables.tabled in
        record {
          survivors = survivors;
          going = start-going t.plant (order_of (edition_of query.weighed) t.plant) (edition-lawful query.weighed t.plant t.tables.accepted) (tabled-present b) (tabled-at-least b) query.wanted query.limit survivors o.trials s.conflicts s.apart s.within;
          standing = record { holds = h; room = omega (arith, t.room.queue-room); written = start-written query.weighed query.wanted codes values 1 s };
          codes-room = t.room.codes-room;
          values-room = t.room.values-room;
        }

    abbrev pub start-steps : {g : Progress} → g ≡ first 1 o → (queue' : List ℕ) → length queue' ≡ length queue → Holds (order_of (edition_of query.weighed) t.plant) 1 queue' (enqueue (order_of (edition_of query.weighed) t.plant) (unassigned (decision_sizes t.plant)) [])
        → Steps query plan codes values queue' store' g
    start-steps f queue' e h = record {
      question = question query.weighed t.plant query.wanted codes values;
      state = start (decision_sizes t.plant) survivors o.trials;
      asked = refl;
      tables = t.tables;
      turn = rw f (start-turn queue' e h);
    }

-- the queue weighs less than the steps allowed
pub start-enough : (ss : List ℕ) (survivors : List Assignment) (used : ℕ) → weights ss (start ss survivors used).queue < enough_steps ss
unfolding start enough_steps
start-enough ss survivors used = omega arith

-- ---- step 1

module _ {query : Query} {held : ℕ} {plan codes values queue store : List ℕ} (t : Lists query held plan codes values queue store) where
  -- how step 1 ends
  abbrev offered : Checked
  offered = check_offers t.plant query.limit [] (offers_of held store) 0

  survived : Survived t.plant query.limit (offers_of held store) offered
  survived = offers-survive t.plant (tabled-present t.tables.tabled) query.limit (offers_of held store)

  module _ {after : List ℕ} {o : Offered} where
    -- all were checked: the survivors are conflicts
    pub checked-survivors : (s : OfferedAs t.plant after (Ok o) offered) → Survivors t.plant query.limit s.0 after o
    checked-survivors s = let a : Survived t.plant query.limit (offers_of held store) (checked s.0 o.trials) = rw s.2 at survived in record { keeps = s.1; conflicts = a.0.conflicts; apart = a.0.apart; within = a.1 }

    -- and the listing is the run from there
    pub checked-ends : (f : Finished) (codes' values' : List ℕ) (s : OfferedAs t.plant after (Ok o) offered) (store' : List ℕ) → length after ≡ length store
        → FinishedAs (question query.weighed t.plant query.wanted codes values) store' codes' values' f
        (run t.plant (order_of (edition_of query.weighed) t.plant) query.wanted (length queue / 2) (length after / 2) query.limit (enough_steps (decision_sizes t.plant)) (start (decision_sizes t.plant) s.0 o.trials))
        → FinishedAs (question query.weighed t.plant query.wanted codes values) store' codes' values' f
        (listing t.plant (order_of (edition_of query.weighed) t.plant) query.wanted (length queue / 2) (length store / 2) (offers_of held store) query.limit)
    unfolding listing
    checked-ends f codes' values' s store' e h = rw (listing, s.2, ← e) h

    -- the limit struck before the last
    pub broken_ends : {g : Progress} → g ≡ first 0 o → OfferedAs t.plant after (Err o) offered
        → FinishedAs (question query.weighed t.plant query.wanted codes values) after codes values (record { ending = Ended.Spent; progress = g })
        (listing t.plant (order_of (edition_of query.weighed) t.plant) query.wanted (length queue / 2) (length store / 2) (offers_of held store) query.limit)
    unfolding listing
    broken_ends f s =
        let a : Survived t.plant query.limit (offers_of held store) (broken_off s.0 o.trials) = rw s.2 at survived in
        let within : o.trials ≤ query.limit = omega (arith, a.4) in
        record {
          state = start (decision_sizes t.plant) s.0 o.trials;
          ends = rw (listing, s.2);
          written = rw f (start-written query.weighed query.wanted codes values 0 (record { keeps = s.1; conflicts = a.3.conflicts; apart = a.3.apart; within = within }));
        }
