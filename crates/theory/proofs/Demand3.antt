-- Demand 3 of every accepted call, and what follows for two runs. Assumes nothing.
use mathlib.Core.Path.{◌≡◌, refl, sym, ◌∙◌, ap, subst}
use mathlib.Core.Logic.{◌⊎◌, inl, inr}
use mathlib.Core.Bool.{Bool, true, false}
use mathlib.Core.Option.{Option, none, some}
use mathlib.Core.List.{List, [], ◌∷◌, map, map-append}
use Prim.Native.Nat.{ℕ, zero, suc, ◌*◌, ◌/◌, ◌≤◌, ◌<◌}
use native.Mathlib.Omega.{arith}
use borrow.Author.Tests.{ltb-false}
use lib.Dec.{ltb}
use lib.ListN.{length, get_or, take, replicate, length-map}
use Rattle.model.specs.Lists.{Some, Mem, All, Pairs, Begins, filled, in_turn}
use Rattle.model.specs.Sheet.{Plant, Read, got, edition_of, read_sheet, decision_sizes, sizes}
use Rattle.model.specs.Assignment.{Assignment, code, full}
use Rattle.model.specs.Conflict.{Conflict}
use Rattle.model.specs.Order.{Order, Before, order_of, Entry, entry_of, leading_states, whole_set}
use Rattle.model.specs.Listing.{State, Ending, ended}
use Rattle.model.specs.Calls.{Ground, first_given, odd, Buffers, host_grounds, offers_of, state_bytes, value_bytes, entry_words, buffers_after, counts_of, entries_of, run_list, called_of, run_of, listing_with}
use Rattle.theory.specs.BestFirst.{Inv}
use Rattle.theory.specs.Plant.{Accepted, Sized}
use Rattle.theory.specs.Order.{In, Lawful}
use Rattle.theory.specs.Store.{offered_in, Remembered, FromOffers}
use Rattle.theory.specs.Run.{Good, Stored, Overfull, Done}
use Rattle.theory.specs.Demand3.{Demand3, Promised}
use Rattle.theory.proofs.Lists.{at-member, all-at, all_map, all_image, or_neither}
use Rattle.theory.proofs.Filled.{filled_take, filled-drop, filled_at}
use Rattle.theory.proofs.BestFirst.{listed-first, listed-all}
use Rattle.theory.proofs.BruteForce.{is-consistent}
use Rattle.theory.proofs.Whole.{leading_sound, leading_complete, leading_ascending}
use Rattle.theory.proofs.Order.{code_injective, edition-lawful}
use Rattle.theory.proofs.Sheet.{accepted_any}
use Rattle.theory.proofs.Value.{edition-few}
use Rattle.theory.proofs.Test.{accepted-present}
use Rattle.theory.proofs.Store.{among-all, among_trans}
use Rattle.theory.proofs.Learned.{stored-places, stored_remembers}
use Rattle.theory.proofs.Listing.{listing-done}
use Rattle.theory.proofs.Shown.{accepted-few, shown-bytes, shown-at}

-- ---- the whole set and a run's states

module _ (p : Plant) (o : Order) where
  -- the members of the whole set's states are the good ones
  leading_good : (f : List ℕ) → Mem f (leading_states p o) → Good p f
  leading_good f m = let h = leading_sound p o f m in (h.0, (is-consistent p (full f)).0 h.1)

  good_leading : (f : List ℕ) → Good p f → Mem f (leading_states p o)
  good_leading f g = leading_complete p o f g.0 ((is-consistent p (full f)).1 g.1)

  module _ (law : Lawful (decision_sizes p) o) {queue : List Assignment} {listed : List (List ℕ)} (i : Inv (Before o) (In (decision_sizes p)) (Good p) queue listed) where
    -- the states listed begin the states of the whole set
    states-begin : Begins listed (leading_states p o)
    states-begin = listed-first (Before o) law.irreflexive law.transitive (In (decision_sizes p)) (Good p)
        (leading_states p o) (leading_ascending p o law) leading_good good_leading i

  -- and are all of them once nothing is queued
  states-all : Lawful (decision_sizes p) o → {listed : List (List ℕ)} → Inv (Before o) (In (decision_sizes p)) (Good p) [] listed → listed ≡ leading_states p o
  states-all law i = listed-all (Before o) law.irreflexive law.transitive (In (decision_sizes p)) (Good p)
      (leading_states p o) (leading_ascending p o law) leading_good good_leading i

-- a list that begins another begins it also after a map
begins_map : {A B : Type 0} (g : A → B) (xs ys : List A) → Begins xs ys → Begins (map g xs) (map g ys)
begins_map g xs ys b = (map g b.0, ap (map g) b.1 ∙ map-append g xs b.0)

-- ---- the filled buffers

-- the codes and figures of states, place by place
entries_map : (o : Order) (fs : List (List ℕ)) → entries_of (map code fs) (map o.figure fs) ≡ map (entry_of o) fs
entries_map o [] = refl
entries_map o (f ∷ fs) = ap {B = List Entry} (λ r. entry_of o f ∷ r) (entries_map o fs)

module _ (o : Order) (b : Buffers) (s : State) where
  -- a run's list is the codes and figures of the states listed
  run-list : run_list (length s.listed) (buffers_after o b s) ≡ map (entry_of o) s.listed
  unfolding buffers_after
  run-list =
      let c : take (length s.listed) (filled (map code s.listed) b.codes) ≡ map code s.listed =
      rw (← length-map s.listed code) (filled_take (map code s.listed) b.codes) in
      let d : take (length s.listed) (filled (map o.figure s.listed) b.costs) ≡ map o.figure s.listed =
      rw (← length-map s.listed o.figure) (filled_take (map o.figure s.listed) b.costs) in
      rw (c, d) (entries_map o s.listed)

-- ---- places of a list

module _ {A : Type 0} (d : A) where
  -- in an ascending list, what comes before the member at a place stands at an earlier place
  module _ (R : A → A → Type 0) (irreflexive : (x : A) → R x x → ⊥) (transitive : (x y z : A) → R x y → R y z → R x z) where
    earlier : (f : A) (xs : List A) → Pairs R xs → Mem f xs → (i : ℕ) → i < length xs → R f (get_or xs i d) → (j : ℕ) × (j < i) × (get_or xs j d ≡ f)
    earlier f [] p m i h r = absurd m
    earlier f (x ∷ xs) p (inl e) zero h r = absurd (irreflexive x (rw e at r))
    earlier f (x ∷ xs) p (inl e) (suc i) h r = (0, omega arith, sym e)
    earlier f (x ∷ xs) p (inr m) zero h r = absurd (irreflexive x (transitive x f x (at-member (R x) xs p.0 f m) r))
    earlier f (x ∷ xs) p (inr m) (suc i) h r = let t = earlier f xs p.1 m i (omega arith) r in (suc t.0, omega (arith, t.1), t.2)

-- ---- demand 3 of a finished run

module _ (p : Plant) (o : Order) (law : Lawful (decision_sizes p) o) (short : length (decision_sizes p) ≤ 16) (small : All (λ s. s ≤ 16) (decision_sizes p)) (few : length (sizes p) ≤ state_bytes) where
  module _ (k held limit : ℕ) (survivors : List Assignment) (b : Buffers) (e : Ending) (s : State) (done : Done p o k limit survivors (length b.queue / 2) e s)
      (from : FromOffers p (offers_of held b.store) e survivors) where
    -- the search at its end
    search : Inv (Before o) (In (decision_sizes p)) (Good p) s.queue s.listed
    search = done.kept.searching.search

    -- the state at a place
    state-at : (i : ℕ) → i < length s.listed → Good p (get_or s.listed i [])
    state-at = all-at [] (Good p) s.listed search.good

    -- one that comes before it stands at an earlier place: it is listed, for all that is queued comes later
    state-earlier : (i : ℕ) → i < length s.listed → (f : List ℕ) → Good p f → Before o f (get_or s.listed i []) → (j : ℕ) × (j < i) × (get_or s.listed j [] ≡ f)
    state-earlier i h f g r = go (search.complete f g)
      where
        go : Mem f s.listed ⊎ Some (In (decision_sizes p) f) s.queue → (j : ℕ) × (j < i) × (get_or s.listed j [] ≡ f)
        go (inl m) = earlier [] (Before o) law.irreflexive law.transitive f s.listed search.ascending m i h r
        go (inr q) = absurd (law.irreflexive f (law.transitive f (get_or s.listed i []) f r (all-at [] (λ x. Before o x f) s.listed (search.before f q) i h)))

    -- the store at its end
    abbrev store : Stored p survivors s.learned s.store
    store = done.kept.store

    -- as many bytes are written as show the states
    values-after : length (in_turn value_bytes s.shown) ≡ state_bytes * length s.listed
    values-after = shown-bytes p few s.listed s.shown done.kept.shown

    pub demand3_done : Demand3 p o k b held limit e (counts_of s) (buffers_after o b s) s.struck
    unfolding whole_set buffers_after
    demand3_done = record {
      begins = rw (run-list o b s) (begins_map (entry_of o) s.listed (leading_states p o) (states-begin p o law search));
      as_counted = ap length (run-list o b s) ∙ length-map s.listed (entry_of o);
      at-most-k = done.kept.listed;
      all_whole = λ q. run-list o b s ∙ ap (map (entry_of o)) (states-all p o law (rw (done.all-empty q) at search));
      enough-k = done.enough-listed;
      sum = done.kept.sum;
      struck-spent = done.struck-spent;
      spent_why = done.spent_why;
      states = λ i h. (get_or s.listed i [], state-at i h, filled_at code s.listed b.codes [] i h, filled_at o.figure s.listed b.costs [] i h);
      gapless = λ i h f g gf gg q r.
          let same : get_or s.listed i [] ≡ g = code_injective (decision_sizes p) (get_or s.listed i []) g short small (state-at i h).0 gg.0
          (sym (filled_at code s.listed b.codes [] i h) ∙ q) in
          let t = state-earlier i h f gf (rw same r) in
          (t.0, t.1, filled_at code s.listed b.codes [] t.0 (omega (arith, t.1)) ∙ ap code t.2);
      shown = λ i h. (get_or s.listed i [], (state-at i h).0, filled_at code s.listed b.codes [] i h, shown-at p few s.listed s.shown done.kept.shown _ i h);
      stored = record {
        survivors = store.left;
        since = store.since;
        words = ap (λ (r : List Assignment). filled (entry_words r) (replicate (length b.store) 0)) store.parts;
        counted = store.count;
        conflicts = among-all (Conflict p) store.left survivors store.among store.offered;
        minimal = store.minimal;
        apart = stored-places p store;
        offered = among_trans store.left survivors (offered_in p (offers_of held b.store)) store.among from.offered;
      };
      remembered = λ n. subst (Remembered p (offers_of held b.store)) store.parts (stored_remembers p store (offers_of held b.store) (from.remembered n));
      tested-most = done.kept.tested;
      trials-most = done.kept.trials;
      full-small = done.full-small;
      full_why = λ q. (s.listed, run-list o b s, subst (λ (r : List Assignment). Overfull p o (length b.queue / 2) r s.listed) store.parts (done.full_why q));
      codes-kept = rw (← length-map s.listed code) (filled-drop (map code s.listed) b.codes);
      costs-kept = rw (← length-map s.listed o.figure) (filled-drop (map o.figure s.listed) b.costs);
      values-kept = rw (← values-after) (filled-drop (in_turn value_bytes s.shown) b.values);
      queue-zero = refl;
    }

-- ---- every call

-- what an accepted sheet of either edition gives
module _ (w : Bool) (sheet : List ℕ) (p : Plant) (end : ℕ) (e : read_sheet (edition_of w) sheet ≡ got p end) where
  -- its order
  abbrev o : Order
  o = order_of (edition_of w) p

  sheet-accepted : Accepted (edition_of w) p
  sheet-accepted = (accepted_any (edition_of w) sheet p end e).0

  sheet-sized : All Sized (decision_sizes p)
  sheet-sized = all_image length Sized p.costs sheet-accepted.decision_sizes_lem

  sheet-few : length (sizes p) ≤ state_bytes
  sheet-few = accepted-few w p sheet-accepted

  -- so that codes tell its states apart
  pub sheet-codes : length (decision_sizes p) ≤ 16
  sheet-codes = rw (length-map p.costs length) (edition-few w p sheet-accepted)

  pub sheet-small : All (λ s. s ≤ 16) (decision_sizes p)
  sheet-small = all_map (λ s h. h.1) (decision_sizes p) sheet-sized

  pub sheet-lawful : Lawful (decision_sizes p) o
  sheet-lawful = edition-lawful w p sheet-accepted

  pub sheet-at-least : All (λ s. 1 ≤ s) (decision_sizes p)
  sheet-at-least = all_map (λ s h. h.0) (decision_sizes p) sheet-sized

  module _ (k : ℕ) (b : Buffers) (room : 2 ≤ length b.queue) (held limit : ℕ) where
    -- an accepted call's run ends
    pub call-done : (survivors : List Assignment) × (ending : Ending) × (s : State) × (run_of p o k b held limit ≡ ended ending s)
        × Done p o k limit survivors (length b.queue / 2) ending s × FromOffers p (offers_of held b.store) ending survivors
    unfolding run_of
    call-done = listing-done p o sheet-lawful (accepted-present (edition_of w) p sheet-accepted) sheet-at-least k limit
        (length b.queue / 2) (length b.store / 2) (omega arith) (offers_of held b.store)

    -- and demand 3 holds of it
    pub run_demand3 : (ending : Ending) × (s : State) × (run_of p o k b held limit ≡ ended ending s)
        × Demand3 p o k b held limit ending (counts_of s) (buffers_after o b s) s.struck
    run_demand3 =
        let r = call-done in (
          r.1,
          r.2,
          r.3,
          demand3_done p o sheet-lawful sheet-codes sheet-small sheet-few
              k held limit r.0 b r.1 r.2 r.4 r.5,
        )

-- where no ground is given, neither is the first nor any other
pub none-given : (g : Ground) (gs : List Ground) → first_given (g ∷ gs) ≡ none → (g.given ≡ false) × (first_given gs ≡ none)
unfolding first_given
none-given g gs e = go g.given refl
  where
    go : (b : Bool) → g.given ≡ b → (g.given ≡ false) × (first_given gs ≡ none)
    go false f = (f, rw (first_given, f) at e)
    go true f = let h : some g.number ≡ none = rw (first_given, f) at e in let z : ◌≡◌ {A = ℕ} 0 1 = cc in absurd (omega arith)

-- where no ground of the host's is given, the queue has an entry
pub queue-given : (k : ℕ) (b : Buffers) (held : ℕ) (result_short : Bool) → first_given (host_grounds k b held result_short) ≡ none → 2 ≤ length b.queue
unfolding host_grounds
queue-given k b held result_short e =
    let wanted = none-given _ _ e in
    let lists = none-given _ _ wanted.1 in
    let values = none-given _ _ lists.1 in
    let queue = none-given _ _ values.1 in
    ltb-false (length b.queue) 2 (or_neither (odd (length b.queue)) (ltb (length b.queue) 2) (or_neither _ _ queue.0).0).1

-- whatever is asked of either edition's call, a refusal changes nothing, and anything else is a run of which demand 3 holds
pub promised : (w : Bool) (sheet : List ℕ) (k : ℕ) (b : Buffers) (held limit : ℕ) (result_short : Bool) → Promised (edition_of w) sheet k b held limit (listing_with (edition_of w) sheet k b held limit result_short)
unfolding listing_with called_of
promised w sheet k b held limit result_short = go (first_given (host_grounds k b held result_short)) refl (read_sheet (edition_of w) sheet) refl
  where
    go : (h : Option ℕ) → first_given (host_grounds k b held result_short) ≡ h → (r : Read Plant) → read_sheet (edition_of w) sheet ≡ r
        → Promised (edition_of w) sheet k b held limit (listing_with (edition_of w) sheet k b held limit result_short)
    go (some n) q r e = rw (listing_with, q) refl
    go none q (Read.refused n) e = rw (listing_with, q, e) refl
    go none q (got p end) e =
        let t = run_demand3 w sheet p end e k b (queue-given k b held result_short q) held limit in
        rw (listing_with, q, e, t.2) (p, end, e, t.3)
