-- Which answers request L2 changed: list, counts and every lent word are as they were, and so is the ending, save that 'enough' became 'all' exactly where listing the k-th state left the queue empty. Assumes nothing.
use mathlib.Core.Path.{◌≡◌, refl, sym, ap, ◌∙◌}
use mathlib.Core.Logic.{◌⊎◌, inl, inr}
use mathlib.Core.Bool.{Bool, true, false}
use mathlib.Core.Option.{Option, none, some}
use mathlib.Core.List.{List, [], ◌∷◌}
use Prim.Native.Nat.{ℕ, zero, suc, ◌+◌, ◌/◌, ◌≤◌, ◌<◌}
use native.Mathlib.Nat.{zero-add, suc-add}
use native.Mathlib.Omega.{arith}
use native.Mathlib.Decide.{dec_le}
use borrow.Author.Tests.{lt-ltb, le-ltb}
use lib.Dec.{ltb}
use lib.ListN.{length, length-append}
use Rattle.model.specs.Sheet.{Plant, Read, got, edition1, read_sheet, decision_sizes}
use Rattle.model.specs.Assignment.{Assignment, is_full, value_list}
use Rattle.model.specs.Consistency.{Tested, consistent, inconsistent, test}
use Rattle.model.specs.Conflict.{Reduced, conflict, reduce}
use Rattle.model.specs.Order.{Order, order_of}
use Rattle.model.specs.Listing.{State, Ending, enough, all, full, Next, ended, more, Checked, checked, broken_off, check_offers, first_unresolved, resolving, branching, leave_off, listed_one, most_tested, put_children, learn, judge, expand, remove, step, run, start, enough_steps, listing}
use Rattle.model.specs.Calls.{refused, answered, Buffers, Counts, ran, unfinished, Answer, Called, first_given, host_grounds, offers_of, called_of, run_of, listing_with, exported_of, export_with, export_call}
use Rattle.model.proofs.Examples.{Settings, lists, lent, call, whole, ran_with, plain, tail, small, both, three}
use Rattle.theory.specs.LastState.{former_remove, former_step, former_run, former_run_of, former_call, former_export, LeavesEmpty, CallLeavesEmpty, EndingChange, AnswerChange, CallChange, ExportChange}
use Rattle.theory.proofs.Run.{differ}
use Rattle.theory.proofs.Demand3.{none-given, queue-given, run_demand3}

-- ---- 'all' wins over 'enough' where the queue is empty

-- of a former ending the present one, with what is queued
abbrev wins : Ending → List Assignment → Ending
wins enough [] = all
wins enough (n ∷ rest) = enough
wins all queue = all
wins full queue = full
wins Ending.spent queue = Ending.spent

-- of what a former step or run came to, what the present one comes to
abbrev all_wins : Next → Next
all_wins (ended e s) = ended (wins e s.queue) s
all_wins (more s) = more s

-- another ending stays
wins-other : (e : Ending) → (e ≡ enough → ⊥) → (queue : List Assignment) → wins e queue ≡ e
wins-other enough h queue = absurd (h refl)
wins-other all h queue = refl
wins-other full h queue = refl
wins-other Ending.spent h queue = refl

-- a run that goes on went on before
wins-more : (x : Next) (t : State) → all_wins x ≡ more t → x ≡ more t
wins-more (ended e s) t h = differ (cc)
wins-more (more s) t h = h

-- ---- steps 4 to 7

-- what they come to: not 'enough'; where the run goes on, nothing was listed or the node was
abbrev Expanded : State → List Assignment → Assignment → Next → Type 0
Expanded s rest n (ended e t) = e ≡ enough → ⊥
Expanded s rest n (more u) = (u.listed ≡ s.listed) ⊎ ((w : List ℕ) × (t : ℕ) × (u ≡ listed_one s rest (value_list n) w t))

-- so it came to the same before
expanded_wins : (s : State) (rest : List Assignment) (n : Assignment) (x : Next) → Expanded s rest n x → all_wins x ≡ x
expanded_wins s rest n (ended e t) h = ap (λ (f : Ending). ended f t) (wins-other e h t.queue)
expanded_wins s rest n (more u) h = refl

module _ (p : Plant) (o : Order) (k entries places limit : ℕ) where
  module _ (s : State) (rest : List Assignment) (n : Assignment) where
    -- step 6
    put_expanded : (children : List Assignment) → Expanded s rest n (put_children p o k entries places limit s rest children)
    unfolding put_children
    put_expanded children = go (ltb entries (length rest + length (leave_off s.store children))) refl
      where
        go : (b : Bool) → ltb entries (length rest + length (leave_off s.store children)) ≡ b → Expanded s rest n (put_children p o k entries places limit s rest children)
        go true e = rw (put_children, e) (λ d. differ (cc))
        go false e = rw (put_children, e) (inl refl)

    -- step 7, the test was inconsistent
    learn_expanded : (t : ℕ) → Expanded s rest n (learn p o k entries places limit s rest n t)
    unfolding learn
    learn_expanded t = go (ltb (length s.store) places) refl (reduce p limit n t) refl
      where
        go : (b : Bool) → ltb (length s.store) places ≡ b → (r : Reduced) → reduce p limit n t ≡ r → Expanded s rest n (learn p o k entries places limit s rest n t)
        go false e r f = rw (learn, e) (inl refl)
        go true e (conflict c t') f = rw (learn, e, f) (inl refl)
        go true e (Reduced.spent t') f = rw (learn, e, f) (λ d. differ (cc))

    -- step 7
    judge_expanded : Expanded s rest n (judge p o k entries places limit s rest n)
    unfolding judge
    judge_expanded = go (ltb s.tested most_tested) refl (test p limit n s.trials) refl
      where
        go : (b : Bool) → ltb s.tested most_tested ≡ b → (r : Tested) → test p limit n s.trials ≡ r → Expanded s rest n (judge p o k entries places limit s rest n)
        go false e r f = rw (judge, e) (λ d. differ (cc))
        go true e (consistent w t) f = rw (judge, e, f) (inr (w, t, refl))
        go true e (inconsistent t) f = rw (judge, e, f) (learn_expanded t)
        go true e (Tested.spent t) f = rw (judge, e, f) (λ d. differ (cc))

    -- steps 4 to 7
    expand_expanded : Expanded s rest n (expand p o k entries places limit s rest n)
    unfolding expand
    expand_expanded = go (first_unresolved s.store n) refl (is_full n) refl
      where
        go : (u : Option Assignment) → first_unresolved s.store n ≡ u → (b : Bool) → is_full n ≡ b → Expanded s rest n (expand p o k entries places limit s rest n)
        go (some c) e b f = rw (expand, e) (put_expanded (resolving (decision_sizes p) n c))
        go none e true f = rw (expand, e, f) judge_expanded
        go none e false f = rw (expand, e, f) (put_expanded (branching (decision_sizes p) n))

  -- ---- the step and the run

  -- with these settings: the former step and so many of them, the present ones, and that listing the k-th state leaves the queue empty
  abbrev former : State → Next
  former = former_step p o k entries places limit

  abbrev former_to : ℕ → State → Next
  former_to = former_run p o k entries places limit

  abbrev present : State → Next
  present = step p o k entries places limit

  abbrev present_to : ℕ → State → Next
  present_to = run p o k entries places limit

  abbrev Leaves : State → Type 0
  Leaves = LeavesEmpty p o k entries places limit

  -- step 3
  step-wins : (s : State) → present s ≡ all_wins (former s)
  unfolding step remove former_step former_remove
  step-wins s = go s.queue refl (ltb (length s.listed) k) refl
    where
      go : (q : List Assignment) → s.queue ≡ q → (b : Bool) → ltb (length s.listed) k ≡ b → present s ≡ all_wins (former s)
      go [] f false e = rw (step, ap (remove p o k entries places limit s) f, former_step, e) (ap (λ (q : List Assignment). ended (wins enough q) s) (sym f))
      go [] f true e = rw (step, ap (remove p o k entries places limit s) f, former_step, e, ap (former_remove p o k entries places limit s) f) refl
      go (n ∷ rest) f false e = rw (step, ap (remove p o k entries places limit s) f, remove, former_step, e) (ap (λ (q : List Assignment). ended (wins enough q) s) (sym f))
      go (n ∷ rest) f true e = rw (step, ap (remove p o k entries places limit s) f, remove, former_step, e, ap (former_remove p o k entries places limit s) f)
          (sym (expanded_wins s rest n (expand p o k entries places limit s rest n) (expand_expanded s rest n)))

  -- so many steps
  run-wins : (fuel : ℕ) (s : State) → present_to fuel s ≡ all_wins (former_to fuel s)
  unfolding run former_run
  run-wins zero s = refl
  run-wins (suc fuel) s = go (former s) refl (run-wins fuel)
    where
      go : (x : Next) → former s ≡ x → ((t : State) → present_to fuel t ≡ all_wins (former_to fuel t))
          → present_to (suc fuel) s ≡ all_wins (former_to (suc fuel) s)
      go (ended e t) f ih = let h : present s ≡ ended (wins e t.queue) t = step-wins s ∙ ap all_wins f in rw (run, h, former_run, f) refl
      go (more t) f ih = let h : present s ≡ more t = step-wins s ∙ ap all_wins f in rw (run, h, former_run, f) (ih t)

  -- ---- where the queue was left empty the run ended 'enough'

  -- a run goes on from where it stands, or has ended
  abbrev onward : ℕ → Next → Next
  onward fuel (ended e t) = ended e t
  onward fuel (more t) = former_to fuel t

  -- so many steps and so many more
  former-onward : (m n : ℕ) (s : State) → former_to (m + n) s ≡ onward n (former_to m s)
  unfolding former_run
  former-onward zero n s = rw (zero-add n) refl
  former-onward (suc m) n s = rw (suc-add m n) (go (former s) refl (former-onward m n))
    where
      go : (x : Next) → former s ≡ x → ((t : State) → former_to (m + n) t ≡ onward n (former_to m t))
          → former_to (suc (m + n)) s ≡ onward n (former_to (suc m) s)
      go (ended e t) f ih = rw (former_run, f) refl
      go (more t) f ih = rw (former_run, f) (ih t)

  module _ (s : State) (l : Leaves s) where
    -- the state with the k-th listed
    abbrev last : State
    last = listed_one l.before [] (value_list l.node) l.values l.trials

    -- the former step ends there
    last-ends : former last ≡ ended enough last
    unfolding former_step
    last-ends = rw (former_step, le-ltb (length last.listed) k (simp length-append (omega (arith, l.fewer)))) refl

    -- and the former run comes to it
    last-reached : former_to (l.steps + 2) s ≡ ended enough last
    unfolding former_run
    last-reached =
        let there : former_to l.steps s ≡ more l.before = wins-more (former_to l.steps s) l.before (sym (run-wins l.steps s) ∙ l.reached) in
        let next : former l.before ≡ more last = wins-more (former l.before) last (sym (step-wins l.before) ∙ l.lists) in
        former-onward l.steps 2 s ∙ ap (onward 2) there ∙ rw (former_run, next, former_run, last-ends) refl

    -- however many steps are allowed, it ends so where it ends
    left-enough : (fuel : ℕ) (e : Ending) (t : State) → former_to fuel s ≡ ended e t → (e ≡ enough) × (t.queue ≡ [])
    left-enough fuel e t h =
        let long : former_to (fuel + (l.steps + 2)) s ≡ ended e t = former-onward fuel (l.steps + 2) s ∙ ap (onward (l.steps + 2)) h in
        let also : former_to (l.steps + 2 + fuel) s ≡ ended enough last = former-onward (l.steps + 2) fuel s ∙ ap (onward fuel) last-reached in
        let sum : fuel + (l.steps + 2) ≡ l.steps + 2 + fuel = omega arith in
        let same : ended e t ≡ ended enough last = sym long ∙ ap (λ (m : ℕ). former_to m s) sum ∙ also in
        let ending : e ≡ enough = cc in
        let state : t ≡ last = cc in
        (ending, ap (λ (u : State). u.queue) state)

  -- ---- where it ended 'enough' with an empty queue, listing the k-th state left it so

  -- a step earlier
  left-earlier : (s t : State) → present s ≡ more t → Leaves t → Leaves s
  unfolding run
  left-earlier s t h l = record {
    steps = suc l.steps;
    before = l.before;
    node = l.node;
    values = l.values;
    trials = l.trials;
    reached = rw (run, h) l.reached;
    only = l.only;
    fewer = l.fewer;
    lists = l.lists;
  }

  -- with k listed a run ends where it stands
  former_stops : (fuel : ℕ) (s t : State) (e : Ending) → k ≤ length s.listed → former_to fuel s ≡ ended e t → t ≡ s
  unfolding former_run former_step
  former_stops zero s t e h r = differ (cc)
  former_stops (suc fuel) s t e h r =
      let stopped : former s ≡ ended enough s = rw (former_step, le-ltb (length s.listed) k h) refl in
      let same : ended enough s ≡ ended e t = rw (former_run, stopped) at r in
      cc

  module _ (fuel : ℕ) (s t : State) (n : Assignment) (rest : List Assignment) (head : s.queue ≡ n ∷ rest) (below : length s.listed < k) (empty : t.queue ≡ [])
      (ends : former_to (suc fuel) s ≡ ended enough t)
      (later : (u : State) → length u.listed < k → former_to fuel u ≡ ended enough t → Leaves u) where
    -- behind a step after which it goes on
    left-on : (u : State) → former s ≡ more u → former_to fuel u ≡ ended enough t
    unfolding former_run
    left-on u f = rw (former_run, f) at ends

    -- the k-th state is listed
    left-listed : (u : State) (values : List ℕ) (trials : ℕ) → former s ≡ more u → u ≡ listed_one s rest (value_list n) values trials → suc (length s.listed) ≡ k
        → Leaves s
    unfolding run
    left-listed u values trials f is most =
        let long : k ≤ length u.listed = rw is (simp length-append (omega arith)) in
        let stopped : t ≡ u = former_stops fuel u t enough long (left-on u f) in
        let none_left : rest ≡ [] = sym (ap (λ (v : State). v.queue) (stopped ∙ is)) ∙ empty in
        let same : u ≡ listed_one s [] (value_list n) values trials = is ∙ ap (λ (q : List Assignment). listed_one s q (value_list n) values trials) none_left in
        record {
          steps = 0;
          before = s;
          node = n;
          values = values;
          trials = trials;
          reached = refl;
          only = head ∙ ap (λ (q : List Assignment). n ∷ q) none_left;
          fewer = most;
          lists = step-wins s ∙ ap all_wins f ∙ ap more same;
        }

    -- whatever the step comes to
    left_step : (x : Next) → former s ≡ x → Expanded s rest n x → Leaves s
    unfolding former_run
    left_step (ended e u) f h = let same : ended e u ≡ ended enough t = rw (former_run, f) at ends in absurd (h (cc))
    left_step (more u) f (inl same) = left-earlier s u (step-wins s ∙ ap all_wins f) (later u (rw same below) (left-on u f))
    left_step (more u) f (inr h) = elim (dec_le k (suc (length s.listed))) [
      | yes most ↦ left-listed u h.0 h.1 f h.2 (omega arith)
      | no few ↦ left-earlier s u (step-wins s ∙ ap all_wins f) (later u (rw h.2 (simp length-append (omega arith))) (left-on u f))
    ]

  -- from a state with fewer than k listed
  enough-left : (fuel : ℕ) (s t : State) → length s.listed < k → former_to fuel s ≡ ended enough t → t.queue ≡ [] → Leaves s
  unfolding former_run former_step former_remove
  enough-left zero s t below ends empty = differ (cc)
  enough-left (suc fuel) s t below ends empty = go s.queue refl (λ u b e. enough-left fuel u t b e empty)
    where
      opened : former s ≡ former_remove p o k entries places limit s s.queue
      opened = rw (former_step, lt-ltb (length s.listed) k below) refl

      go : (q : List Assignment) → s.queue ≡ q → ((u : State) → length u.listed < k → former_to fuel u ≡ ended enough t → Leaves u)
          → Leaves s
      go [] f later =
          let stopped : former s ≡ ended all s = opened ∙ ap (former_remove p o k entries places limit s) f in
          let same : ended all s ≡ ended enough t = rw (former_run, stopped) at ends in
          differ (cc)
      go (n ∷ rest) f later =
          left_step fuel s t n rest f below empty ends later (expand p o k entries places limit s rest n) (opened ∙ ap (former_remove p o k entries places limit s) f) (expand_expanded s rest n)

-- ---- the call

-- where none of the host's grounds is given, k is 1 at least
k-given : (k : ℕ) (b : Buffers) (held : ℕ) (result_short : Bool) → first_given (host_grounds k b held result_short) ≡ none → 1 ≤ k
unfolding host_grounds
k-given zero b held result_short e = let given = (none-given _ _ e).0 in differ (cc)
k-given (suc k) b held result_short e = omega arith

module _ (sheet : List ℕ) (k : ℕ) (b : Buffers) (held limit : ℕ) (result_short : Bool) where
  abbrev Empty : Type 0
  Empty = CallLeavesEmpty sheet k b held limit result_short

  -- of a call that is refused there is no run
  refused_host : (n : ℕ) → first_given (host_grounds k b held result_short) ≡ some n → Empty → ⊥
  refused_host n q l = differ (cc l.fit)

  refused-author : (n : ℕ) → read_sheet edition1 sheet ≡ Read.refused n → Empty → ⊥
  refused-author n q l = differ (cc l.says)

  module _ (fit : first_given (host_grounds k b held result_short) ≡ none) (p : Plant) (end : ℕ) (says : read_sheet edition1 sheet ≡ got p end) where
    -- the accepted call's run
    run_of_wins : run_of p (order_of edition1 p) k b held limit ≡ all_wins (former_run_of p k b held limit)
    unfolding run_of listing former_run_of
    run_of_wins = go (check_offers p limit [] (offers_of held b.store) 0) refl
      where
        go : (c : Checked) → check_offers p limit [] (offers_of held b.store) 0 ≡ c → run_of p (order_of edition1 p) k b held limit ≡ all_wins (former_run_of p k b held limit)
        go (checked survivors used) q = rw (run_of, listing, former_run_of, q) (run-wins p (order_of edition1 p) k (length b.queue / 2) (length b.store / 2) limit (enough_steps (decision_sizes p)) (start (decision_sizes p) survivors used))
        go (broken_off survivors used) q = rw (run_of, listing, former_run_of, q) refl

    -- where the queue was left empty, it ended 'enough'
    call-enough : Empty → (e : Ending) (s : State) → former_run_of p k b held limit ≡ ended e s → (e ≡ enough) × (s.queue ≡ [])
    unfolding former_run_of
    call-enough l e s h =
        let one : l.plant ≡ p = cc l.says in
        let there : former_run_of l.plant k b held limit ≡ ended e s = rw one h in
        left-enough l.plant (order_of edition1 l.plant) k (length b.queue / 2) (length b.store / 2) limit (start (decision_sizes l.plant) l.survivors l.used) l.leaves
        (enough_steps (decision_sizes l.plant)) e s (rw (former_run_of, l.offers) at there)

    -- where it ended 'enough' with an empty queue, that was left by the k-th state
    call-left : (s : State) → former_run_of p k b held limit ≡ ended enough s → s.queue ≡ [] → Empty
    unfolding former_run_of start
    call-left s h empty = go (check_offers p limit [] (offers_of held b.store) 0) refl
      where
        go : (c : Checked) → check_offers p limit [] (offers_of held b.store) 0 ≡ c → Empty
        go (checked survivors used) q = record {
          plant = p;
          end = end;
          survivors = survivors;
          used = used;
          fit = fit;
          says = says;
          offers = q;
          leaves = enough-left p (order_of edition1 p) k (length b.queue / 2) (length b.store / 2) limit (enough_steps (decision_sizes p)) (start (decision_sizes p) survivors used) s
              (omega (arith, k-given k b held result_short fit)) (rw (former_run_of, q) at h) empty;
        }
        go (broken_off survivors used) q = let same : ended Ending.spent (start (decision_sizes p) survivors used) ≡ ended enough s = rw (former_run_of, q) at h in differ (cc)

    -- so the endings changed just there
    ending_change : (e : Ending) (s : State) → former_run_of p k b held limit ≡ ended e s → EndingChange Empty e (wins e s.queue)
    ending_change e s h = go e refl s.queue refl
      where
        other : (f : Ending) → e ≡ f → (f ≡ enough → ⊥) → Empty → ⊥
        other f q d l = d (sym q ∙ (call-enough l e s h).0)

        go : (f : Ending) → e ≡ f → (queue : List Assignment) → s.queue ≡ queue → EndingChange Empty f (wins f queue)
        go enough q [] r = inl (call-left s (rw q at h) r, refl, refl)
        go enough q (n ∷ rest) r = inr (λ l. let z = (call-enough l e s h).1 in differ (cc), refl)
        go all q queue r = inr (other all q (λ d. differ (cc)), refl)
        go full q queue r = inr (other full q (λ d. differ (cc)), refl)
        go Ending.spent q queue r = inr (other Ending.spent q (λ d. differ (cc)), refl)

  -- whatever is asked, the former call and the present one agree in list, counts and every lent word; and in the ending, save where listing the k-th state left the queue empty: there 'enough' became 'all'
  pub which_answers_change : CallChange Empty (former_call sheet k b held limit result_short) (listing_with edition1 sheet k b held limit result_short)
  unfolding former_call listing_with called_of
  which_answers_change = go (first_given (host_grounds k b held result_short)) refl (read_sheet edition1 sheet) refl
    where
      go : (h : Option ℕ) → first_given (host_grounds k b held result_short) ≡ h → (r : Read Plant) → read_sheet edition1 sheet ≡ r
          → CallChange Empty (former_call sheet k b held limit result_short) (listing_with edition1 sheet k b held limit result_short)
      go (some n) q r e = rw (former_call, listing_with, q) (record { answer = (refused_host n q, refl); after = refl; struck = refl })
      go none q (Read.refused n) e = rw (former_call, listing_with, q, e) (record { answer = (refused-author n e, refl); after = refl; struck = refl })
      go none q (got p end) e = ran_on (former_run_of p k b held limit) refl
        where
          ran_on : (x : Next) → former_run_of p k b held limit ≡ x
              → CallChange Empty (former_call sheet k b held limit result_short) (listing_with edition1 sheet k b held limit result_short)
          ran_on (ended f s) h =
              let present : run_of p (order_of edition1 p) k b held limit ≡ ended (wins f s.queue) s = run_of_wins q p end e ∙ ap all_wins h in
              rw (former_call, listing_with, q, e, h, present) (record { answer = (wins f s.queue, refl, ending_change q p end e f s h); after = refl; struck = refl })
          ran_on (more s) h =
              let present : run_of p (order_of edition1 p) k b held limit ≡ more s = run_of_wins q p end e ∙ ap all_wins h in
              let done = (run_demand3 false sheet p end e k b (queue-given k b held result_short q) held limit).2 in
              differ (cc)

-- ---- the export

module _ (Empty : Type 0) (result : List ℕ) (before after : Buffers) (same : after ≡ before) where
  -- the result words of two runs with the same counts
  words_change : (e f : Ending) (c : Counts) → EndingChange Empty e f → ExportChange Empty (exported_of result before (answered (ran e c))) (exported_of result after (answered (ran f c)))
  unfolding exported_of
  words_change e f c (inl h) = rw (h.1, h.2) (record { returned = refl; after = same; result = inl (h.0, _, refl, refl) })
  words_change e f c (inr h) = rw h.1 (record { returned = refl; after = same; result = inr (h.0, refl) })

  export_change : (former present : Answer) → AnswerChange Empty former present → ExportChange Empty (exported_of result before former) (exported_of result after present)
  unfolding exported_of
  export_change (refused r) present a = rw a.1 (record { returned = refl; after = same; result = inr (a.0, refl) })
  export_change (answered (ran e c)) present a = rw a.1 (words_change e a.0 c a.2)
  export_change (answered unfinished) present a = absurd a

-- whatever is asked, the exports agree in what they return and in every lent word, save in the first result word, where listing the k-th state left the queue empty: there 1 became 2
pub which_exports_change : (sheet : List ℕ) (k : ℕ) (b : Buffers) (held limit : ℕ) (result : List ℕ)
    → ExportChange (CallLeavesEmpty sheet k b held limit (ltb (length result) 6)) (former_export sheet k b held limit result) (export_call sheet k b held limit result)
unfolding former_export export_with export_call
which_exports_change sheet k b held limit result =
    let change = which_answers_change sheet k b held limit (ltb (length result) 6) in
    export_change (CallLeavesEmpty sheet k b held limit (ltb (length result) 6)) result _ _ change.after _ _ change.answer

-- ---- P2 and P3

-- the former call with these settings
unfoldable pub former_of : Settings → Called
unfolding call former_remove former_step former_run former_run_of former_call
former_of s = former_call s.sheet s.k (lent s) s.held s.limit false

-- P2 is as it was
pub P2_same : former_of (plain small 1 4096 64 [] 1000000) ≡ call (plain small 1 4096 64 [] 1000000)
unfolding former_of call plain small tail
P2_same = refl

-- P3 is among those that changed: it ended 'enough', with the same list, counts and words
pub P3_formerly : former_of (plain small 3 4096 64 [] 1000000) ≡ whole (plain small 3 4096 64 [] 1000000) (lists enough three (3 ∷ 3 ∷ 6 ∷ []) (both ∷ 0 ∷ []) 4 1 0 15)
unfolding former_of plain small tail whole ran_with lent three
P3_formerly = refl
