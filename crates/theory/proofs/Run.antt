-- Each step of a run keeps what holds, or ends it; and every run ends. Assumes nothing.
use mathlib.Core.Path.{◌≡◌, refl, ap}
use mathlib.Core.Logic.{◌⊎◌, inl, inr}
use mathlib.Core.Bool.{Bool, true, false, not}
use mathlib.Core.Option.{Option, none, some}
use mathlib.Core.List.{List, [], ◌∷◌}
use Prim.Native.Nat.{ℕ, zero, suc, ◌+◌, ◌≤◌, ◌<◌}
use native.Mathlib.Omega.{arith}
use borrow.Author.Tests.{ltb-true, ltb-false}
use lib.Dec.{ltb}
use lib.ListN.{length, length-append}
use Rattle.model.specs.Lists.{All}
use Rattle.model.specs.Sheet.{Plant, decision_sizes}
use Rattle.model.specs.Assignment.{Assignment, is_full, value_list, full}
use Rattle.model.specs.Consistency.{Consistent, Tested, consistent, inconsistent, test}
use Rattle.model.specs.Conflict.{Conflict, Minimal, manifests, resolves, Reduced, conflict, reduce}
use Rattle.model.specs.Order.{Order}
use Rattle.model.specs.Listing.{State, Ending, Next, ended, more, weight, manifests_any, first_unresolved, resolving, branching, leave_off, listed_one, unkept_one, learned_one, spent_in_test, spent_in_reduction, most_tested, put_children, learn, judge, expand, remove, step, run}
use Rattle.model.specs.Calls.{value_bytes}
use Rattle.theory.specs.Order.{Lawful}
use Rattle.theory.specs.Consistency.{VariablesPresent}
use Rattle.theory.specs.Nodes.{sum_of, weights, room}
use Rattle.theory.specs.Shown.{Shows}
use Rattle.theory.specs.Run.{strikes, Children, Searching, children_of, Kept, Going, Done, Stepped}
use Rattle.theory.proofs.Lists.{sum-keep, keep_length}
use Rattle.theory.proofs.Nodes.{weight_pos, rooms_length}
use Rattle.theory.proofs.Test.{test-consistent, test-inconsistent}
use Rattle.theory.proofs.TestTrials.{test-trials, test-spent-at}
use Rattle.theory.proofs.Reduction.{reduce-minimal, reduce_contained}
use Rattle.theory.proofs.ReductionTrials.{reduce-trials, reduce-spent-at}
use Rattle.theory.proofs.Shown.{each_more, test-shows}
use Rattle.theory.proofs.Learned.{stored-conflicts, stored_more}
use Rattle.theory.proofs.Moves.{full-values, branching_children, resolving_children, searching-put, searching-sieve, searching-drop, searching-list}
use Rattle.theory.proofs.Queue.{enqueue_all_length, enqueue_all-sum}

-- two endings are not the same
pub differ : {A : Type 0} → ◌≡◌ {A = ℕ} 0 1 → A
differ z = absurd (omega arith)

module _ (p : Plant) (o : Order) (law : Lawful (decision_sizes p) o) (present : VariablesPresent p) (k entries places limit : ℕ) (survivors : List Assignment) where
  -- the ends of a run that are 'spent': beside what is kept, that the limit or the greatest count is reached is all there is to show
  pub spent-done : (s : State) → Kept p o k limit survivors s → (s.trials ≡ limit) ⊎ (s.tested ≡ most_tested) → Done p o k limit survivors entries Ending.spent s
  spent-done s h why = record {
    kept = h;
    all-empty = λ e. differ (cc);
    enough-listed = λ e. differ (cc);
    enough-left = λ e. differ (cc);
    struck-spent = λ e. refl;
    spent_why = λ e. why;
    full-small = λ e. differ (cc);
    full_why = λ e. differ (cc);
  }

  module _ (s : State) (g : Going p o k limit survivors s) (n : Assignment) (rest : List Assignment) (head : s.queue ≡ n ∷ rest) (fits : length s.queue ≤ entries) where
    -- what is searched, with the node that is removed in front
    front : Searching p o (n ∷ rest) s.listed
    front = rw head at g.kept.searching

    -- the queue without the node weighs less
    lighter : weights (decision_sizes p) rest < weights (decision_sizes p) s.queue
    lighter = rw head (omega (arith, weight_pos (decision_sizes p) n))

    -- and has an entry free
    fitted : length rest < entries
    fitted = let h : length (n ∷ rest) ≤ entries = rw head at fits in omega arith

    -- the sum of the tallies, while the limit has not struck
    sum : s.tested ≡ length s.listed + s.learned + s.unkept
    sum = let h = g.kept.sum in let e : strikes s.struck ≡ 0 = ap strikes g.unstruck in omega arith

    module _ (whole : is_full n ≡ true) (below : s.tested < most_tested) (room : length s.listed < k) where
      -- step 7, consistent
      step-listed : (w : List ℕ) (t : ℕ) → t ≤ limit → Consistent p n → Shows p n (value_bytes w) → Stepped p o k limit survivors entries s (more (listed_one s rest (value_list n) w t))
      step-listed w t h c d = (
        record {
          kept = record {
            searching = searching-list p o law front whole c;
            shown = each_more (λ f g. Shows p (full f) (value_bytes g)) s.listed s.shown (value_list n) w g.kept.shown (rw (full-values n whole) d);
            store = g.kept.store;
            sum = simp length-append (rw g.unstruck (omega (arith, sum)));
            tested = omega arith;
            trials = h;
            listed = simp length-append (omega arith);
          };
          unstruck = g.unstruck;
        },
        lighter,
        omega (arith, fitted),
      )

      module _ (bad : Consistent p n → ⊥) where
        -- step 7, inconsistent with the store full
        step-unkept : (t : ℕ) → t ≤ limit → Stepped p o k limit survivors entries s (more (unkept_one s rest t))
        step-unkept t h = (
          record {
            kept = record {
              searching = searching-drop p o law front whole bad;
              shown = g.kept.shown;
              store = g.kept.store;
              sum = rw g.unstruck (omega (arith, sum));
              tested = omega arith;
              trials = h;
              listed = g.kept.listed;
            };
            unstruck = g.unstruck;
          },
          lighter,
          omega (arith, fitted),
        )

        -- step 7, inconsistent and learned, of a node that resolves all stored conflicts
        step-learned : (c : Assignment) (t : ℕ) → t ≤ limit → first_unresolved s.store n ≡ none → manifests n c ≡ true → Minimal p c → Stepped p o k limit survivors entries s (more (learned_one s rest c t))
        step-learned c t h e inside m = (
          record {
            kept = record {
              searching = searching-sieve p o law (c ∷ []) (m.conflict, tt) (searching-drop p o law front whole bad);
              shown = g.kept.shown;
              store = stored_more p n c front.valid.0 e inside m g.kept.store;
              sum = rw g.unstruck (omega (arith, sum));
              tested = omega arith;
              trials = h;
              listed = g.kept.listed;
            };
            unstruck = g.unstruck;
          },
          omega (arith, lighter, sum-keep (weight (decision_sizes p)) (λ m. not (manifests_any (c ∷ []) m)) rest),
          omega (arith, fitted, keep_length (λ m. not (manifests_any (c ∷ []) m)) rest),
        )

        -- step 7, inconsistent: the reduction
        learn-stepped : (t : ℕ) → t ≤ limit → first_unresolved s.store n ≡ none → Stepped p o k limit survivors entries s (learn p o k entries places limit s rest n t)
        unfolding learn
        learn-stepped t h resolved = go (ltb (length s.store) places) refl (reduce p limit n t) refl
          where
            go : (b : Bool) → ltb (length s.store) places ≡ b → (r : Reduced) → reduce p limit n t ≡ r → Stepped p o k limit survivors entries s (learn p o k entries places limit s rest n t)
            go false e r f = rw (learn, e) (step-unkept t h)
            go true e (conflict c t') f = rw (learn, e, f)
                (step-learned c t' (rw f at ((reduce-trials p limit n t).within h)) resolved (reduce_contained p limit n t c t' f).1 (reduce-minimal p present limit n front.valid.0 bad t c t' f))
            go true e (Reduced.spent t') f = rw (learn, e, f) (spent-done (spent_in_reduction s t') (record {
              searching = g.kept.searching;
              shown = g.kept.shown;
              store = g.kept.store;
              sum = omega (arith, sum);
              tested = omega arith;
              trials = rw f at ((reduce-trials p limit n t).within h);
              listed = g.kept.listed;
            }) (inl (reduce-spent-at p limit n t h t' f)))

    -- step 7
    judge-stepped : is_full n ≡ true → first_unresolved s.store n ≡ none → length s.listed < k → Stepped p o k limit survivors entries s (judge p o k entries places limit s rest n)
    unfolding judge
    judge-stepped whole resolved room = go (ltb s.tested most_tested) refl (test p limit n s.trials) refl
      where
        go : (b : Bool) → ltb s.tested most_tested ≡ b → (r : Tested) → test p limit n s.trials ≡ r → Stepped p o k limit survivors entries s (judge p o k entries places limit s rest n)
        go false e r f = rw (judge, e) (spent-done s g.kept (inr (omega (arith, ltb-false s.tested most_tested e, g.kept.tested))))
        go true e (consistent w t) f = rw (judge, e, f)
            (step-listed whole (ltb-true _ _ e) room w t (rw f at ((test-trials p limit n s.trials).within g.kept.trials))
            (w, test-consistent p present limit n front.valid.0 s.trials w t f)
            (test-shows p n present front.valid.0 limit s.trials w t f))
        go true e (inconsistent t) f = rw (judge, e, f)
            (learn-stepped whole (ltb-true _ _ e) room (test-inconsistent p present limit n front.valid.0 s.trials t f) t
            (rw f at ((test-trials p limit n s.trials).within g.kept.trials)) resolved)
        go true e (Tested.spent t) f = rw (judge, e, f) (spent-done (spent_in_test s t) (record {
          searching = g.kept.searching;
          shown = g.kept.shown;
          store = g.kept.store;
          sum = g.kept.sum;
          tested = g.kept.tested;
          trials = rw f at ((test-trials p limit n s.trials).within g.kept.trials);
          listed = g.kept.listed;
        }) (inl (test-spent-at p limit n s.trials g.kept.trials t f)))

    -- step 6: 'full' only where the children outnumber the free entries, and the entries are fewer than the full assignments that are not listed
    put-stepped : (sized : All (λ m. 1 ≤ m) (decision_sizes p)) (children : List Assignment) → children_of (decision_sizes p) s.store n ≡ children → Children p n children
        → Stepped p o k limit survivors entries s (put_children p o k entries places limit s rest children)
    unfolding put_children
    put-stepped sized children are c = go (ltb entries (length rest + length others)) refl
      where
        ss : List ℕ
        ss = decision_sizes p

        others : List Assignment
        others = leave_off s.store children

        fewer : (w : Assignment → ℕ) → sum_of w others ≤ sum_of w children
        fewer w = sum-keep w (λ m. not (manifests_any s.store m)) children

        go : (b : Bool) → ltb entries (length rest + length others) ≡ b → Stepped p o k limit survivors entries s (put_children p o k entries places limit s rest children)
        go true e = rw (put_children, e) (record {
          kept = g.kept;
          all-empty = λ d. differ (cc);
          enough-listed = λ d. differ (cc);
          enough-left = λ d. differ (cc);
          struck-spent = λ d. differ (cc g.unstruck);
          spent_why = λ d. differ (cc);
          full-small = λ d. omega (arith, ltb-true entries (length rest + length others) e, front.roomy, c.smaller, fewer (room ss), rooms_length ss rest sized, rooms_length ss others sized);
          full_why = λ d. record { node = n; rest = rest; searching = front; fitted = fitted; outnumber = rw are (ltb-true entries (length rest + length others) e) };
        })
        go false e = rw (put_children, e) (
          record {
            kept = record {
              searching = searching-put p o law front s.store children (stored-conflicts p g.kept.store) c;
              shown = g.kept.shown;
              store = g.kept.store;
              sum = g.kept.sum;
              tested = g.kept.tested;
              trials = g.kept.trials;
              listed = g.kept.listed;
            };
            unstruck = g.unstruck;
          },
          rw (enqueue_all-sum o (weight ss) others rest, head) (omega (arith, c.lighter, fewer (weight ss))),
          rw (enqueue_all_length o others rest) (omega (arith, ltb-false entries (length rest + length others) e)),
        )

    -- the first unresolved conflict is one of the store's, and unresolved
    unresolved : (store : List Assignment) → All (Conflict p) store → (c : Assignment) → first_unresolved store n ≡ some c → Conflict p c × (resolves n c ≡ false)
    unresolved [] a c e = differ (cc)
    unresolved (d ∷ store) a c e = go (resolves n d) refl (unresolved store a.1 c)
      where
        go : (b : Bool) → resolves n d ≡ b → (first_unresolved store n ≡ some c → Conflict p c × (resolves n c ≡ false)) → Conflict p c × (resolves n c ≡ false)
        go true f ih = ih (rw (first_unresolved, f) at e)
        go false f ih = let h : some d ≡ some c = rw (first_unresolved, f) at e in let q : d ≡ c = cc in (rw q at a.0, rw q at f)

    -- steps 4 to 7
    expand-stepped : All (λ m. 1 ≤ m) (decision_sizes p) → length s.listed < k → Stepped p o k limit survivors entries s (expand p o k entries places limit s rest n)
    unfolding expand
    expand-stepped sized room = go (first_unresolved s.store n) refl (is_full n) refl
      where
        go : (u : Option Assignment) → first_unresolved s.store n ≡ u → (b : Bool) → is_full n ≡ b → Stepped p o k limit survivors entries s (expand p o k entries places limit s rest n)
        go (some c) e b f =
            let h = unresolved s.store (stored-conflicts p g.kept.store) c e in
            rw (expand, e) (put-stepped sized (resolving (decision_sizes p) n c) (rw (children_of, e)) (resolving_children p n front.valid.0 c h.0 h.1))
        go none e true f = rw (expand, e, f) (judge-stepped f e room)
        go none e false f = rw (expand, e, f) (put-stepped sized (branching (decision_sizes p) n) (rw (children_of, e)) (branching_children p n front.valid.0 f))

  module _ (sized : All (λ m. 1 ≤ m) (decision_sizes p)) where
    -- steps 3 to 7
    pub step-stepped : (s : State) → Going p o k limit survivors s → length s.queue ≤ entries → Stepped p o k limit survivors entries s (step p o k entries places limit s)
    unfolding step remove
    step-stepped s g fits = go s.queue refl (ltb (length s.listed) k) refl
      where
        go : (q : List Assignment) → s.queue ≡ q → (b : Bool) → ltb (length s.listed) k ≡ b → Stepped p o k limit survivors entries s (step p o k entries places limit s)
        go [] f b e = rw (step, ap (remove p o k entries places limit s) f) (record {
          kept = g.kept;
          all-empty = λ d. f;
          enough-listed = λ d. differ (cc);
          enough-left = λ d. differ (cc);
          struck-spent = λ d. differ (cc g.unstruck);
          spent_why = λ d. differ (cc);
          full-small = λ d. differ (cc);
          full_why = λ d. differ (cc);
        })
        go (n ∷ rest) f false e = rw (step, ap (remove p o k entries places limit s) f, remove, e) (record {
          kept = g.kept;
          all-empty = λ d. differ (cc);
          enough-listed = λ d. omega (arith, ltb-false (length s.listed) k e, g.kept.listed);
          enough-left = λ d. rw f (omega arith);
          struck-spent = λ d. differ (cc g.unstruck);
          spent_why = λ d. differ (cc);
          full-small = λ d. differ (cc);
          full_why = λ d. differ (cc);
        })
        go (n ∷ rest) f true e = rw (step, ap (remove p o k entries places limit s) f, remove, e) (expand-stepped s g n rest f fits sized (ltb-true _ _ e))

    -- with more steps than the queue weighs, the run ends
    pub run-done : (fuel : ℕ) (s : State) → weights (decision_sizes p) s.queue < fuel → Going p o k limit survivors s → length s.queue ≤ entries
        → (e : Ending) × (t : State) × (run p o k entries places limit fuel s ≡ ended e t) × Done p o k limit survivors entries e t
    unfolding run
    run-done zero s h g fits = absurd (omega arith)
    run-done (suc fuel) s h g fits = go (step p o k entries places limit s) refl (step-stepped s g fits) (run-done fuel)
      where
        go : (x : Next) → step p o k entries places limit s ≡ x → Stepped p o k limit survivors entries s x
            → ((t : State) → weights (decision_sizes p) t.queue < fuel → Going p o k limit survivors t → length t.queue ≤ entries
            → (e : Ending) × (u : State) × (run p o k entries places limit fuel t ≡ ended e u) × Done p o k limit survivors entries e u)
            → (e : Ending) × (t : State) × (run p o k entries places limit (suc fuel) s ≡ ended e t) × Done p o k limit survivors entries e t
        go (ended e t) q d ih = (e, t, rw (run, q), d)
        go (more t) q d ih = let r = ih t (omega (arith, d.1)) d.0 d.2 in (r.0, r.1, rw (run, q) r.2, r.3)
