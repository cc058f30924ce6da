-- Step 7 on words: what holds before the test, and one law for each way out of the test and of what follows an inconsistent one. Assumes nothing.
use mathlib.Core.Path.{◌≡◌, refl, ap, ◌∙◌}
use mathlib.Core.Bool.{Bool, true}
use mathlib.Core.List.{List, [], ◌∷◌, ◌++◌, map, map-append, append-nil}
use Prim.Native.Nat.{ℕ, ◌+◌, ◌*◌, ◌/◌, ◌≤◌, ◌<◌}
use native.Mathlib.Omega.{arith}
use lib.ListN.{length, set, length-append, length-map}
use borrow.Author.Tests.{lt-ltb, le-ltb}
use Rattle.std.specs.Prelude.{Result, Ok, Err}
use Rattle.std.specs.declared.ops.ControlFlow.TheVariants.{Continue, Break}
use Rattle.model.specs.Lists.{All, filled, in_turn}
use Rattle.model.specs.Sheet.{decision_sizes}
use Rattle.model.specs.Assignment.{Assignment, Valid, is_full, value_list, code}
use Rattle.model.specs.Consistency.{Tested, consistent, inconsistent, test}
use Rattle.model.specs.Conflict.{Reduced, reduce}
use Rattle.model.specs.Order.{Order, best}
use Rattle.model.specs.Calls.{state_bytes, value_bytes, shown_by}
use Rattle.model.specs.Listing.{Next, stored, leave_off, most_tested, learn, judge}
use Rattle.theory.specs.Words.{Words}
use Rattle.theory.specs.Puts.{written as put}
use Rattle.theory.specs.Run.{strikes}
use Rattle.theory.proofs.Agreement.{valid_length}
use Rattle.theory.proofs.Filled.{filled_length, filled_more}
use Rattle.theory.proofs.Lists.{in_turn-join}
use Rattle.theory.proofs.Puts.{filled-then}
use Rattle.theory.proofs.Shown.{accepted-few, shown-bytes}
use Rattle.theory.proofs.Nodes.{full-best}
use Rattle.theory.proofs.Order.{edition-lawful}
use Rattle.conflict.specs.declared.reduce.Reduction.{Reduction}
use Rattle.conflict.specs.declared.reduce.Spent.{Spent}
use Rattle.conflict.specs.Reduced.{Reduces}
use Rattle.queue.specs.Order.{Suits}
use Rattle.queue.specs.Queue.{Holds}
use Rattle.children.proofs.Numbers.{node-entry}
use Rattle.store.specs.Store.{Keeps}
use Rattle.children.specs.declared.Node.{Node}
use Rattle.judge.specs.declared.Progress.{Progress}
use Rattle.judge.specs.declared.Ending.{Ending as Ended}
use Rattle.judge.specs.Standing.{Question, order_in, Written, Removed, CanCount, After, NextIs}

-- a run so far, by its numbers of entries, its states and its counts
abbrev pub progress : (queued stored listed tested learned unkept trials : ℕ) → Progress
progress a b c d e f h = record { queued = a; stored = b; counts = record { listed = c; tested = d; learned = e; unkept = f; trials = h } }

-- a run that the limit or the tests' greatest count has ended
abbrev pub spent_with : Progress → After
spent_with g = Break (record { ending = Ended.Spent; progress = g })

-- a buffer filled from a mapped list has one place more filled by writing to it
written-more : {A : Type 0} (f : A → ℕ) (xs : List A) (x : A) (buffer before : List ℕ) (n y : ℕ)
    → before ≡ filled (map f xs) buffer → n ≡ length xs → y ≡ f x → length xs < length buffer → set before n y ≡ filled (map f (xs ++ (x ∷ []))) buffer
written-more f xs x buffer before n y e l v h =
    let m = length-map xs f in
    rw (e, l, v, map-append f xs (x ∷ []), ← m) (filled_more (map f xs) buffer (f x) (rw m h))

-- and keeps its length
written_length : {A : Type 0} (f : A → ℕ) (xs : List A) (buffer before : List ℕ) → before ≡ filled (map f xs) buffer → length xs ≤ length buffer → length before ≡ length buffer
written_length f xs buffer before e h = ap length e ∙ filled_length (map f xs) buffer (rw (length-map xs f) h)

-- the same of bytes of values in turn: those of one state more are written behind them
values-more : (shown : List (List ℕ)) (f : List ℕ) (buffer before bytes : List ℕ) (n m : ℕ)
    → before ≡ filled (in_turn value_bytes shown) buffer → length (in_turn value_bytes shown) ≡ state_bytes * m → n ≡ m → bytes ≡ value_bytes f
    → put (state_bytes * n) bytes before ≡ filled (in_turn value_bytes (shown ++ (f ∷ []))) buffer
values-more shown f buffer before bytes n m e l s b =
    rw (e, s, b, ← l, in_turn-join value_bytes shown (f ∷ []), append-nil (value_bytes f)) (filled-then (in_turn value_bytes shown) (value_bytes f) buffer)

module _ {weighed : Bool} {q : Question weighed} {limit : ℕ} {queue store codes values : List ℕ} {g : Progress} {node : Node} (t : Removed q limit queue store codes values g node) where
  -- ---- what holds before the test

  -- what is written down
  abbrev written : Written q store codes values g t.state
  written = t.turn.standing.written

  -- the tallies' sum, while the limit has not struck
  sum : g.counts.tested ≡ g.counts.listed + g.counts.learned + g.counts.unkept
  sum =
      let k = t.turn.going in
      let e : strikes t.state.struck ≡ 0 = ap strikes k.unstruck in
      omega (arith, k.kept.sum, written.listed-is, written.tested-is, written.learned-is, written.unkept-is)

  -- no more states are listed than were tested
  pub listed-less : g.counts.listed ≤ g.counts.tested
  listed-less = omega (arith, sum)

  -- while the tests are not at their greatest count, one more can be counted
  pub can_count : (g.counts.tested ≡ most_tested → ⊥) → CanCount g.counts
  can_count h = record {
    tested-less = omega (arith, t.turn.going.kept.tested, written.tested-is, h);
    learned-less = omega (arith, sum);
    unkept-less = omega (arith, sum);
  }

  -- there is room for a state more
  listed-place : (f : List ℕ → ℕ) (buffer lent : List ℕ) → lent ≡ filled (map f t.state.listed) buffer → q.wanted ≤ length buffer → g.counts.listed < length lent
  listed-place f buffer lent e room =
      let l : length t.state.listed ≤ length buffer = omega (arith, t.wanting, room) in
      omega (arith, written.listed-is, t.wanting, room, written_length f t.state.listed buffer lent e l)

  pub codes-place : g.counts.listed < length codes
  codes-place = listed-place code q.codes codes written.codes-are t.turn.codes-room

  -- the bytes that show the states listed so far
  shown_so_far : length (in_turn value_bytes t.state.shown) ≡ state_bytes * length t.state.listed
  shown_so_far = shown-bytes q.plant (accepted-few weighed q.plant t.is.accepted) t.state.listed t.state.shown t.turn.going.kept.shown

  pub values-place : state_bytes * g.counts.listed + state_bytes ≤ length values
  values-place =
      let long : length values ≡ length q.values =
      ap length written.values-are ∙ filled_length (in_turn value_bytes t.state.shown) q.values (omega (arith, shown_so_far, t.wanting, t.turn.values-room)) in
      omega (arith, long, written.listed-is, t.wanting, t.turn.values-room)

  -- the nodes that are left in the queue are valid
  rest-valid : All (Valid (decision_sizes q.plant)) t.rest
  rest-valid = (rw t.removed at t.turn.going.kept.searching.valid).1

  -- ---- after an inconsistent test

  module _ (trials : ℕ) where
    -- what the model makes of it
    abbrev after : Next
    after = learn q.plant (order_in q) q.wanted (length queue / 2) (length store / 2) limit t.state t.rest t.parent trials

    -- the store is full: the node is unkept
    pub learn-unkept : length store / 2 ≤ g.stored → NextIs q queue store codes values (Continue (progress g.queued g.stored g.counts.listed (g.counts.tested + 1) g.counts.learned (g.counts.unkept + 1) trials)) after
    unfolding learn
    learn-unkept h = rw (learn, le-ltb (length t.state.store) (length store / 2) (omega (arith, written.keeps.count))) record {
      holds = t.turn.standing.holds;
      room = t.turn.standing.room;
      written = record {
        keeps = written.keeps;
        codes-are = written.codes-are;
        values-are = written.values-are;
        listed-is = written.listed-is;
        tested-is = omega (arith, written.tested-is);
        learned-is = written.learned-is;
        unkept-is = omega (arith, written.unkept-is);
        trials-is = refl;
      };
    }

    module _ (free : g.stored < length store / 2) (r : Result Reduction Spent) (h : Reduces q.plant (reduce q.plant limit t.parent trials) r) where
      has-place : length t.state.store < length store / 2
      has-place = omega (arith, written.keeps.count, free)

      -- the limit struck in the reduction
      pub learn-spent : {s : Spent} (later : List ℕ) → r ≡ Err s → NextIs q later store codes values (spent_with (progress g.queued g.stored g.counts.listed (g.counts.tested + 1) g.counts.learned g.counts.unkept s.trials)) after
      unfolding learn
      learn-spent {s} later e =
          let k : reduce q.plant limit t.parent trials ≡ Reduced.spent s.trials = rw e at h in
          rw (learn, lt-ltb (length t.state.store) (length store / 2) has-place, k) (
            refl,
            record {
              keeps = written.keeps;
              codes-are = written.codes-are;
              values-are = written.values-are;
              listed-is = written.listed-is;
              tested-is = omega (arith, written.tested-is);
              learned-is = written.learned-is;
              unkept-is = written.unkept-is;
              trials-is = refl;
            },
          )

      -- the conflict is put into the store, and the queue is sieved by it
      pub learn-conflict : {f : Reduction} → r ≡ Ok f → (left places : ℕ) (queue' store' : List ℕ) → length queue' ≡ length queue
          → ((d : ℕ) (conflicts : List Assignment) (c : Assignment) → Keeps d store g.stored conflicts → Words c f.mask f.values → length c ≡ d → Keeps d store' places (stored conflicts c))
          → (left ≤ g.queued) × ((ss : List ℕ) (o : Order) (nodes : List Assignment) (c : Assignment) → Suits ss o → weighed ≡ o.weighed → All (Valid ss) nodes → Words c f.mask f.values → length c ≡ length ss
          → Holds o g.queued queue nodes → Holds o left queue' (leave_off (c ∷ []) nodes))
          → NextIs q queue' store' codes values (Continue (progress left places g.counts.listed (g.counts.tested + 1) (g.counts.learned + 1) g.counts.unkept f.trials)) after
      unfolding learn
      learn-conflict {f} e left places queue' store' long put_in sieved =
          let k : Reduces q.plant (reduce q.plant limit t.parent trials) (Ok f) = rw e at h in
          let members = valid_length (decision_sizes q.plant) k.0 k.1.valid in
          rw (learn, lt-ltb (length t.state.store) (length store / 2) has-place, k.2) record {
            holds = sieved.1 (decision_sizes q.plant) (order_in q) t.rest k.0 (node-entry t.is).0 (node-entry t.is).1 rest-valid k.1.words members
                t.turn.standing.holds;
            room = omega (arith, long, sieved.0, t.turn.standing.room);
            written = record {
              keeps = put_in (length q.plant.costs) t.state.store k.0 written.keeps k.1.words (members ∙ length-map q.plant.costs length);
              codes-are = written.codes-are;
              values-are = written.values-are;
              listed-is = written.listed-is;
              tested-is = omega (arith, written.tested-is);
              learned-is = omega (arith, written.learned-is);
              unkept-is = written.unkept-is;
              trials-is = refl;
            };
          }

  -- ---- the test

  -- what the model makes of the node
  abbrev judged : Next
  judged = judge q.plant (order_in q) q.wanted (length queue / 2) (length store / 2) limit t.state t.rest t.parent

  -- the tests are at their greatest count
  pub judge-most : (later : List ℕ) → g.counts.tested ≡ most_tested → NextIs q later store codes values (spent_with g) judged
  unfolding judge
  judge-most later e = rw (judge, le-ltb t.state.tested most_tested (omega (arith, written.tested-is))) (refl, written)

  module _ (less : g.counts.tested ≡ most_tested → ⊥) where
    below : t.state.tested < most_tested
    below = omega (arith, (can_count less).tested-less, written.tested-is)

    -- the node has as many trials before it as are counted
    counted : (e : Tested) → test q.plant limit t.parent g.counts.trials ≡ e → test q.plant limit t.parent t.state.trials ≡ e
    counted e h = rw written.trials-is at h

    -- the limit struck in the test
    pub judge-spent : {u : ℕ} (later : List ℕ) → test q.plant limit t.parent g.counts.trials ≡ Tested.spent u → NextIs q later store codes values (spent_with (progress g.queued g.stored g.counts.listed g.counts.tested g.counts.learned g.counts.unkept u)) judged
    unfolding judge
    judge-spent {u} later e = rw (judge, lt-ltb t.state.tested most_tested below, counted (Tested.spent u) e) (
      refl,
      record {
        keeps = written.keeps;
        codes-are = written.codes-are;
        values-are = written.values-are;
        listed-is = written.listed-is;
        tested-is = written.tested-is;
        learned-is = written.learned-is;
        unkept-is = written.unkept-is;
        trials-is = refl;
      },
    )

    -- it was inconsistent
    pub judge-learn : {u : ℕ} → test q.plant limit t.parent g.counts.trials ≡ inconsistent u → judged ≡ after u
    unfolding judge
    judge-learn {u} e = rw (judge, lt-ltb t.state.tested most_tested below, counted (inconsistent u) e)

    -- it was consistent: the state is listed
    pub judge-listed : {f : List ℕ} {u : ℕ} {bytes : List ℕ} → is_full t.parent ≡ true → test q.plant limit t.parent g.counts.trials ≡ consistent f u
        → bytes ≡ shown_by (test q.plant limit t.parent g.counts.trials)
        → NextIs q queue store (set codes g.counts.listed node.code) (put (state_bytes * g.counts.listed) bytes values) (Continue (progress g.queued g.stored (g.counts.listed + 1) (g.counts.tested + 1) g.counts.learned g.counts.unkept u)) judged
    unfolding judge shown_by
    judge-listed {f} {u} {bytes} full e s =
        let o = order_in q in
        let b : best o.preferred t.parent ≡ value_list t.parent =
        full-best (decision_sizes q.plant) o.preferred t.parent (edition-lawful weighed q.plant t.is.accepted).preferred t.is.valid full in
        rw (judge, lt-ltb t.state.tested most_tested below, counted (consistent f u) e) record {
          holds = t.turn.standing.holds;
          room = t.turn.standing.room;
          written = record {
            keeps = written.keeps;
            codes-are = written-more code t.state.listed (value_list t.parent) q.codes codes g.counts.listed node.code written.codes-are written.listed-is
                (t.is.code_is ∙ ap code b) (omega (arith, t.wanting, t.turn.codes-room));
            values-are = values-more t.state.shown f q.values values bytes g.counts.listed (length t.state.listed) written.values-are shown_so_far written.listed-is (s ∙ ap shown_by e);
            listed-is = simp length-append (omega (arith, written.listed-is));
            tested-is = omega (arith, written.tested-is);
            learned-is = written.learned-is;
            unkept-is = written.unkept-is;
            trials-is = refl;
          };
        }
