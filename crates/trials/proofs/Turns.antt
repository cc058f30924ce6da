-- The search at the variable v, and the turns of its loop over the values of v: what holds at the head of the loop, and what follows at each way out. Assumes nothing.
use mathlib.Core.Path.{◌≡◌, refl, sym, ap, ap₂, ◌∙◌}
use mathlib.Core.Bool.{Bool, true, false, ◌||◌, true≢false}
use mathlib.Core.Option.{none, some}
use mathlib.Core.List.{List, map}
use Prim.Native.Nat.{ℕ, zero, suc, ◌+◌, ◌-◌, ◌*◌, ◌<◌, ◌≤◌}
use native.Mathlib.Omega.{arith}
use native.Mathlib.Numerals.{add-one}
use lib.ListN.{length, get_or, set, length-set}
use lib.Seq.{get_or-set_other, set-set, set-get_or}
use Rattle.model.specs.Sheet.{Literal}
use Rattle.model.specs.Consistency.{any_false, Tested, consistent, inconsistent, spent, explore, or_else, try_values}
use Rattle.model.specs.Assignment.{Assignment}
use Rattle.theory.specs.Search.{nth, due, satisfied}
use Rattle.theory.proofs.Search.{due-set, satisfied-set, filled_next, trial_clear, trial_satisfied}
use Rattle.theory.proofs.Agreement.{filled_more}
use Rattle.theory.proofs.TestSteps.{attempt, attempt-false, attempt-deeper, turn, turn-spent, hop_try, hop_skip}
use Rattle.clauses.specs.Bytes.{given}
use Rattle.clauses.specs.Numbers.{values, unassigned, set_words, sat_words}
use Rattle.clauses.specs.Sets.{SetIs, Within}
use Rattle.clauses.proofs.Bytes.{given-none, given_some, given-at}
use Rattle.trials.specs.declared.Answer.{Answer}
use Rattle.trials.specs.declared.Answer.TheVariants.{Consistent, Inconsistent, Spent}
use Rattle.trials.specs.Answers.{Ended}
use Rattle.trials.specs.Searches.{NextFree, Bytes, Stands, Searches}
use Rattle.trials.proofs.Bytes.{given_length, given-set, filled-values}
use Rattle.trials.proofs.Endings.{as_consistent, as_inconsistent, as_spent, was_consistent, was_inconsistent, was_spent, moved}

-- ---- at the variable v

module _ (m : ℕ) (Known : List (List Literal) → Type 0) (sizes : List ℕ) (inSat inDue : ℕ → ℕ → Bool) (vals : List ℕ) (v : ℕ) (room : Bytes sizes vals v) where
  -- behind the last variable all are assigned
  all_set : v ≡ length sizes → (inHeld : ℕ → Bool) (used limit : ℕ) → Searches m Known sizes inSat inDue vals inHeld v used limit vals (Consistent used)
  unfolding explore
  all_set e inHeld used limit cs s =
      let z : length sizes - v ≡ 0 = omega arith in
      let w : v ≡ length vals = omega (arith, room.same) in
      as_consistent (explore cs limit sizes (length sizes - v) v used (map given vals)) vals vals used
      (rw z (ap (λ (f : List ℕ). consistent f used) (filled-values vals (rw w at s.filled))))

  module _ (lt : v < length sizes) where
    here : get_or (map given vals) v none ≡ given (get_or vals v 0)
    here = given-at vals v (omega (arith, room.same))

    more : length sizes - v ≡ suc (length sizes - (v + 1))
    more = omega arith

    pub room_next : Bytes sizes vals (v + 1)
    room_next = record { upto = omega arith; few = room.few; small = room.small; same = room.same }

    -- a variable with a value is passed over
    pub passed : (get_or vals v 0 ≡ unassigned → ⊥) → (inHeld : ℕ → Bool) (used limit : ℕ) (after : List ℕ) (r : Answer)
        → Searches m Known sizes inSat inDue vals inHeld (v + 1) used limit after r → Searches m Known sizes inSat inDue vals inHeld v used limit after r
    passed has inHeld used limit after r deep cs s =
        let is : get_or (map given vals) v none ≡ some (get_or vals v 0) = here ∙ given_some (get_or vals v 0) has in
        moved (explore cs limit sizes (length sizes - v) v used (map given vals)) (explore cs limit sizes (length sizes - (v + 1)) (v + 1) used (map given vals)) vals after r
        (rw more (hop_skip cs limit sizes (length sizes - (v + 1)) v used (map given vals) (get_or vals v 0) is))
        (deep cs record {
          known = s.known;
          many = s.many;
          satisfies = s.satisfies;
          dues = record { has = λ u h. s.dues.has u (omega arith) };
          holds = s.holds;
          filled = rw add-one (filled_more v (map given vals) (get_or vals v 0) is s.filled);
          clear = s.clear;
        })

-- ---- from `from` on to the next unassigned variable v

module _ (m : ℕ) (Known : List (List Literal) → Type 0) (sizes : List ℕ) (inSat inDue : ℕ → ℕ → Bool) (vals : List ℕ) (from v : ℕ) (room : Bytes sizes vals from) (next : NextFree vals from v) where
  pub room_at : Bytes sizes vals v
  room_at = record { upto = omega (arith, next.upto, room.same); few = room.few; small = room.small; same = room.same }

  -- the variables between have values
  pub passed_over : (inHeld : ℕ → Bool) (used limit : ℕ) (after : List ℕ) (r : Answer)
      → Searches m Known sizes inSat inDue vals inHeld v used limit after r → Searches m Known sizes inSat inDue vals inHeld from used limit after r
  passed_over inHeld used limit after r deep =
      let e : from + (v - from) ≡ v = omega (arith, next.after) in
      go (v - from) from room (omega (arith, next.upto, room.same)) (λ u a b. next.assigned u a (omega arith)) (rw e deep)
    where
      go : (n w : ℕ) → Bytes sizes vals w → w + n ≤ length sizes → ((u : ℕ) → w ≤ u → u < w + n → get_or vals u 0 ≡ unassigned → ⊥)
          → Searches m Known sizes inSat inDue vals inHeld (w + n) used limit after r → Searches m Known sizes inSat inDue vals inHeld w used limit after r
      go zero w room h has deep = let e : w + 0 ≡ w = omega arith in rw e at deep
      go (suc n) w room h has deep =
          let e : w + suc n ≡ w + 1 + n = omega arith in
          let lt : w < length sizes = omega arith in
          passed m Known sizes inSat inDue vals w room lt (has w (omega arith) (omega arith)) inHeld used limit after r
          (go n (w + 1) (room_next m Known sizes inSat inDue vals w room lt) (omega arith) (λ u a b. has u (omega arith) (omega arith)) (rw e at deep))

  -- behind them no variable is left
  pub none_left : v ≡ length sizes → (inHeld : ℕ → Bool) (used limit : ℕ) (r : Answer) → r ≡ Consistent used → Searches m Known sizes inSat inDue vals inHeld from used limit vals r
  none_left e inHeld used limit r q = passed_over inHeld used limit vals r (rw q (all_set m Known sizes inSat inDue vals v room_at e inHeld used limit))

-- ---- the loop over the values of v

module _ (m : ℕ) (Known : List (List Literal) → Type 0) (sizes : List ℕ) (inSat inDue : ℕ → ℕ → Bool) (vals₀ : List ℕ) (inHeld : ℕ → Bool) (from v used limit size : ℕ) where
  -- the assignment where the loop begins, and what the model says of it from v on, and of another from the next variable on
  abbrev a₀ : Assignment
  a₀ = map given vals₀

  abbrev Says : List (List Literal) → Tested
  Says cs = explore cs limit sizes (length sizes - v) v used a₀

  abbrev deeper : List (List Literal) → ℕ → Assignment → Tested
  deeper cs = explore cs limit sizes (length sizes - (v + 1)) (v + 1)

  -- at the head of the loop, before the value x, with u trials made: the values from x on decide
  pub record Turn (vals : List ℕ) (u x : ℕ) : Type 0 where
    pub room : Bytes sizes vals₀ v
    pub below : v < length sizes
    pub free : get_or vals₀ v 0 ≡ unassigned
    pub sized : size ≡ get_or sizes v 0
    pub upto : x ≤ size
    pub long : length vals ≡ length vals₀
    pub over : (after : List ℕ) (r : Answer) → Searches m Known sizes inSat inDue vals₀ inHeld v used limit after r → Searches m Known sizes inSat inDue vals₀ inHeld from used limit after r
    pub back : (cs : List (List Literal)) → Stands m Known cs inSat inDue vals₀ inHeld v → set vals v unassigned ≡ vals₀
    pub says : (cs : List (List Literal)) → Stands m Known cs inSat inDue vals₀ inHeld v → Says cs ≡ try_values cs limit (deeper cs) v a₀ (size - x) x u

  -- the first turn
  pub turn-first : Bytes sizes vals₀ from → NextFree vals₀ from v → (v ≡ length sizes → ⊥) → size ≡ get_or sizes v 0 → Turn vals₀ used 0
  turn-first start next n sized = record {
    room = room;
    below = lt;
    free = free;
    sized = sized;
    upto = omega arith;
    long = refl;
    over = passed_over m Known sizes inSat inDue vals₀ from v start next inHeld used limit;
    back = λ cs s. ap (set vals₀ v) (sym free) ∙ set-get_or vals₀ v 0;
    says = λ cs s.
        let z : size - 0 ≡ get_or sizes v 0 = omega arith in
        rw (more m Known sizes inSat inDue vals₀ v room lt, z)
        (hop_try cs limit sizes (length sizes - (v + 1)) v used a₀ (here m Known sizes inSat inDue vals₀ v room lt ∙ given-none (get_or vals₀ v 0) free));
  }
    where
      room : Bytes sizes vals₀ v
      room = room_at m Known sizes inSat inDue vals₀ from v start next

      lt : v < length sizes
      lt = omega (arith, next.upto, start.same)

      free : get_or vals₀ v 0 ≡ unassigned
      free = next.free (omega (arith, start.same))

  module _ (vals : List ℕ) (u x : ℕ) (t : Turn vals u x) where
    -- every value was tried
    pub turn_end : size ≤ x → (r : Answer) → r ≡ Inconsistent u → Searches m Known sizes inSat inDue vals₀ inHeld from used limit (set vals v unassigned) r
    unfolding try_values
    turn_end h r e =
        let z : size - x ≡ 0 = omega arith in
        t.over (set vals v unassigned) r (λ cs s. rw e (as_inconsistent (Says cs) vals₀ (set vals v unassigned) u (t.says cs s ∙ rw z) (t.back cs s)))

    module _ (lt : x < size) where
      left : size - x ≡ suc (size - (x + 1))
      left = omega arith

      -- no trial is left
      pub turn-stop : limit ≤ u → (r : Answer) → r ≡ Spent u → Searches m Known sizes inSat inDue vals₀ inHeld from used limit (set vals v unassigned) r
      turn-stop h r e =
          t.over (set vals v unassigned) r
          (λ cs s. rw e (as_spent (Says cs) vals₀ (set vals v unassigned) u (t.says cs s ∙ rw left (turn-spent cs limit (deeper cs) v a₀ (size - (x + 1)) x u h)) (t.back cs s)))

      pub value : x < values
      value = omega (arith, t.room.small v, t.sized)

      -- the row of the table that the turn reads
      pub row_within : (v * values + x) * set_words + set_words ≤ sat_words
      row_within = omega (arith, value, t.below, t.room.few)

      -- the bytes after a trial
      pub room-set : Bytes sizes (set vals v x) (v + 1)
      room-set = record { upto = omega (arith, t.below); few = t.room.few; small = t.room.small; same = length-set vals v x ∙ t.long ∙ t.room.same }

      -- the assignment after the trial of x
      abbrev a : Assignment
      a = set a₀ v (some x)

      -- what the sets say after it
      module _ (ul : u < limit) (row : ℕ) (r : Bool) (at_row : row ≡ v * values + x)
          (covers : Within m (inDue v) (λ c. inHeld c || inSat row c) r) (cs : List (List Literal)) (s : Stands m Known cs inSat inDue vals₀ inHeld v) where
        placed : map given (set vals v x) ≡ a
        placed =
            ap (map given) (sym (ap (λ (l : List ℕ). set l v x) (sym (t.back cs s)) ∙ set-set vals v unassigned x))
            ∙ given-set vals₀ v x ∙ ap (set a₀ v) (given_some x (λ e. omega (arith, value)))

        inside₀ : v < length a₀
        inside₀ = omega (arith, given_length vals₀, t.room.same, t.below)

        free₀ : get_or a₀ v none ≡ none
        free₀ = here m Known sizes inSat inDue vals₀ v t.room t.below ∙ given-none (get_or vals₀ v 0) t.free

        holds-now : (c : ℕ) → c < m → (inHeld c || inSat row c) ≡ satisfied a (nth cs c)
        holds-now c h =
            ap₂ ◌||◌ (s.holds.has c h) (ap (λ (k : ℕ). inSat k c) at_row ∙ (s.satisfies v x (omega (arith, t.below, t.room.few)) value).has c h)
            ∙ sym (satisfied-set a₀ v x inside₀ free₀ (nth cs c))

        dues : SetIs m (due a₀ v) cs (inDue v)
        dues = s.dues.has v (omega arith) (omega (arith, t.room.same, t.below)) free₀

        -- the test passes exactly if no clause is false
        clear : r ≡ true → any_false a cs ≡ false
        clear e = trial_clear cs a₀ v x inside₀ free₀ s.filled s.clear
            (λ c l d. let b : c < m = omega (arith, s.many) in sym (holds-now c b) ∙ covers.all e c b (dues.has c b ∙ d))

        shut : r ≡ false → any_false a cs ≡ true
        shut e = go (any_false a cs) refl
          where
            go : (b : Bool) → any_false a cs ≡ b → any_false a cs ≡ true
            go true q = q
            go false q = absurd (true≢false (sym (covers.only (λ c b i. holds-now c b ∙ trial_satisfied cs a₀ v x inside₀ free₀ s.filled q c (sym (dues.has c b) ∙ i))) ∙ e))

        -- where it passes, the search stands at the next variable
        stands_set : r ≡ true → (inMore : ℕ → Bool) → ((c : ℕ) → c < m → inMore c ≡ (inHeld c || inSat row c)) → Stands m Known cs inSat inDue (set vals v x) inMore (v + 1)
        stands_set e inMore joins = record {
          known = s.known;
          many = s.many;
          satisfies = s.satisfies;
          dues = record { has = λ w h l f. rw placed (next w h l (rw placed at f)) };
          holds = record { has = λ c h. rw placed (joins c h ∙ holds-now c h) };
          filled = rw placed (filled_next a₀ v x inside₀ free₀ s.filled);
          clear = rw placed (clear e);
        }
          where
            next : (w : ℕ) → v + 1 ≤ w → w < length (set vals v x) → get_or a w none ≡ none → SetIs m (due a w) cs (inDue w)
            next w h l f = record {
              has = λ c b. (s.dues.has w (omega arith) (omega (arith, length-set vals v x, t.long)) (sym (get_or-set_other a₀ v w (some x) none (λ e. omega arith)) ∙ f)).has c b
                  ∙ sym (due-set a₀ v x inside₀ free₀ w (omega arith) (nth cs c));
            }

        tried : Says cs ≡ or_else (attempt cs limit (deeper cs) v a₀ x u) (try_values cs limit (deeper cs) v a₀ (size - (x + 1)) (x + 1))
        tried = t.says cs s ∙ rw left (turn cs limit (deeper cs) v a₀ (size - (x + 1)) x u ul)

        -- where it fails, the next value is tried
        tried-next : r ≡ false → Says cs ≡ try_values cs limit (deeper cs) v a₀ (size - (x + 1)) (x + 1) (u + 1)
        unfolding or_else
        tried-next e = tried ∙ ap (λ (q : Tested). or_else q (try_values cs limit (deeper cs) v a₀ (size - (x + 1)) (x + 1))) (attempt-false cs limit (deeper cs) v a₀ x u (shut e))

        -- where it passes, what the search from the next variable on says decides
        tried-deeper : r ≡ true → (d : Tested) → deeper cs (u + 1) (map given (set vals v x)) ≡ d → Says cs ≡ or_else d (try_values cs limit (deeper cs) v a₀ (size - (x + 1)) (x + 1))
        tried-deeper e d q =
            tried ∙ ap (λ (q : Tested). or_else q (try_values cs limit (deeper cs) v a₀ (size - (x + 1)) (x + 1)))
            (attempt-deeper cs limit (deeper cs) v a₀ x u (clear e) ∙ ap (deeper cs (u + 1)) (sym placed) ∙ q)

      -- on to the next value, with the assignment and the trials as they are now
      again : (vals' : List ℕ) (u' : ℕ) → length vals' ≡ length (set vals v x)
          → ((cs : List (List Literal)) → Stands m Known cs inSat inDue vals₀ inHeld v → (vals' ≡ set vals v x) × (Says cs ≡ try_values cs limit (deeper cs) v a₀ (size - (x + 1)) (x + 1) u'))
          → Turn vals' u' (x + 1)
      again vals' u' p k = record {
        room = t.room;
        below = t.below;
        free = t.free;
        sized = t.sized;
        upto = omega arith;
        long = p ∙ length-set vals v x ∙ t.long;
        over = t.over;
        back = λ cs s. ap (λ (l : List ℕ). set l v unassigned) (k cs s).0 ∙ set-set vals v x unassigned ∙ t.back cs s;
        says = λ cs s. (k cs s).1;
      }

      module _ (ul : u < limit) (row : ℕ) (r : Bool) (at_row : row ≡ v * values + x) (covers : Within m (inDue v) (λ c. inHeld c || inSat row c) r) where
        -- the test failed
        pub turn-again : r ≡ false → (vals' : List ℕ) (u' : ℕ) → vals' ≡ set vals v x → u' ≡ u + 1 → Turn vals' u' (x + 1)
        turn-again e vals' u' p q = again vals' u' (ap length p) (λ cs s. (p, rw q (tried-next ul row r at_row covers cs s e)))

        -- the test passed, and the search from the next variable on ended
        module _ (passes : r ≡ true) (inMore : ℕ → Bool) (joins : (c : ℕ) → c < m → inMore c ≡ (inHeld c || inSat row c)) (after : List ℕ) (b : Answer) (n : ℕ)
            (deep : Searches m Known sizes inSat inDue (set vals v x) inMore (v + 1) (u + 1) limit after b) where
          module _ (cs : List (List Literal)) (s : Stands m Known cs inSat inDue vals₀ inHeld v) where
            ended : Ended (deeper cs (u + 1) (map given (set vals v x))) (set vals v x) after b
            ended = deep cs (stands_set ul row r at_row covers cs s passes inMore joins)

            says-deeper : (d : Tested) → deeper cs (u + 1) (map given (set vals v x)) ≡ d → Says cs ≡ or_else d (try_values cs limit (deeper cs) v a₀ (size - (x + 1)) (x + 1))
            says-deeper = tried-deeper ul row r at_row covers cs s passes

            found : b ≡ Consistent n → Ended (Says cs) vals₀ after (Consistent n)
            unfolding or_else
            found q =
                as_consistent (Says cs) vals₀ after n
                (says-deeper (consistent after n) (was_consistent (deeper cs (u + 1) (map given (set vals v x))) (set vals v x) after n b ended q))

            stopped : b ≡ Spent n → Ended (Says cs) vals₀ (set after v unassigned) (Spent n)
            unfolding or_else
            stopped q =
                let e = was_spent (deeper cs (u + 1) (map given (set vals v x))) (set vals v x) after n b ended q in
                as_spent (Says cs) vals₀ (set after v unassigned) n (says-deeper (spent n) e.0)
                (ap (λ (l : List ℕ). set l v unassigned) e.1 ∙ set-set vals v x unassigned ∙ t.back cs s)

            deep-next : b ≡ Inconsistent n → (after ≡ set vals v x) × (Says cs ≡ try_values cs limit (deeper cs) v a₀ (size - (x + 1)) (x + 1) n)
            unfolding or_else
            deep-next q =
                let e = was_inconsistent (deeper cs (u + 1) (map given (set vals v x))) (set vals v x) after n b ended q in
                (e.1, says-deeper (inconsistent n) e.0)

          pub deep-found : b ≡ Consistent n → (a : Answer) → a ≡ Consistent n → Searches m Known sizes inSat inDue vals₀ inHeld from used limit after a
          deep-found q a e = t.over after a (λ cs s. rw e (found cs s q))

          pub deep-stop : b ≡ Spent n → (a : Answer) → a ≡ Spent n → Searches m Known sizes inSat inDue vals₀ inHeld from used limit (set after v unassigned) a
          deep-stop q a e = t.over (set after v unassigned) a (λ cs s. rw e (stopped cs s q))

          pub deep-again : b ≡ Inconsistent n → length after ≡ length (set vals v x) → (vals' : List ℕ) (u' : ℕ) → vals' ≡ after → u' ≡ n → Turn vals' u' (x + 1)
          deep-again q l vals' u' p w = rw (p, w) (again after n l (λ cs s. deep-next cs s q))
