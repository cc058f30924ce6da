-- From the model's calls to what the code does in turn: read the sheet, look at the words, ask; and what is answered is right. Assumes nothing.
use mathlib.Core.Path.{◌≡◌, refl, sym, ap, ◌∙◌}
use mathlib.Core.Bool.{Bool, true, false, false≢true}
use mathlib.Core.Option.{Option, none, some, none-ne-some}
use mathlib.Core.List.{List}
use Prim.Native.Nat.{ℕ, ◌^◌, ◌≤◌, ◌<◌}
use native.Mathlib.Omega.{arith}
use lib.ListN.{length, replicate, take, length-map}
use Rattle.model.specs.Lists.{All}
use Rattle.model.specs.Sheet.{Plant, Read, got, edition1, edition_of, read_sheet, read_either, decision_sizes}
use Rattle.model.specs.Assignment.{Assignment, Valid, assignment_of, mask_fits, values_fit, well_formed}
use Rattle.model.specs.Consistency.{Tested, consistent, inconsistent, test}
use Rattle.model.specs.Conflict.{Reduced, conflict, ReducedAlone, nothing, reduced, reduce, reduce_alone}
use Rattle.model.specs.Calls.{Refusal, by_host, by_author, refusal_number, first_given, word_grounds, Answered, refused, answered, on_words, state_bytes, shown_by, test_call, reduce_call}
use Rattle.theory.specs.Consistency.{VariablesPresent, Alone}
use Rattle.theory.specs.Plant.{Accepted}
use Rattle.theory.specs.Tables.{Tabled}
use Rattle.theory.specs.Words.{Words}
use Rattle.theory.proofs.Lists.{all_map, all_image}
use Rattle.theory.proofs.Sheet.{says_weighed, either_is, either-accepted}
use Rattle.theory.proofs.Tables.{tabled-decisions, tabled-count, tabled-few}
use Rattle.theory.proofs.Test.{accepted-present, test-consistent, test-inconsistent}
use Rattle.theory.proofs.Reduction.{reduce_alone_lem}
use Rattle.theory.proofs.Shown.{test-shows}
use Rattle.theory.proofs.Words.{well_formed-valid, well_formed-words, valid-words}
use Rattle.trials.specs.declared.Answer.{Answer as Ending}
use Rattle.trials.specs.Answers.{answer_of}
use Rattle.trials.proofs.Endings.{was_consistent, was_inconsistent, was_spent}
use Rattle.conflict.specs.declared.reduce.Reduction.{Reduction as Found}
use Rattle.conflict.specs.declared.reduce.Spent.{Spent}
use Rattle.std.specs.Prelude.{Result, Ok, Err}
use Rattle.refusal.specs.declared.Refusal.{Refusal as Whose}
use Rattle.conflict_call.specs.declared.Reduction.{Reduction}
use Rattle.conflict_call.specs.declared.Asked.{Asked}
use Rattle.conflict.specs.Reduced.{Reduces}
use Rattle.refusal.specs.Refusal.{refusal_of}
use Rattle.conflict_call.specs.Calls.{on_answer, on_plant, without_values, shown_in, tested_of, test_of, TestSays, TestRight, worded, reduce_of, ReduceSays, ReduceRight, ending_of, Answers}
use Rattle.conflict.proofs.Given.{as_ended}

-- ---- the words

module _ (domains : List ℕ) (mask values : ℕ) where
  pub ground-mask : mask_fits domains mask ≡ false → first_given (word_grounds domains mask values) ≡ some 14
  unfolding first_given word_grounds
  ground-mask e = rw (word_grounds, e)

  pub ground-values : mask_fits domains mask ≡ true → values_fit domains mask values ≡ false → first_given (word_grounds domains mask values) ≡ some 15
  unfolding first_given word_grounds
  ground-values e f = rw (word_grounds, e, f)

  pub ground-none : mask_fits domains mask ≡ true → values_fit domains mask values ≡ true → first_given (word_grounds domains mask values) ≡ none
  unfolding first_given word_grounds
  ground-none e f = rw (word_grounds, e, f)

  -- words that are not refused are well formed
  pub fit : none ≡ first_given (word_grounds domains mask values) → well_formed domains mask values ≡ true
  unfolding well_formed
  fit h = go (mask_fits domains mask) (values_fit domains mask values) refl refl
    where
      go : (m v : Bool) → mask_fits domains mask ≡ m → values_fit domains mask values ≡ v → well_formed domains mask values ≡ true
      go true true e f = rw (well_formed, e, f)
      go true false e f = absurd (none-ne-some _ (h ∙ ground-values e f))
      go false v e f = absurd (none-ne-some _ (h ∙ ground-mask e))

  -- no ground has the number 0
  pub numbered : {n : ℕ} → first_given (word_grounds domains mask values) ≡ some n → n ≡ 0 → ⊥
  numbered {n} h z = go (mask_fits domains mask) (values_fit domains mask values) refl refl
    where
      is : (m : ℕ) → first_given (word_grounds domains mask values) ≡ some m → n ≡ m
      is m e = let f : some n ≡ some m = sym h ∙ e in cc

      go : (m v : Bool) → mask_fits domains mask ≡ m → values_fit domains mask values ≡ v → ⊥
      go true true e f = none-ne-some _ (sym (ground-none e f) ∙ h)
      go true false e f = omega (arith, is 15 (ground-values e f))
      go false v e f = omega (arith, is 14 (ground-mask e))

-- ---- a plant and two words

module _ {A : Type 0} (p : Plant) (mask values : ℕ) (ask : Assignment → A) where
  plant-refused : {n : ℕ} → first_given (word_grounds (decision_sizes p) mask values) ≡ some n → on_plant p mask values ask ≡ refused (by_host n)
  unfolding on_plant
  plant-refused e = rw (on_plant, e)

  plant-answered : first_given (word_grounds (decision_sizes p) mask values) ≡ none → on_plant p mask values ask ≡ answered (ask (assignment_of (length p.costs) mask values))
  unfolding on_plant
  plant-answered e = rw (on_plant, e)

module _ {p : Plant} {d : ℕ} {domains costs counts lits : List ℕ} (t : Tabled p d domains costs counts lits) (mask values limit : ℕ) where
  -- a ground that is given refuses the call
  pub plant-refuses : {n : ℕ} → some n ≡ first_given (word_grounds (take d domains) mask values)
      → (on_plant p mask values (λ a. test p limit a 0) ≡ refused (by_host n)) × (on_plant p mask values (λ a. reduce_alone p limit a) ≡ refused (by_host n))
  plant-refuses e =
      let f = sym (rw (← tabled-decisions t) at e) in
      (plant-refused p mask values (λ a. test p limit a 0) f, plant-refused p mask values (λ a. reduce_alone p limit a) f)

  -- where none is, the words hold an assignment, and it answers
  pub plant-answers : none ≡ first_given (word_grounds (take d domains) mask values) → mask < 2 ^ 64 → values < 2 ^ 64
      → {minimal : Bool} {r : Asked} → ((a : Assignment) → Words a mask values → Valid (decision_sizes p) a → Answers minimal (Ok r) (answered (test p limit a 0)) (answered (reduce_alone p limit a)))
      → Answers minimal (Ok r) (on_plant p mask values (λ a. test p limit a 0)) (on_plant p mask values (λ a. reduce_alone p limit a))
  plant-answers e fm fv h =
      let l = length-map p.costs length in
      let n = rw (← tabled-decisions t) at e in
      let f = fit (decision_sizes p) mask values n in
      rw (plant-answered p mask values (λ a. test p limit a 0) (sym n), plant-answered p mask values (λ a. reduce_alone p limit a) (sym n), ← l) (h _
      (well_formed-words (decision_sizes p) mask values f (omega (arith, tabled-count t, tabled-few t)) fm fv)
      (well_formed-valid (decision_sizes p) mask values f))

-- ---- a sheet and two words

-- what the edition that the first byte says reads
pub says-read : (sheet : List ℕ) {w : Bool} {x : Read Plant} → w ≡ says_weighed sheet → read_sheet (edition_of w) sheet ≡ x → read_either sheet ≡ x
says-read sheet e h = either_is sheet ∙ ap (λ (w : Bool). read_sheet (edition_of w) sheet) (sym e) ∙ h

module _ {A : Type 0} (sheet : List ℕ) (mask values : ℕ) (ask : Plant → Assignment → A) where
  sheet-refused : {n : ℕ} → read_either sheet ≡ Read.refused n → on_words sheet mask values ask ≡ refused (by_author n)
  unfolding on_words
  sheet-refused e = rw (on_words, e)

  sheet-got : {p : Plant} {end : ℕ} → read_either sheet ≡ got p end → on_words sheet mask values ask ≡ on_plant p mask values (ask p)
  unfolding on_words on_plant
  sheet-got e = rw (on_words, e)

module _ (sheet : List ℕ) (mask values limit : ℕ) where
  pub sheet-refuses : {n : ℕ} → read_either sheet ≡ Read.refused n → (test_call sheet mask values limit ≡ refused (by_author n)) × (reduce_call sheet mask values limit ≡ refused (by_author n))
  unfolding test_call reduce_call
  sheet-refuses e = (rw (test_call, sheet-refused sheet mask values (λ p a. test p limit a 0) e), rw (reduce_call, sheet-refused sheet mask values (λ p a. reduce_alone p limit a) e))

  pub sheet-answers : {p : Plant} {end : ℕ} → read_either sheet ≡ got p end
      → (minimal : Bool) (r : Result Asked Whose) → Answers minimal r (on_plant p mask values (λ a. test p limit a 0)) (on_plant p mask values (λ a. reduce_alone p limit a))
      → Answers minimal r (test_call sheet mask values limit) (reduce_call sheet mask values limit)
  unfolding test_call reduce_call
  sheet-answers e minimal r h = rw (test_call, reduce_call, sheet-got sheet mask values (λ p a. test p limit a 0) e, sheet-got sheet mask values (λ p a. reduce_alone p limit a) e) h

-- ---- the test of an assignment, and the reduction after it

module _ (p : Plant) (limit : ℕ) {minimal : Bool} (a : Assignment) {e : Ending} {bytes : List ℕ} (h : (e ≡ answer_of (test p limit a 0)) × (bytes ≡ shown_by (test p limit a 0))) {t : ℕ} where
  pub answers-none : e ≡ Ending.Consistent t → Answers minimal (Ok (record { answer = Reduction.None t; values = bytes })) (answered (test p limit a 0)) (answered (reduce_alone p limit a))
  unfolding reduce_alone
  answers-none q = let w = was_consistent _ _ _ t e (as_ended h.0) q in record { test = λ _. rw w; reduction = λ _. rw (reduce_alone, w); shows = h.1 }

  pub answers-spent : e ≡ Ending.Spent t → Answers minimal (Ok (record { answer = Reduction.Spent t; values = bytes })) (answered (test p limit a 0)) (answered (reduce_alone p limit a))
  unfolding reduce_alone
  answers-spent q = let w = (was_spent _ _ _ t e (as_ended h.0) q).0 in record { test = λ _. rw w; reduction = λ _. rw (reduce_alone, w); shows = h.1 }

  module _ (q : e ≡ Ending.Inconsistent t) where
    pub answers-whole : minimal ≡ false → {mask values : ℕ} → Answers minimal (Ok (record { answer = Reduction.Conflict mask values t; values = bytes })) (answered (test p limit a 0)) (answered (reduce_alone p limit a))
    answers-whole f = record { test = λ _. rw (was_inconsistent _ _ _ t e (as_ended h.0) q).0; reduction = λ g. absurd (false≢true (sym f ∙ g)); shows = h.1 }

    module _ (f : minimal ≡ true) (r : Result Found Spent) (k : Reduces p (reduce p limit a t) r) where
      pub answers-conflict : {found : Found} → r ≡ Ok found → Answers minimal (Ok (record { answer = Reduction.Conflict found.mask found.values found.trials; values = bytes })) (answered (test p limit a 0)) (answered (reduce_alone p limit a))
      unfolding reduce_alone
      answers-conflict {found} g =
          let k : Reduces p (reduce p limit a t) (Ok found) = rw g at k in
          let w = (was_inconsistent _ _ _ t e (as_ended h.0) q).0 in
          record { test = λ g. absurd (false≢true (sym g ∙ f)); reduction = λ _. rw (reduce_alone, w, k.2, k.1.words.mask_is, k.1.words.values-is); shows = h.1 }

      pub answers-stopped : {s : Spent} → r ≡ Err s → Answers minimal (Ok (record { answer = Reduction.Spent s.trials; values = bytes })) (answered (test p limit a 0)) (answered (reduce_alone p limit a))
      unfolding reduce_alone
      answers-stopped {s} g =
          let k : reduce p limit a t ≡ Reduced.spent s.trials = rw g at k in
          let w = (was_inconsistent _ _ _ t e (as_ended h.0) q).0 in
          record { test = λ g. absurd (false≢true (sym g ∙ f)); reduction = λ _. rw (reduce_alone, w, k); shows = h.1 }

-- ---- what is answered is right

module _ (sheet : List ℕ) (mask values : ℕ) where
  -- what holds of each refusal, and of what a valid assignment of the plant answers, holds of the answer
  answer-says : {A : Type 0} (ask : Plant → Assignment → A) (S : Plant → Assignment → Answered A → Type 0) → ((p : Plant) (a : Assignment) (r : Refusal) → S p a (refused r))
      → ((p : Plant) → Accepted edition1 p → (a : Assignment) → Valid (decision_sizes p) a → S p a (answered (ask p a)))
      → (p : Plant) (end : ℕ) → read_either sheet ≡ got p end → S p (assignment_of (length p.costs) mask values) (on_words sheet mask values ask)
  answer-says ask S refuses answers p end h = rw (sheet-got sheet mask values ask h) (go (first_given (word_grounds (decision_sizes p) mask values)) refl)
    where
      go : (o : Option ℕ) → first_given (word_grounds (decision_sizes p) mask values) ≡ o → S p (assignment_of (length p.costs) mask values) (on_plant p mask values (ask p))
      go (some n) e = rw (plant-refused p mask values (ask p) e) (refuses p _ (by_host n))
      go none e =
          let l = length-map p.costs length in
          rw (plant-answered p mask values (ask p) e) (answers p (either-accepted sheet p end h).0 _ (rw l at (well_formed-valid (decision_sizes p) mask values (fit (decision_sizes p) mask values (sym e)))))

module _ (limit : ℕ) (p : Plant) (ok : Accepted edition1 p) (a : Assignment) (valid : Valid (decision_sizes p) a) where
  test-says : TestSays p a (shown_by (test p limit a 0)) (answered (without_values (test p limit a 0)))
  unfolding shown_by
  test-says = go (test p limit a 0) refl
    where
      present : VariablesPresent p
      present = accepted-present edition1 p ok

      go : (e : Tested) → test p limit a 0 ≡ e → TestSays p a (shown_by e) (answered (without_values e))
      go (consistent f t) q = ((f, test-consistent p present limit a valid 0 f t q), test-shows p a present valid limit 0 f t q)
      go (inconsistent t) q = test-inconsistent p present limit a valid 0 t q
      go (Tested.spent t) q = tt

  reduce-says : ReduceSays p a (answered (worded (reduce_alone p limit a)))
  unfolding edition1
  reduce-says = go (reduce_alone p limit a) (reduce_alone_lem p (accepted-present edition1 p ok) limit a valid)
    where
      few : length (decision_sizes p) ≤ 16
      few = omega (arith, length-map p.costs length, ok.decisions)

      small : All (λ s. s ≤ 16) (decision_sizes p)
      small = all_image length (λ s. s ≤ 16) p.costs (all_map (λ row h. h.1) p.costs ok.decision_sizes_lem)

      go : (o : ReducedAlone) → Alone p a o → ReduceSays p a (answered (worded o))
      go (nothing t) h = h
      go (reduced (conflict c t)) h = (h.0, (c, valid-words (decision_sizes p) few small c h.1.conflict.valid, h.1, h.3))
      go (reduced (Reduced.spent t)) h = tt

module _ (sheet : List ℕ) (mask values limit : ℕ) where
  -- an answer and bytes that are the model's are right about the assignment
  test-right : (q : Result Ending Whose) (bytes : List ℕ) → test_of q ≡ on_answer without_values (test_call sheet mask values limit) → bytes ≡ shown_in (test_call sheet mask values limit)
      → TestRight sheet mask values (record { answer = q; values = bytes })
  unfolding test_call
  test-right q bytes e s p end k = rw (e, s) (answer-says sheet mask values (λ p a. test p limit a 0) (λ p a e. TestSays p a (shown_in e) (on_answer without_values e)) (λ p a r. tt) (test-says limit) p end k)

  -- the test's answer and its bytes are the model's, and right
  abbrev pub TestIs : Result Ending Whose → List ℕ → Type 0
  TestIs q bytes =
      (test_of q ≡ on_answer without_values (test_call sheet mask values limit))
      × ((bytes ≡ shown_in (test_call sheet mask values limit)) × TestRight sheet mask values (record { answer = q; values = bytes }))

  pub test-answered : {r : Asked} → Answers false (Ok r) (test_call sheet mask values limit) (reduce_call sheet mask values limit) → (q : Ending) → tested_of q ≡ ending_of r.answer → TestIs (Ok q) r.values
  test-answered h q f = let e = ap answered f ∙ h.test refl in (e, (h.shows, test-right (Ok q) _ e h.shows))

  pub test-refused : (w : Whose) → test_call sheet mask values limit ≡ refused (refusal_of w) → TestIs (Err w) (replicate state_bytes 0)
  test-refused w h =
      let e : test_of (Err w) ≡ on_answer without_values (test_call sheet mask values limit) = rw h in
      let s : replicate state_bytes 0 ≡ shown_in (test_call sheet mask values limit) = rw h in
      (e, (s, test-right (Err w) _ e s))

  -- and so is the reduction's
  reduce-right : (q : Result Reduction Whose) → reduce_of q ≡ on_answer worded (reduce_call sheet mask values limit) → ReduceRight sheet mask values q
  unfolding reduce_call
  reduce-right q e p end k = rw e (answer-says sheet mask values (λ p a. reduce_alone p limit a) (λ p a o. ReduceSays p a (on_answer worded o)) (λ p a r. tt) (reduce-says limit) p end k)

  abbrev pub ReduceIs : Result Reduction Whose → Type 0
  ReduceIs q = (reduce_of q ≡ on_answer worded (reduce_call sheet mask values limit)) × ReduceRight sheet mask values q

  pub reduce-answered : {r : Asked} → Answers true (Ok r) (test_call sheet mask values limit) (reduce_call sheet mask values limit) → ReduceIs (Ok r.answer)
  reduce-answered h = let e = h.reduction refl in (e, reduce-right (Ok _) e)

  pub reduce-refused : (w : Whose) → reduce_call sheet mask values limit ≡ refused (refusal_of w) → ReduceIs (Err w)
  reduce-refused w h = let e : reduce_of (Err w) ≡ on_answer worded (reduce_call sheet mask values limit) = rw h in (e, reduce-right (Err w) e)

-- ---- what is refused

module _ (sheet : List ℕ) (mask values : ℕ) {A B : Type 0} (ask : Plant → Assignment → A) (g : A → B) (r : Refusal) where
  -- where the sheet is accepted, a refusal's number is one of the words' grounds, and so not 0
  refusal-number : refused r ≡ on_answer g (on_words sheet mask values ask) → (p : Plant) (end : ℕ) → read_either sheet ≡ got p end → refusal_number r ≡ 0 → ⊥
  refusal-number e p end h z = go (first_given (word_grounds (decision_sizes p) mask values)) refl (rw (sheet-got sheet mask values ask h) at e)
    where
      go : (o : Option ℕ) → first_given (word_grounds (decision_sizes p) mask values) ≡ o → refused r ≡ on_answer g (on_plant p mask values (ask p)) → ⊥
      go (some n) q e =
          let e : refused r ≡ refused (by_host n) = rw (plant-refused p mask values (ask p) q) at e in
          let f : r ≡ by_host n = cc in
          numbered (decision_sizes p) mask values q (rw f at z)
      go none q e =
          let e : refused r ≡ answered _ = rw (plant-answered p mask values (ask p) q) at e in
          let x : ◌≡◌ {A = ℕ} 0 1 = cc in
          absurd (omega arith)

module _ (sheet : List ℕ) (mask values limit : ℕ) (r : Whose) where
  pub test-refusal : refused (refusal_of r) ≡ on_answer without_values (test_call sheet mask values limit) → (p : Plant) (end : ℕ) → read_either sheet ≡ got p end → refusal_number (refusal_of r) ≡ 0 → ⊥
  unfolding test_call
  test-refusal = refusal-number sheet mask values (λ p a. test p limit a 0) without_values (refusal_of r)

  pub reduce-refusal : refused (refusal_of r) ≡ on_answer worded (reduce_call sheet mask values limit) → (p : Plant) (end : ℕ) → read_either sheet ≡ got p end → refusal_number (refusal_of r) ≡ 0 → ⊥
  unfolding reduce_call
  reduce-refusal = refusal-number sheet mask values (λ p a. reduce_alone p limit a) worded (refusal_of r)
