-- From the tables of a plant and two words to what the consistency test is given, and from what it answers to the model's test. Assumes nothing.
use mathlib.Core.Path.{◌≡◌, refl, sym, ap, ◌∙◌}
use mathlib.Core.Option.{Option, none}
use mathlib.Core.List.{List, [], ◌++◌, map}
use Prim.Native.Nat.{ℕ, zero, suc, ◌-◌, ◌≤◌}
use native.Mathlib.Omega.{arith}
use native.Mathlib.Decide.{dec_lt}
use native.Mathlib.Numerals.{unary_clauses}
use lib.ListN.{length, get_or, take, drop, replicate, length-drop, length-map, length-append, length-replicate, get_or-eq_default}
use lib.Seq.{length-take-le, take_at, drop_at}
use Rattle.model.specs.Sheet.{Plant, edition1, decision_sizes}
use Rattle.model.specs.Assignment.{Assignment, Valid, assignment_of}
use Rattle.model.specs.Consistency.{Tested, consistent, inconsistent, test, over_all}
use Rattle.model.specs.Calls.{state_bytes, value_bytes, shown_by}
use Rattle.theory.specs.Plant.{Sized}
use Rattle.model.specs.Tables.{clauses}
use Rattle.theory.specs.Tables.{Tabled}
use Rattle.theory.specs.Words.{Words, byte}
use Rattle.theory.proofs.Lists.{all_join, all-at}
use Rattle.theory.proofs.Agreement.{valid_length}
use Rattle.theory.proofs.Tables.{tabled-count, tabled-few, tabled-sizes, tabled-clauses, tabled-sized}
use Rattle.theory.proofs.Words.{words_hold, assignment_length, assignment_small}
use Rattle.plan.specs.Plans.{plan_words}
use Rattle.clauses.specs.Bytes.{given}
use Rattle.clauses.specs.Tables.{Prepared}
use Rattle.trials.specs.declared.Answer.{Answer}
use Rattle.trials.specs.Answers.{test_over, answer_of, leaves, Ended}
use Rattle.consistency.specs.Given.{Given}
use Rattle.consistency.proofs.Callers.{plant-tables, plant-ended}
use Rattle.conflict.specs.Given.{Limits, Ready}
use Rattle.conflict.specs.Shown.{shown_of}
use Rattle.conflict.proofs.Bytes.{small-behind, byte-most}

-- ---- what a plant's tables give

module _ {p : Plant} {d : ℕ} {domains costs counts lits : List ℕ} (t : Tabled p d domains costs counts lits) where
  tabled-states : length p.states ≡ length domains - d
  tabled-states = ap (λ (q : Plant). length q.states) t.plant ∙ length-drop d domains

  -- the tables of a plant are within the limits
  pub tabled-limits : Limits d domains counts lits
  unfolding edition1
  tabled-limits = record {
    decisions = tabled-few t;
    present = t.decisions;
    few = omega (arith, tabled-few t, t.accepted.states, tabled-states);
    small = small;
    tables = plant-tables p t.accepted domains counts lits (tabled-sizes t) (tabled-clauses t) t.literal-room;
  }
    where
      small : (v : ℕ) → get_or domains v 0 ≤ 16
      small v = elim (dec_lt v (length domains)) [
        | yes h ↦ (all-at 0 Sized domains (rw (tabled-sizes t) at (all_join Sized (decision_sizes p) p.states (tabled-sized t) t.accepted.state-sizes)) v h).1
        | no h ↦ rw (get_or-eq_default domains 0 {n = v} (omega arith)) (omega arith)
      ]

  -- with the sets made of them, and room for the search, they are ready for the test
  pub tabled-ready : {sat uses plan : List ℕ} → Prepared (clauses counts lits) sat uses → length plan ≡ plan_words → Ready d domains counts lits sat uses plan
  tabled-ready r l = record { limits = tabled-limits; prepared = r; planned = l }

  -- the two words, filled up for the state variables, hold the assignment to all variables
  pub tabled-over : (a : Assignment) {mask values : ℕ} → Words a mask values → Valid (decision_sizes p) a
      → assignment_of d mask values ++ replicate (length domains - d) none ≡ over_all p a
  tabled-over a {mask} {values} w v =
      let l : length a ≡ d = valid_length (decision_sizes p) a v ∙ length-map p.costs length ∙ tabled-count t in
      rw (← l, words_hold a mask values w, l, ← tabled-states)

-- ---- what the consistency test is given

-- a plan of zeros is room for the search
pub plan_long : length {A = ℕ} (replicate plan_words 0) ≡ plan_words
plan_long = length-replicate {A = ℕ} plan_words 0

-- another plan serves as well
pub ready-again : {d : ℕ} {domains counts lits sat uses plan after : List ℕ} → Ready d domains counts lits sat uses plan → length after ≡ plan_words → Ready d domains counts lits sat uses after
ready-again r l = record { limits = r.limits; prepared = r.prepared; planned = l }

-- the bytes of the variables are the first of these, and are lent to be filled
abbrev pub unfilled : List ℕ
unfilled = replicate state_bytes 0

-- zeros behind the first m
zeros-left : (m n : ℕ) → drop {A = ℕ} m (replicate n 0) ≡ replicate (n - m) 0
zeros-left zero n = simp unary_clauses refl
zeros-left (suc m) zero = let none : 0 - suc m ≡ 0 = omega arith in rw none
zeros-left (suc m) (suc n) = simp unary_clauses (zeros-left m n)

-- what is shown of the bytes that a test of all variables leaves, with zeros behind them
shown-left : (e : Tested) (before after : List ℕ) (q : Answer) → Ended e before after q → (n : ℕ) → length after ≡ n → shown_of q (after ++ drop n unfilled) ≡ shown_by e
unfolding answer_of leaves shown_by value_bytes
shown-left (consistent f t) before after q h n l =
    let long : length f ≡ n = ap length (sym h.left) ∙ l in
    rw (h.answer, h.left, zeros-left n state_bytes, ← long)
shown-left (inconsistent t) before after q h n l = rw h.answer
shown-left (Tested.spent t) before after q h n l = rw h.answer

module _ {d : ℕ} {domains counts lits sat uses plan : List ℕ} (r : Ready d domains counts lits sat uses plan) (mask values : ℕ)
    {filled : List ℕ} (e : filled ≡ map byte (assignment_of d mask values ++ replicate (length (take (length domains) unfilled) - d) none)) where
  held : filled ≡ map byte (assignment_of d mask values ++ replicate (length domains - d) none)
  held = rw (length-take-le (length domains) unfilled r.limits.few) at e

  count : length (assignment_of d mask values) ≡ d
  count = assignment_length d mask values r.limits.decisions

  same : length filled ≡ length domains
  same = ap length held
      ∙ length-map (assignment_of d mask values ++ replicate (length domains - d) none) byte
      ∙ length-append (assignment_of d mask values) (replicate (length domains - d) none)
      ∙ (omega (arith, count, length-replicate {A = Option ℕ} (length domains - d) none, r.limits.present))

  -- as many are there to be lent again, and these are the filled ones
  pub filled-room : length domains ≤ length (filled ++ drop (length domains) unfilled)
  filled-room = omega (arith, length-append filled (drop (length domains) unfilled), same)

  again : take (length domains) (filled ++ drop (length domains) unfilled) ≡ filled
  again = take_at filled (drop (length domains) unfilled) (length domains) same

  -- the bytes of two words are what it asks for
  pub ready-given : Given domains counts lits sat uses (take (length domains) (filled ++ drop (length domains) unfilled)) × (length plan ≡ plan_words)
  ready-given = rw again (
    record {
      few = r.limits.few;
      small = r.limits.small;
      same = same;
      bytes = rw held (byte-most (assignment_of d mask values ++ replicate (length domains - d) none) (small-behind (assignment_of d mask values) (length domains - d) (assignment_small d mask values)));
      tables = r.limits.tables;
      ready = r.prepared;
    },
    r.planned,
  )

  -- and it ends on them as the model's test of the assignment does, and shows what that shows
  pub ready-ended : {p : Plant} {costs : List ℕ} → Tabled p d domains costs counts lits → (a : Assignment) → Words a mask values → Valid (decision_sizes p) a → (limit used : ℕ) (after : List ℕ) (q : Answer)
      → Ended (test_over (clauses counts lits) domains limit used (map given (take (length domains) (filled ++ drop (length domains) unfilled)))) (take (length domains) (filled ++ drop (length domains) unfilled)) after q
      → length after ≡ length (take (length domains) (filled ++ drop (length domains) unfilled))
      → (q ≡ answer_of (test p limit a used)) × (shown_of q (after ++ drop (length domains) (filled ++ drop (length domains) unfilled)) ≡ shown_by (test p limit a used))
  ready-ended {p} t a w v limit used after q h l =
      let e = plant-ended p t.accepted domains counts lits (tabled-sizes t) (tabled-clauses t) t.literal-room a v _ (again ∙ held ∙ rw (tabled-over t a w v)) limit used after q h in
      let behind : drop (length domains) (filled ++ drop (length domains) unfilled) ≡ drop (length domains) unfilled = drop_at filled (drop (length domains) unfilled) (length domains) same in
      (e.answer, rw behind (shown-left (test p limit a used) _ after q e (length domains) (l ∙ ap length again ∙ same)))

-- ---- what it answers

-- as if it had been lent no bytes
pub as_ended : {e : Tested} {r : Answer} → r ≡ answer_of e → Ended e [] (leaves [] e) r
as_ended h = record { answer = h; left = refl }
