-- The reduction of two words, turn by turn: the whole is what is left of it from here. Assumes nothing.
use mathlib.Core.Path.{◌≡◌, refl, sym, ap, ◌∙◌}
use mathlib.Core.Bool.{Bool, true, false, false≢true}
use mathlib.Core.Option.{Option, none, some}
use mathlib.Core.List.{List}
use Prim.Native.Nat.{ℕ, suc, ◌+◌, ◌-◌, ◌≤◌, ◌<◌}
use native.Mathlib.Omega.{arith}
use lib.ListN.{length, get_or, set, length-map}
use Rattle.model.specs.Sheet.{Plant, decision_sizes}
use Rattle.model.specs.Assignment.{Assignment, Valid, is_some, assignment_of}
use Rattle.model.specs.Consistency.{test}
use Rattle.model.specs.Conflict.{spent, reduce_from, reduce}
use Rattle.theory.specs.Tables.{Tabled}
use Rattle.theory.specs.Words.{Words}
use Rattle.theory.proofs.Agreement.{valid_length, valid-set}
use Rattle.theory.proofs.ReductionSteps.{reduce_skip, reduce-keep, reduce_lose, reduce-stop}
use Rattle.theory.proofs.Tables.{tabled-count}
use Rattle.theory.proofs.Words.{words_hold}
use Rattle.trials.specs.declared.Answer.{Answer}
use Rattle.trials.specs.Answers.{answer_of}
use Rattle.trials.proofs.Endings.{was_consistent, was_inconsistent, was_spent}
use Rattle.std.specs.Prelude.{Result, Ok, Err}
use Rattle.conflict.specs.declared.reduce.Reduction.{Reduction}
use Rattle.conflict.specs.declared.reduce.Spent.{Spent}
use Rattle.conflict.specs.Reduced.{Held, Turned, Reduces}
use Rattle.conflict.proofs.Given.{as_ended}

-- a variable that is assigned has a value, and one that is not has none
value_of : (o : Option ℕ) → is_some o ≡ true → (x : ℕ) × (o ≡ some x)
value_of none e = absurd (false≢true e)
value_of (some x) e = (x, refl)

no_value : (o : Option ℕ) → is_some o ≡ false → o ≡ none
no_value none e = refl
no_value (some x) e = cc

-- ---- one turn

module _ {p : Plant} {d : ℕ} {domains costs counts lits : List ℕ} (t : Tabled p d domains costs counts lits) (c : Assignment) (valid : Valid (decision_sizes p) c) where
  -- an assignment of the plant has d variables
  pub members : length c ≡ d
  members = valid_length (decision_sizes p) c valid ∙ length-map p.costs length ∙ tabled-count t

  module _ {mask values : ℕ} (w : Words c mask values) (v : ℕ) (l : v < d) where
    -- whether v is assigned, by the mask
    pub member : {b : Bool} → ((d values : ℕ) → d ≤ 16 → v < d → b ≡ is_some (get_or (assignment_of d mask values) v none)) → is_some (get_or c v none) ≡ b
    member h = let e = words_hold c mask values w in sym (h (length c) values w.short (rw members l) ∙ rw e)

    -- the rest without v
    pub rest-valid : Valid (decision_sizes p) (set c v none)
    rest-valid = valid-set (decision_sizes p) c v none valid tt

    module _ (limit used : ℕ) where
      pub turn-free : is_some (get_or c v none) ≡ false → Turned p limit v c used (Ok (record { mask = mask; values = values; trials = used }))
      turn-free e = (c, record { words = w; valid = valid }, λ n. reduce_skip p limit n v c used (no_value (get_or c v none) e))

      module _ (e : is_some (get_or c v none) ≡ true) {r : Answer} (ended : r ≡ answer_of (test p limit (set c v none) used)) {u : ℕ} where
        pub turn-keep : r ≡ Answer.Consistent u → Turned p limit v c used (Ok (record { mask = mask; values = values; trials = u }))
        turn-keep q =
            let x = value_of (get_or c v none) e in
            (c, record { words = w; valid = valid }, λ n. reduce-keep p limit n v c used x.0 x.1 _ u (was_consistent _ _ _ u r (as_ended ended) q))

        pub turn_lose : {m x : ℕ} → Words (set c v none) m x → r ≡ Answer.Inconsistent u → Turned p limit v c used (Ok (record { mask = m; values = x; trials = u }))
        turn_lose rest q =
            let x = value_of (get_or c v none) e in
            (set c v none, record { words = rest; valid = rest-valid }, λ n. reduce_lose p limit n v c used x.0 x.1 u (was_inconsistent _ _ _ u r (as_ended ended) q).0)

        pub turn-stop : r ≡ Answer.Spent u → Turned p limit v c used (Err (record { trials = u }))
        turn-stop q =
            let x = value_of (get_or c v none) e in
            λ n. reduce-stop p limit n v c used x.0 x.1 u (was_spent _ _ _ u r (as_ended ended) q).0

-- ---- all turns

-- the reduction of a is what is left of it at the variable v, with what two words hold
pub record Going (p : Plant) (limit d : ℕ) (a : Assignment) (used mask values u v : ℕ) : Type 0 where
  pub now : Assignment
  pub held : Held p now mask values
  pub whole : reduce p limit a used ≡ reduce_from p limit (d - v) v now u

module _ {p : Plant} {limit d : ℕ} {a : Assignment} {used : ℕ} where
  pub going-first : {mask values : ℕ} → Words a mask values → Valid (decision_sizes p) a → length a ≡ d → Going p limit d a used mask values used 0
  unfolding reduce
  going-first w valid l = record { now = a; held = record { words = w; valid = valid }; whole = let e : length a ≡ d - 0 = omega arith in ap (λ (n : ℕ). reduce_from p limit n 0 a used) e }

  module _ {mask values u v : ℕ} (g : Going p limit d a used mask values u v) (l : v < d) (r : Result Reduction Spent) (turned : Turned p limit v g.now u r) where
    one_fewer : d - v ≡ suc (d - (v + 1))
    one_fewer = omega arith

    pub going_next : {n : Reduction} → r ≡ Ok n → Going p limit d a used n.mask n.values n.trials (v + 1)
    going_next {n} e =
        let h : Turned p limit v g.now u (Ok n) = rw e at turned in
        record { now = h.0; held = h.1; whole = g.whole ∙ rw one_fewer (h.2 (d - (v + 1))) }

    pub going-stop : {s : Spent} → r ≡ Err s → reduce p limit a used ≡ spent s.trials
    going-stop {s} e =
        let h : Turned p limit v g.now u (Err s) = rw e at turned in
        g.whole ∙ rw one_fewer (h (d - (v + 1)))

  pub going_end : {mask values u v : ℕ} → Going p limit d a used mask values u v → d ≤ v → Reduces p (reduce p limit a used) (Ok (record { mask = mask; values = values; trials = u }))
  unfolding reduce_from
  going_end {v = v} g l = let e : d - v ≡ 0 = omega arith in (g.now, g.held, rw e at g.whole)
