-- Where the search finds no values: it would find none with any set that is alike in the clauses that it went by, so what it notes is right when it comes there again. Assumes nothing.
use mathlib.Core.Path.{◌≡◌, refl, ap, ◌∙◌}
use mathlib.Core.Bool.{Bool}
use mathlib.Core.List.{List, map}
use Prim.Native.Nat.{ℕ, ◌+◌, ◌-◌, ◌<◌, ◌≤◌}
use native.Mathlib.Omega.{arith}
use native.Mathlib.Decide.{ℕ_discrete}
use lib.Bits.{bit_and}
use lib.ListN.{length, get_or}
use Rattle.model.specs.Sheet.{Literal}
use Rattle.model.specs.Consistency.{explore}
use Rattle.theory.proofs.TestTrials.{explore_refuted}
use Rattle.clauses.specs.Bytes.{given}
use Rattle.clauses.specs.Numbers.{variables, pair_clauses}
use Rattle.clauses.specs.Sets.{in_pair}
use Rattle.trials.specs.declared.Answer.{Answer}
use Rattle.trials.specs.declared.Answer.TheVariants.{Inconsistent}
use Rattle.trials.specs.Answers.{told, trials_in}
use Rattle.trials.proofs.Endings.{as_inconsistent, was_inconsistent, told-inconsistent}
use Rattle.plan.specs.Plans.{count_place, notes_begin, plan_words, none_noted, needed, had_then, trials_then, SameBefore, Alike, Refuted, Knows, Recalled, noted, afterwards}
use Rattle.plan.proofs.Alike.{same_refl, same_then, plan_for_same, stands_same, alike_same}
use Rattle.plan.proofs.Notes.{pair-cut, alike_recalled, noted-same, elsewhere, needed-elsewhere, had_elsewhere, needed_here, had_here, trials-here, refuted_same}
use Rattle.plan.proofs.Rows.{before-end}
use Rattle.pair_search.specs.Found.{Finds, Learns, Found}

pub finds-same : {plan after : List ℕ} → SameBefore notes_begin plan after → (sat : List ℕ) (inHeld : ℕ → Bool) (v left : ℕ) (last : List ℕ) (r : Answer) → Learns sat plan after
    → Finds sat after inHeld v left last r → Finds sat plan inHeld v left last r
finds-same s sat inHeld v left last r l f sizes vals used limit p e cs t =
    f sizes vals used limit (plan_for_same s p) e cs (stands_same s sat (omega (arith, p.bytes.few, p.bytes.same)) (l cs sizes t.known) t)

-- a search that ends so with every set that is alike is right to be noted
refuted_here : {cs : List (List Literal)} {sizes sat plan : List ℕ} (v left rest needs1 needs2 first second : ℕ) (after : List ℕ) → Knows sizes sat plan cs
    → ((inOther : ℕ → Bool) → Alike (in_pair needs1 needs2) (in_pair first second) inOther → Finds sat plan inOther v left after (Inconsistent rest))
    → Refuted cs sizes sat plan v (in_pair needs1 needs2) (in_pair (bit_and needs1 first) (bit_and needs2 second)) (left - rest)
refuted_here {cs} {sizes} {sat} {plan} v left rest needs1 needs2 first second after k f = record {
  says = λ vals inHeld used limit p w a b.
      let e : left ≡ used + left - used = omega arith in
      let g = f inHeld record { same = λ c l i. a.same c l i ∙ pair-cut needs1 needs2 first second c l i } sizes vals used (used + left) p e cs
      (stands_same (same_refl plan) sat (omega (arith, p.bytes.few, p.bytes.same)) k w) in
      explore_refuted cs (used + left) limit sizes (length sizes - v) v used (used + (left - rest)) (map given vals)
      (was_inconsistent _ vals _ (used + (left - rest)) _ g (told-inconsistent used left rest (Inconsistent rest) refl)).0 b;
}

-- ---- what the search answers

module _ (sat plan : List ℕ) (first second v left : ℕ) (below : v < variables) where
  -- where it recalls that it found no values
  recalled_again : (known : ℕ) → (v ≡ get_or plan count_place 0 → ⊥) → Recalled plan v first second known → known < left → left < none_noted
      → (inOther : ℕ → Bool) → Alike (needed plan v) (in_pair first second) inOther → Finds sat plan inOther v left plan (Inconsistent (left - known))
  unfolding told afterwards
  recalled_again known n c h l inOther a sizes vals used limit p e cs s =
      let y = c.noted_here in
      let d = alike_recalled c in
      let g = (s.known.right v (before-end sizes vals plan v p n) (omega arith)).says vals inOther used limit p (stands_same (same_refl plan) sat (omega (arith, p.bytes.few, p.bytes.same)) tt s)
      record { same = λ k b i. a.same k b i ∙ d.same k b i } (omega arith) in
      let z : used + (left - (left - known)) ≡ used + trials_then plan v = omega arith in
      as_inconsistent (explore cs limit sizes (length sizes - v) v used (map given vals)) vals vals (used + (left - (left - known))) (g ∙ rw z) refl

  pub found_recalled : (known : ℕ) (r : Answer) → (v ≡ get_or plan count_place 0 → ⊥) → Recalled plan v first second known → known < left → left < none_noted → r ≡ Inconsistent (left - known)
      → Found sat plan (in_pair first second) v left plan r
  unfolding trials_in
  found_recalled known r n c h l q = rw q record {
    finds = recalled_again known n c h l (in_pair first second) (alike_same _ _);
    few = omega arith;
    long = refl;
    fails = λ t e. record { restored = same_refl plan; learns = λ cs sizes k. k; alike = recalled_again known n c h l };
  }

  -- where it has tried every value, and notes what it went by
  module _ (now : List ℕ) (needs1 needs2 rest : ℕ) (same : SameBefore notes_begin plan now) (long : length plan ≡ plan_words) where
    abbrev made : List ℕ
    made = noted now v needs1 needs2 (bit_and needs1 first) (bit_and needs2 second) (left - rest)

    made-same : SameBefore notes_begin now made
    made-same = noted-same now v needs1 needs2 (bit_and needs1 first) (bit_and needs2 second) (left - rest)

    made-needed : (c : ℕ) → c < pair_clauses → needed made v c ≡ in_pair needs1 needs2 c
    made-needed = needed_here now v needs1 needs2 (bit_and needs1 first) (bit_and needs2 second) (left - rest) below (same.long ∙ long)

    module _ (last : List ℕ) (f : (inOther : ℕ → Bool) → Alike (in_pair needs1 needs2) (in_pair first second) inOther → Finds sat plan inOther v left last (Inconsistent rest)) where
      -- what was noted is right, and what is noted now
      made-right : {cs : List (List Literal)} {sizes : List ℕ} → Knows sizes sat plan cs → Knows sizes sat now cs → (u : ℕ) → u < length sizes → Dec (u ≡ v) → trials_then made u < none_noted
          → Refuted cs sizes sat made u (needed made u) (had_then made u) (trials_then made u)
      made-right k before u b (yes p) w = rw p
          (refuted_same (same_then same made-same) made-needed
          (had_here now v needs1 needs2 (bit_and needs1 first) (bit_and needs2 second) (left - rest) below (same.long ∙ long))
          (trials-here now v needs1 needs2 (bit_and needs1 first) (bit_and needs2 second) (left - rest) below (same.long ∙ long)) (refuted_here v left rest needs1 needs2 first second last k f))
      made-right k before u b (no p) w =
          let y = elsewhere now v needs1 needs2 (bit_and needs1 first) (bit_and needs2 second) (left - rest) u 4 p (omega arith) in
          refuted_same made-same
          (λ c l. needed-elsewhere now v needs1 needs2 (bit_and needs1 first) (bit_and needs2 second) (left - rest) u c p l)
          (λ c l. had_elsewhere now v needs1 needs2 (bit_and needs1 first) (bit_and needs2 second) (left - rest) u c p l)
          y (before.right u b (omega arith))

      pub found_failed : (r : Answer) → Learns sat plan now → rest ≤ left → last ≡ made → r ≡ Inconsistent rest → Found sat plan (in_pair first second) v left last r
      unfolding trials_in
      found_failed r l h e q = rw q record {
        finds = f (in_pair first second) (alike_same _ _);
        few = h;
        long = ap length e ∙ made-same.long ∙ same.long;
        fails = λ t y. record {
          restored = rw e (same_then same made-same);
          learns = λ cs sizes k. record { right = λ u b. rw e (made-right k (l cs sizes k) u b (ℕ_discrete u v)) };
          alike = λ inOther a. f inOther record { same = λ c b i. a.same c b (ap (λ (p : List ℕ). needed p v c) e ∙ made-needed c b ∙ i) };
        };
      }
