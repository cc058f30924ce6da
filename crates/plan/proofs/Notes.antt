-- What is noted in a plan, by its words: what is recalled of it, what a new note changes, and that a note that is right stays right. Assumes nothing.
use mathlib.Core.Path.{◌≡◌, refl, sym, ap, ◌∙◌}
use mathlib.Core.Bool.{Bool, true, false, ◌&&◌, ◌||◌}
use mathlib.Core.List.{List}
use Prim.Native.Nat.{ℕ, ◌+◌, ◌-◌, ◌<◌}
use native.Mathlib.Omega.{arith}
use native.Mathlib.Decide.{dec_lt}
use lib.Bits.{bit_and, bit_or}
use lib.ListN.{length, get_or, set, length-set}
use lib.Seq.{get_or-set_same, get_or-set_other}
use Rattle.model.specs.Sheet.{Literal}
use Rattle.clauses.specs.Numbers.{variables, pair_clauses}
use Rattle.clauses.specs.Sets.{bit, in_pair}
use Rattle.clauses.proofs.Bits.{bit_and_lem}
use Rattle.clauses.proofs.Pairs.{in_low, in_high, pair-first, pair-second}
use Rattle.plan.specs.Plans.{notes_begin, note_words, plan_words, none_noted, row_at, note_at, in_plan, needed, had_then, trials_then, SameBefore, Alike, Refuted, Knows, Recalled, noted}
use Rattle.plan.proofs.Alike.{same_back, plan_for_same, stands_same}
use Rattle.plan.proofs.Pairs.{pair-join}

-- ---- what is noted, by its words

module _ (plan : List ℕ) (v : ℕ) where
  pub due-words : (c : ℕ) → c < pair_clauses → in_plan plan v c ≡ in_pair (get_or plan (row_at v + 2) 0) (get_or plan (row_at v + 3) 0) c
  unfolding in_plan
  due-words c h = elim (dec_lt c 64) [
    | yes l ↦ in_low plan (row_at v + 2) c l ∙ sym (pair-first _ _ c l)
    | no l ↦ in_high plan (row_at v + 2) (row_at v + 3) c (omega arith) (omega arith) h ∙ sym (pair-second _ _ c (omega arith) h)
  ]

  pub needed-words : (c : ℕ) → c < pair_clauses → needed plan v c ≡ in_pair (get_or plan (note_at v) 0) (get_or plan (note_at v + 1) 0) c
  unfolding needed
  needed-words c h = elim (dec_lt c 64) [
    | yes l ↦ in_low plan (note_at v) c l ∙ sym (pair-first _ _ c l)
    | no l ↦ in_high plan (note_at v) (note_at v + 1) c refl (omega arith) h ∙ sym (pair-second _ _ c (omega arith) h)
  ]

  had_words : (c : ℕ) → c < pair_clauses → had_then plan v c ≡ in_pair (get_or plan (note_at v + 2) 0) (get_or plan (note_at v + 3) 0) c
  unfolding had_then
  had_words c h = elim (dec_lt c 64) [
    | yes l ↦ in_low plan (note_at v + 2) c l ∙ sym (pair-first _ _ c l)
    | no l ↦ in_high plan (note_at v + 2) (note_at v + 3) c (omega arith) (omega arith) h ∙ sym (pair-second _ _ c (omega arith) h)
  ]

-- the clauses that are due are needed, and so are those that a deeper search went by
pub needs_first : (plan : List ℕ) (v c : ℕ) → c < pair_clauses → in_plan plan v c ≡ true → in_pair (get_or plan (row_at v + 2) 0) (get_or plan (row_at v + 3) 0) c ≡ true
needs_first plan v c h e = sym (due-words plan v c h) ∙ e

module _ (plan : List ℕ) (next needs1 needs2 : ℕ) where
  abbrev more : ℕ → Bool
  more c = in_pair (bit_or needs1 (get_or plan (note_at next) 0)) (bit_or needs2 (get_or plan (note_at next + 1) 0)) c

  more-is : (c : ℕ) → c < pair_clauses → more c ≡ (in_pair needs1 needs2 c || needed plan next c)
  more-is c h = pair-join needs1 needs2 (get_or plan (note_at next) 0) (get_or plan (note_at next + 1) 0) c ∙ ap (λ (b : Bool). in_pair needs1 needs2 c || b) (sym (needed-words plan next c h))

  pub needs_left : (c : ℕ) → c < pair_clauses → in_pair needs1 needs2 c ≡ true → more c ≡ true
  needs_left c h e = more-is c h ∙ ap (λ (b : Bool). b || needed plan next c) e

  pub needs_right : (c : ℕ) → c < pair_clauses → needed plan next c ≡ true → more c ≡ true
  needs_right c h e = more-is c h ∙ ap (λ (b : Bool). in_pair needs1 needs2 c || b) e ∙ go (in_pair needs1 needs2 c)
    where
      go : (b : Bool) → (b || true) ≡ true
      go true = refl
      go false = refl

-- a set cut down to the needed clauses has those that the whole has
pub pair-cut : (needs1 needs2 first second c : ℕ) → c < pair_clauses → in_pair needs1 needs2 c ≡ true → in_pair (bit_and needs1 first) (bit_and needs2 second) c ≡ in_pair first second c
pair-cut needs1 needs2 first second c h e = elim (dec_lt c 64) [
  | yes l ↦ pair-first _ _ c l ∙ bit_and_lem needs1 first c ∙ ap (λ (b : Bool). b && bit first c) (sym (pair-first needs1 needs2 c l) ∙ e) ∙ sym (pair-first first second c l)
  | no l ↦ pair-second _ _ c (omega arith) h ∙ bit_and_lem needs2 second (c - 64) ∙ ap (λ (b : Bool). b && bit second (c - 64)) (sym (pair-second needs1 needs2 c (omega arith) h) ∙ e)
      ∙ sym (pair-second first second c (omega arith) h)
]

-- what is recalled is of a set that is alike
pub alike_recalled : {plan : List ℕ} {v first second t : ℕ} → Recalled plan v first second t → Alike (needed plan v) (had_then plan v) (in_pair first second)
alike_recalled {plan} {v} {first} {second} c = record {
  same = λ k l e.
      sym (had_words plan v k l ∙ rw (← c.first-same, ← c.second-same) (pair-cut (get_or plan (note_at v) 0) (get_or plan (note_at v + 1) 0) first second k l (sym (needed-words plan v k l) ∙ e)));
}

module _ (plan : List ℕ) (v needs1 needs2 had1 had2 t : ℕ) where
  abbrev one : List ℕ
  one = set plan (note_at v) needs1

  abbrev two : List ℕ
  two = set one (note_at v + 1) needs2

  abbrev three : List ℕ
  three = set two (note_at v + 2) had1

  abbrev four : List ℕ
  four = set three (note_at v + 3) had2

  abbrev all : List ℕ
  all = noted plan v needs1 needs2 had1 had2 t

  -- a word of no note at v is as it was
  noted_other : (k : ℕ) → ((j : ℕ) → j < note_words → k ≡ note_at v + j → ⊥) → get_or all k 0 ≡ get_or plan k 0
  noted_other k d =
      get_or-set_other four (note_at v + 4) k t 0 (λ e. d 4 (omega arith) (omega arith)) ∙ get_or-set_other three (note_at v + 3) k had2 0 (λ e. d 3 (omega arith) (omega arith))
      ∙ get_or-set_other two (note_at v + 2) k had1 0 (λ e. d 2 (omega arith) (omega arith)) ∙ get_or-set_other one (note_at v + 1) k needs2 0 (λ e. d 1 (omega arith) (omega arith))
      ∙ get_or-set_other plan (note_at v) k needs1 0 (λ e. d 0 (omega arith) (omega arith))

  pub noted-same : SameBefore notes_begin plan all
  noted-same = record { long = simp length-set refl; words = λ k h. noted_other k (λ j l e. omega arith) }

  -- what is noted at another variable
  pub elsewhere : (u k : ℕ) → (u ≡ v → ⊥) → k < note_words → get_or all (note_at u + k) 0 ≡ get_or plan (note_at u + k) 0
  elsewhere u k d h = noted_other (note_at u + k) (λ j l e. elim (dec_lt u v) [ yes a ↦ omega arith | no a ↦ omega arith ])

  pub needed-elsewhere : (u c : ℕ) → (u ≡ v → ⊥) → c < pair_clauses → needed all u c ≡ needed plan u c
  needed-elsewhere u c d h =
      let e : note_at u + 0 ≡ note_at u = omega arith in
      needed-words all u c h ∙ rw (rw e at (elsewhere u 0 d (omega arith)), elsewhere u 1 d (omega arith)) (sym (needed-words plan u c h))

  pub had_elsewhere : (u c : ℕ) → (u ≡ v → ⊥) → c < pair_clauses → had_then all u c ≡ had_then plan u c
  had_elsewhere u c d h = had_words all u c h ∙ rw (elsewhere u 2 d (omega arith), elsewhere u 3 d (omega arith)) (sym (had_words plan u c h))

  -- and at v
  module _ (below : v < variables) (long : length plan ≡ plan_words) where
    pub needed_here : (c : ℕ) → c < pair_clauses → needed all v c ≡ in_pair needs1 needs2 c
    needed_here c h =
        let a : get_or all (note_at v) 0 ≡ needs1
        = get_or-set_other four (note_at v + 4) (note_at v) t 0 (λ e. omega arith) ∙ get_or-set_other three (note_at v + 3) (note_at v) had2 0 (λ e. omega arith)
        ∙ get_or-set_other two (note_at v + 2) (note_at v) had1 0 (λ e. omega arith) ∙ get_or-set_other one (note_at v + 1) (note_at v) needs2 0 (λ e. omega arith)
        ∙ get_or-set_same plan (note_at v) needs1 0 (omega arith) in
        let b : get_or all (note_at v + 1) 0 ≡ needs2
        = get_or-set_other four (note_at v + 4) (note_at v + 1) t 0 (λ e. omega arith) ∙ get_or-set_other three (note_at v + 3) (note_at v + 1) had2 0 (λ e. omega arith)
        ∙ get_or-set_other two (note_at v + 2) (note_at v + 1) had1 0 (λ e. omega arith) ∙ get_or-set_same one (note_at v + 1) needs2 0 (simp length-set (omega arith)) in
        needed-words all v c h ∙ rw (a, b)

    pub had_here : (c : ℕ) → c < pair_clauses → had_then all v c ≡ in_pair had1 had2 c
    had_here c h =
        let a : get_or all (note_at v + 2) 0 ≡ had1
        = get_or-set_other four (note_at v + 4) (note_at v + 2) t 0 (λ e. omega arith) ∙ get_or-set_other three (note_at v + 3) (note_at v + 2) had2 0 (λ e. omega arith)
        ∙ get_or-set_same two (note_at v + 2) had1 0 (simp length-set (omega arith)) in
        let b : get_or all (note_at v + 3) 0 ≡ had2
        = get_or-set_other four (note_at v + 4) (note_at v + 3) t 0 (λ e. omega arith) ∙ get_or-set_same three (note_at v + 3) had2 0 (simp length-set (omega arith)) in
        had_words all v c h ∙ rw (a, b)

    pub trials-here : trials_then all v ≡ t
    trials-here = get_or-set_same four (note_at v + 4) t 0 (simp length-set (omega arith))

-- ---- what is noted is right

-- for another plan with the same rows, and the same clauses and trials
pub refuted_same : {cs : List (List Literal)} {sizes sat plan after : List ℕ} {v t t' : ℕ} {needs needs' had had' : ℕ → Bool} → SameBefore notes_begin plan after
    → ((c : ℕ) → c < pair_clauses → needs' c ≡ needs c) → ((c : ℕ) → c < pair_clauses → had' c ≡ had c) → t' ≡ t → Refuted cs sizes sat plan v needs had t → Refuted cs sizes sat after v needs' had' t'
refuted_same {sat = sat} s n h e r = record {
  says = λ vals inHeld used limit p w a b.
      let back = same_back s in
      rw e (r.says vals inHeld used limit (plan_for_same back p) (stands_same back sat (omega (arith, p.bytes.few, p.bytes.same)) tt w)
      record { same = λ c l i. a.same c l (n c l ∙ i) ∙ h c l } (rw e at b));
}

-- nothing is noted in a new plan
pub knows-none : (sizes sat plan : List ℕ) (cs : List (List Literal)) → ((v : ℕ) → v < length sizes → trials_then plan v ≡ none_noted) → Knows sizes sat plan cs
knows-none sizes sat plan cs h = record { right = λ v l b. absurd (omega (arith, h v l)) }
