-- The plan of a search, made row by row from the last variable down. Assumes nothing.
use mathlib.Core.Path.{◌≡◌, refl, sym, ap, ◌∙◌}
use mathlib.Core.Bool.{Bool, or-false}
use mathlib.Core.List.{List}
use Prim.Native.Nat.{ℕ, ◌+◌, ◌*◌, ◌/◌, ◌%◌, ◌<◌, ◌≤◌}
use native.Mathlib.Omega.{arith}
use native.Mathlib.Decide.{ℕ_discrete}
use borrow.Author.Tests.{eq-eqb, ne_eqb}
use lib.Bits.{bit_and, bit_or, bit_xor}
use lib.ListN.{length, get_or, set, length-set}
use lib.Seq.{get_or-set_same, get_or-set_other}
use Rattle.clauses.specs.Numbers.{variables, values, unassigned, pair_clauses, set_words}
use Rattle.clauses.specs.Sets.{bit, in_pair}
use Rattle.trials.specs.Searches.{Lent, NextFree}
use Rattle.trials.proofs.FirstSets.{none_in_pair, from_first, from_next}
use Rattle.plan.specs.Plans.{count_place, notes_begin, plan_words, none_noted, row_at, note_at, in_plan, trials_then, Rows, Planned}
use Rattle.plan.proofs.Pairs.{pair_or, plan_less}

-- ---- the first unassigned variable

-- an unassigned variable is the first from itself on
pub free-here : (vals : List ℕ) (v : ℕ) → v < length vals → get_or vals v 0 ≡ unassigned → NextFree vals v v
free-here vals v h e = record { after = omega arith; upto = omega arith; assigned = λ u a b. absurd (omega arith); free = λ l. e }

-- an assigned one is passed over
pub free-past : (vals : List ℕ) (v n : ℕ) → (get_or vals v 0 ≡ unassigned → ⊥) → NextFree vals (v + 1) n → NextFree vals v n
free-past vals v n d f = record { after = omega (arith, f.after); upto = f.upto; assigned = λ u a b. go u a b (ℕ_discrete u v); free = f.free }
  where
    go : (u : ℕ) → v ≤ u → u < n → Dec (u ≡ v) → get_or vals u 0 ≡ unassigned → ⊥
    go u a b (yes p) e = d (rw p at e)
    go u a b (no p) e = f.assigned u (omega arith) b e

-- from the end on there is none
pub free-end : (vals : List ℕ) → NextFree vals (length vals) (length vals)
free-end vals = record { after = omega arith; upto = omega arith; assigned = λ u a b. absurd (omega arith); free = λ l. absurd (omega arith) }

-- a byte changes nothing where it is not looked at
pub free-same : (vals vals' : List ℕ) (from n : ℕ) → length vals' ≡ length vals → ((u : ℕ) → from ≤ u → u < length vals → get_or vals' u 0 ≡ get_or vals u 0) → NextFree vals from n → NextFree vals' from n
free-same vals vals' from n e same f = record {
  after = f.after;
  upto = omega (arith, f.upto);
  assigned = λ u a b q. f.assigned u a b (sym (same u a (omega (arith, f.upto))) ∙ q);
  free = λ l. same n f.after (omega arith) ∙ f.free (omega arith);
}

-- ---- nothing is noted at v

abbrev pub blanked : List ℕ → ℕ → List ℕ
blanked plan v = set plan (note_at v + 4) none_noted

pub planned-blanked : (sizes vals sat uses plan : List ℕ) (n v : ℕ) (inHeld in_open : ℕ → Bool) → length vals ≤ variables → v < variables
    → Planned sizes vals sat uses plan n inHeld in_open (v + 1) → Planned sizes vals sat uses (blanked plan v) n inHeld in_open (v + 1) × (trials_then (blanked plan v) v ≡ none_noted)
unfolding in_plan
planned-blanked sizes vals sat uses plan n v inHeld in_open few below p = (
  record {
    next = p.next;
    rows = record {
      size = λ u h l e. other (row_at u) (omega arith) ∙ p.rows.size u h l e;
      next = λ u h l e. rw (other (row_at u + 1) (omega arith)) (p.rows.next u h l e);
    };
    ends = other count_place (omega arith) ∙ p.ends;
    long = simp length-set p.long;
    sets = λ cs k. let f = p.sets cs k in record {
      dues = record { has = λ u h l e. record { has = λ c b. ap (λ (w : ℕ). bit w (c % 64)) (other (row_at u + 2 + c / 64) (omega arith)) ∙ (f.dues.has u h l e).has c b } };
      holds = f.holds;
      waiting = f.waiting;
    };
    blank = λ u h l. get_or-set_other plan (note_at v + 4) (note_at u + 4) none_noted 0 (λ e. omega arith) ∙ p.blank u h l;
  },
  get_or-set_same plan (note_at v + 4) none_noted 0 (omega (arith, p.long)),
)
  where
    other : (k : ℕ) → k < notes_begin → get_or (blanked plan v) k 0 ≡ get_or plan k 0
    other k h = get_or-set_other plan (note_at v + 4) k none_noted 0 (λ e. omega arith)

-- ---- a row written

-- another plan that is long enough
pub lent_longer : (words : ℕ) (vals sat uses plan plan' : List ℕ) → words ≤ length plan' → Lent words vals sat uses plan → Lent words vals sat uses plan'
lent_longer words vals sat uses plan plan' h l = record { few = l.few; bytes = l.bytes; sat_long = l.sat_long; uses_long = l.uses_long; long = h }

module _ (plan : List ℕ) (v z n a b : ℕ) where
  -- the plan with the first word of the row of v, with the first two, and with the first three
  abbrev one : List ℕ
  one = set plan (row_at v) z

  abbrev two : List ℕ
  two = set one (row_at v + 1) n

  abbrev three : List ℕ
  three = set two (row_at v + 2) a

  -- with all four
  abbrev pub written : List ℕ
  written = set three (row_at v + 3) b

  -- the row of v has them
  pub written-here : v * 4 + 4 ≤ length plan
      → (get_or written (row_at v) 0 ≡ z) × (get_or written (row_at v + 1) 0 ≡ n) × (get_or written (row_at v + 2) 0 ≡ a) × (get_or written (row_at v + 3) 0 ≡ b)
  written-here h = (
    get_or-set_other three (row_at v + 3) (row_at v) b 0 (λ e. omega arith) ∙ get_or-set_other two (row_at v + 2) (row_at v) a 0 (λ e. omega arith)
        ∙ get_or-set_other one (row_at v + 1) (row_at v) n 0 (λ e. omega arith) ∙ get_or-set_same plan (row_at v) z 0 (omega arith),
    get_or-set_other three (row_at v + 3) (row_at v + 1) b 0 (λ e. omega arith) ∙ get_or-set_other two (row_at v + 2) (row_at v + 1) a 0 (λ e. omega arith)
        ∙ get_or-set_same one (row_at v + 1) n 0 (simp length-set (omega arith)),
    get_or-set_other three (row_at v + 3) (row_at v + 2) b 0 (λ e. omega arith) ∙ get_or-set_same two (row_at v + 2) a 0 (simp length-set (omega arith)),
    get_or-set_same three (row_at v + 3) b 0 (simp length-set (omega arith)),
  )

  -- the words of other rows are as they were, and so is the last
  pub written-other : (u k : ℕ) → (u ≡ v → ⊥) → k < 4 → get_or written (row_at u + k) 0 ≡ get_or plan (row_at u + k) 0
  written-other u k d h =
      get_or-set_other three (row_at v + 3) (row_at u + k) b 0 (λ e. omega arith) ∙ get_or-set_other two (row_at v + 2) (row_at u + k) a 0 (λ e. omega arith)
      ∙ get_or-set_other one (row_at v + 1) (row_at u + k) n 0 (λ e. omega arith) ∙ get_or-set_other plan (row_at v) (row_at u + k) z 0 (λ e. omega arith)

  pub written_behind : (k : ℕ) → v < variables → count_place ≤ k → get_or written k 0 ≡ get_or plan k 0
  written_behind k h l =
      get_or-set_other three (row_at v + 3) k b 0 (λ e. omega arith) ∙ get_or-set_other two (row_at v + 2) k a 0 (λ e. omega arith)
      ∙ get_or-set_other one (row_at v + 1) k n 0 (λ e. omega arith) ∙ get_or-set_other plan (row_at v) k z 0 (λ e. omega arith)

  pub written_last : v < variables → get_or written count_place 0 ≡ get_or plan count_place 0
  written_last h = written_behind count_place h (omega arith)

  -- and so are the sets in them
  pub plan_other : (u c : ℕ) → c < pair_clauses → (u ≡ v → ⊥) → in_plan written u c ≡ in_plan plan u c
  unfolding in_plan
  plan_other u c h d =
      let e : u * 4 + 2 + c / 64 ≡ u * 4 + (2 + c / 64) = omega arith in
      rw e (ap (λ (w : ℕ). bit w (c % 64)) (written-other u (2 + c / 64) d (omega arith)))

  -- with the size of v and the next unassigned variable in the row of v, the rows from v on have theirs
  pub rows-here : (sizes vals : List ℕ) → v * 4 + 4 ≤ length plan → z ≡ get_or sizes v 0 → NextFree vals (v + 1) n → Rows sizes vals plan (v + 1) → Rows sizes vals written v
  rows-here sizes vals fits q f t = record { size = λ u h l e. size u h l e (ℕ_discrete u v); next = λ u h l e. next u h l e (ℕ_discrete u v) }
    where
      size : (u : ℕ) → v ≤ u → u < length vals → get_or vals u 0 ≡ unassigned → Dec (u ≡ v) → get_or written (row_at u) 0 ≡ get_or sizes u 0
      size u h l e (yes i) = rw (i, (written-here fits).0) q
      size u h l e (no i) =
          let y : u * 4 + 0 ≡ u * 4 = omega arith in
          rw (rw y at (written-other u 0 i (omega arith))) (t.size u (omega arith) l e)

      next : (u : ℕ) → v ≤ u → u < length vals → get_or vals u 0 ≡ unassigned → Dec (u ≡ v) → NextFree vals (u + 1) (get_or written (row_at u + 1) 0)
      next u h l e (yes i) = rw (i, (written-here fits).1) f
      next u h l e (no i) = rw (written-other u 1 i (omega arith)) (t.next u (omega arith) l e)

-- an assigned variable needs no row
pub rows-past : (sizes vals plan : List ℕ) (v : ℕ) → (get_or vals v 0 ≡ unassigned → ⊥) → Rows sizes vals plan (v + 1) → Rows sizes vals plan v
rows-past sizes vals plan v d t = record { size = λ u h l e. t.size u (after u h e) l e; next = λ u h l e. t.next u (after u h e) l e }
  where
    after : (u : ℕ) → v ≤ u → get_or vals u 0 ≡ unassigned → v + 1 ≤ u
    after u h e = elim (ℕ_discrete u v) [ yes q ↦ absurd (d (rw q at e)) | no q ↦ omega arith ]

-- ---- one variable more

module _ (sizes vals sat uses plan : List ℕ) (n h1 h2 o1 o2 v : ℕ) (lent : Lent plan_words vals sat uses plan) (inside : v < length vals)
    (p : Planned sizes vals sat uses plan n (in_pair h1 h2) (in_pair o1 o2) (v + 1)) (none : trials_then plan v ≡ none_noted) where
  -- nothing is noted from v on
  blank-from : (u : ℕ) → v ≤ u → u < length vals → trials_then plan u ≡ none_noted
  blank-from u h l = elim (ℕ_discrete u v) [ yes q ↦ rw q none | no q ↦ p.blank u (omega arith) l ]

  -- an unassigned one: in its row the clauses that mention it and are not yet open, and these are open too
  pub planned-free : (z a b : ℕ) → z ≡ get_or sizes v 0
      → a ≡ bit_xor (get_or uses (v * set_words) 0) (bit_and (get_or uses (v * set_words) 0) o1) → b ≡ bit_xor (get_or uses (v * set_words + 1) 0) (bit_and (get_or uses (v * set_words + 1) 0) o2) → get_or vals v 0 ≡ unassigned
      → Planned sizes vals sat uses (written plan v z n a b) v (in_pair h1 h2) (in_pair (bit_or o1 (get_or uses (v * set_words) 0)) (bit_or o2 (get_or uses (v * set_words + 1) 0))) v
  planned-free z a b q i j e =
      let fits : v * 4 + 4 ≤ length plan = omega (arith, lent.few, p.long) in
      let row = written-here plan v z n a b fits in
      record {
        next = free-here vals v inside e;
        rows = rows-here plan v z n a b sizes vals fits q p.next p.rows;
        ends = written_last plan v z n a b (omega (arith, lent.few)) ∙ p.ends;
        long = simp length-set p.long;
        sets = λ cs k. from_next pair_clauses vals sat uses (omega arith) v lent.few inside (lent.bytes v) _ _ _ _ (in_pair h1 h2) _
            (λ e c h. plan_less o1 o2 (written plan v z n a b) uses v c h (row.2 ∙ i) (row.3 ∙ j)) (λ u c l. plan_other plan v z n a b u c)
            (λ c h. pair_or o1 o2 uses v c h ∙ sym (rw (eq-eqb (get_or vals v 0) unassigned e)))
            (λ c h. sym (rw (eq-eqb (get_or vals v 0) unassigned e) (or-false (in_pair h1 h2 c)))) cs k (p.sets cs k);
        blank = λ u h l. written_behind plan v z n a b (note_at u + 4) (omega (arith, lent.few)) (omega arith) ∙ blank-from u h l;
      }

  -- an assigned one: the clauses that it satisfies are added
  pub planned-set : (get_or vals v 0 ≡ unassigned → ⊥)
      → Planned sizes vals sat uses plan n (in_pair (bit_or h1 (get_or sat ((v * values + get_or vals v 0) * set_words) 0)) (bit_or h2 (get_or sat ((v * values + get_or vals v 0) * set_words + 1) 0))) (in_pair o1 o2) v
  planned-set d = record {
    next = free-past vals v n d p.next;
    rows = rows-past sizes vals plan v d p.rows;
    ends = p.ends;
    long = p.long;
    sets = λ cs k. from_next pair_clauses vals sat uses (omega arith) v lent.few inside (lent.bytes v) _ _ _ _ _ (in_pair o1 o2)
        (λ e. absurd (d e)) (λ u c l h d. refl)
        (λ c h. sym (rw (ne_eqb (get_or vals v 0) unassigned d) (or-false (in_pair o1 o2 c))))
        (λ c h. pair_or h1 h2 sat (v * values + get_or vals v 0) c h ∙ sym (rw (ne_eqb (get_or vals v 0) unassigned d))) cs k (p.sets cs k);
    blank = blank-from;
  }

-- from the end on there is nothing
pub planned-end : (sizes vals sat uses plan : List ℕ) → get_or plan count_place 0 ≡ length vals → length plan ≡ plan_words → Planned sizes vals sat uses plan (length vals) (in_pair 0 0) (in_pair 0 0) (length vals)
planned-end sizes vals sat uses plan e l = record {
  next = free-end vals;
  rows = record { size = λ u h l. absurd (omega arith); next = λ u h l. absurd (omega arith) };
  ends = e;
  long = l;
  sets = λ cs k. from_first pair_clauses vals sat uses cs (in_plan plan) (in_pair 0 0) none_in_pair k;
  blank = λ u h l. absurd (omega arith);
}
