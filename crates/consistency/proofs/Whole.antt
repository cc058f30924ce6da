-- The whole test: from what it is given to where the search starts. Assumes nothing.
use mathlib.Core.Path.{◌≡◌, refl, sym, ap, ap₂, ◌∙◌}
use mathlib.Core.Bool.{Bool, true, false, not, ◌||◌, true≢false}
use mathlib.Core.List.{List, map}
use Prim.Native.Nat.{ℕ, ◌-◌, ◌≤◌}
use native.Mathlib.Omega.{arith}
use native.Mathlib.Decide.{dec_lt}
use lib.Bits.{bit_or}
use lib.ListN.{length}
use Rattle.model.specs.Sheet.{Literal}
use Rattle.model.specs.Consistency.{clause_false, any_false, explore}
use Rattle.model.specs.Tables.{clauses}
use Rattle.theory.specs.Search.{nth}
use Rattle.theory.proofs.TableClauses.{clauses_length}
use Rattle.theory.proofs.Search.{false-filled}
use Rattle.clauses.specs.Bytes.{given}
use Rattle.clauses.specs.Numbers.{most_clauses, pair_clauses}
use Rattle.clauses.specs.Sets.{in_set, in_pair}
use Rattle.clauses.specs.Tables.{Tables}
use Rattle.clauses.proofs.Pairs.{pair-past}
use Rattle.trials.specs.declared.Answer.{Answer}
use Rattle.trials.specs.declared.Answer.TheVariants.{Inconsistent}
use Rattle.trials.specs.Answers.{test_over, Ended}
use Rattle.trials.specs.Searches.{Lent, Starts, Bytes, Searches}
use Rattle.trials.proofs.Endings.{as_inconsistent, moved}
use Rattle.trials.proofs.FirstSets.{from_end}
use Rattle.trials.proofs.Turns.{passed_over}
use Rattle.plan.specs.Plans.{plan_words, in_plan, Planned, PlanFor, Searchable, Knows}
use Rattle.plan.proofs.Pairs.{pair-join}
use Rattle.consistency.specs.Given.{Given}

module _ {sizes counts lits sat uses vals : List ℕ} (g : Given sizes counts lits sat uses vals) where
  -- the first question is asked of the same tables
  pub tables-vals : Tables (length vals) counts lits
  tables-vals = rw g.same g.tables

  -- the first sets are made of what is lent
  pub lent-first : (made : List ℕ) → Lent (length made) vals sat uses made
  lent-first made = record {
    few = omega (arith, g.few, g.same);
    bytes = g.bytes;
    sat_long = g.ready.sat_long;
    uses_long = g.ready.uses_long;
    long = omega arith;
  }

  -- and so is the plan
  pub lent_plan : (plan : List ℕ) → length plan ≡ plan_words → Lent plan_words vals sat uses plan
  lent_plan plan e = record { few = (lent-first plan).few; bytes = g.bytes; sat_long = g.ready.sat_long; uses_long = g.ready.uses_long; long = omega arith }

  -- the search has its bytes
  pub bytes-first : Bytes sizes vals 0
  bytes-first = record { upto = omega arith; few = g.few; small = g.small; same = g.same }

  module _ (limit used : ℕ) where
    -- a clause is false at once
    pub at_once : any_false (map given vals) (clauses counts lits) ≡ true → Ended (test_over (clauses counts lits) sizes limit used (map given vals)) vals vals (Inconsistent used)
    unfolding test_over
    at_once e = as_inconsistent (test_over (clauses counts lits) sizes limit used (map given vals)) vals vals used (rw (test_over, e)) refl

    -- none is: the search from variable 0 decides
    pub searched : (m : ℕ) → length counts ≤ m → m ≤ most_clauses → any_false (map given vals) (clauses counts lits) ≡ false
        → (inDue : ℕ → ℕ → Bool) (inHeld : ℕ → Bool) (after : List ℕ) (r : Answer)
        → {Known : List (List Literal) → Type 0} → Known (clauses counts lits) → Starts m vals sat uses inDue inHeld → Searches m Known sizes (in_set sat) inDue vals inHeld 0 used limit after r
        → Ended (test_over (clauses counts lits) sizes limit used (map given vals)) vals after r
    unfolding test_over
    searched m few most e inDue inHeld after r known start deep =
        let cs = clauses counts lits in
        let z : length sizes - 0 ≡ length sizes = omega arith in
        let s = start cs record { below = tables-vals.below; ready = g.ready } in
        moved (test_over cs sizes limit used (map given vals)) (explore cs limit sizes (length sizes - 0) 0 used (map given vals)) vals after r
        (rw (test_over, e, z))
        (deep cs record {
          known = known;
          many = omega (arith, clauses_length counts lits);
          satisfies = λ u x h l. record { has = λ c b. (g.ready.satisfies u x h l).has c (omega arith) };
          dues = s.dues;
          holds = s.holds;
          filled = tt;
          clear = e;
        })

  -- ---- on sets of two words

  -- a clause that is satisfied or left open is not false
  pub settled-clear : {plan : List ℕ} {first : ℕ} (held1 held2 open1 open2 : ℕ) → Planned sizes vals sat uses plan first (in_pair held1 held2) (in_pair open1 open2) 0
      → (c : ℕ) → in_pair (bit_or held1 open1) (bit_or held2 open2) c ≡ true → clause_false (map given vals) (nth (clauses counts lits) c) ≡ false
  settled-clear {plan} held1 held2 open1 open2 p c e = elim (dec_lt c pair_clauses) [
    | yes l ↦
        let cs = clauses counts lits in
        let s = p.sets cs record { below = tables-vals.below; ready = g.ready } in
        let h = from_end pair_clauses vals cs (in_plan plan) (in_pair held1 held2) (in_pair open1 open2) s in
        false-filled (map given vals) (nth cs c) 0 tt
        ∙ ap not (sym (ap₂ ◌||◌ (h.holds.has c l) (s.waiting.has c l)) ∙ sym (pair-join held1 held2 open1 open2 c) ∙ e)
    | no l ↦ absurd (true≢false (sym e ∙ pair-past (bit_or held1 open1) (bit_or held2 open2) c (omega arith)))
  ]

  module _ (few : length counts ≤ pair_clauses) {plan : List ℕ} {first : ℕ} {inHeld inOpen : ℕ → Bool} (p : Planned sizes vals sat uses plan first inHeld inOpen 0) where
    -- the plan was made for what the test is given, and the search stands at the first unassigned variable
    pub plan_first : PlanFor sizes vals plan first
    plan_first = record {
      bytes = record { upto = omega (arith, p.next.upto, g.same); few = g.few; small = g.small; same = g.same };
      free = λ l. p.next.free (omega (arith, g.same));
      rows = record { size = λ u a. p.rows.size u (omega arith); next = λ u a. p.rows.next u (omega arith) };
      ends = p.ends;
    }

    pub searchable_first : Searchable plan first
    searchable_first = record { sizes = sizes; vals = vals; plans = plan_first; long = p.long }

    -- and what it says there decides
    pub planned-searched : Knows sizes sat plan (clauses counts lits) → (limit used : ℕ) → any_false (map given vals) (clauses counts lits) ≡ false → (after : List ℕ) (r : Answer)
        → Searches pair_clauses (Knows sizes sat plan) sizes (in_set sat) (in_plan plan) vals inHeld first used limit after r → Ended (test_over (clauses counts lits) sizes limit used (map given vals)) vals after r
    planned-searched k limit used e after r deep = searched limit used pair_clauses few (omega arith) e (in_plan plan) inHeld after r k
        (λ cs k. from_end pair_clauses vals cs (in_plan plan) inHeld inOpen (p.sets cs k))
        (passed_over pair_clauses _ sizes (in_set sat) (in_plan plan) vals 0 first bytes-first p.next inHeld used limit after r deep)
