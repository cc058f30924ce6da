-- The sets with which a search starts, made variable by variable from the last down. Assumes nothing.
use mathlib.Core.Path.{◌≡◌, refl, sym, ap, ap₂, ◌∙◌}
use mathlib.Core.Bool.{Bool, true, false, not, ◌&&◌, ◌||◌, false≢true, true≢false}
use mathlib.Core.Option.{none}
use mathlib.Core.List.{List, [], ◌∷◌, map}
use Prim.Native.Nat.{ℕ, zero, suc, ◌+◌, ◌*◌, ◌/◌, ◌%◌, ◌<◌, ◌≤◌}
use native.Mathlib.Omega.{arith}
use native.Mathlib.Decide.{ℕ_discrete}
use borrow.Author.Tests.{eq-eqb, ne_eqb}
use lib.Dec.{eqb}
use lib.ListN.{length, get_or, replicate}
use Rattle.model.specs.Sheet.{Literal}
use Rattle.model.specs.Lists.{All}
use Rattle.model.specs.Assignment.{is_some, nibble}
use Rattle.theory.specs.Search.{satisfied_at, nth, due}
use Rattle.theory.proofs.Digits.{zero-at}
use Rattle.theory.proofs.Search.{waits-step, waits_end, satisfied-step, satisfied-end, satisfied-all}
use Rattle.clauses.specs.Bytes.{given}
use Rattle.clauses.specs.Numbers.{variables, values, unassigned, most_clauses}
use Rattle.clauses.specs.Sets.{in_set, in_pair, SetIs}
use Rattle.clauses.proofs.Bits.{bit-zero}
use Rattle.clauses.proofs.Bytes.{given-none, given_some, given-at}
use Rattle.trials.specs.Searches.{Clauses, SetsFrom, Started}
use Rattle.trials.proofs.Bytes.{is-given}

-- a set of nothing
pub empty : (c : ℕ) → in_set (replicate 8 0) 0 c ≡ false
unfolding in_set
empty c = rw (zero-at 8 (0 * 8 + c / 64)) (bit-zero (c % 64))

pub none_in_pair : (c : ℕ) → in_pair 0 0 c ≡ false
unfolding in_pair
none_in_pair c = rw (zero-at 2 (0 + c / 64)) (bit-zero (c % 64))

-- each clause's variables are below n, also past the end
below-nth : (n : ℕ) (cs : List (List Literal)) → All (All (λ l. l.variable < n)) cs → (c : ℕ) → All (λ l. l.variable < n) (nth cs c)
below-nth n [] b c = tt
below-nth n (d ∷ cs) b zero = b.0
below-nth n (d ∷ cs) b (suc c) = below-nth n cs b.1 c

-- a byte that is not 16 is a value
pub value-below : (b : ℕ) → b ≤ unassigned → not (eqb b unassigned) ≡ true → b < values
value-below b h e = elim (ℕ_discrete b unassigned) [ yes p ↦ absurd (false≢true (rw (eq-eqb b unassigned p) at e)) | no d ↦ omega arith ]

module _ (m : ℕ) (vals sat uses : List ℕ) where
  -- from the end on they are empty
  pub from_first : (cs : List (List Literal)) (inDue : ℕ → ℕ → Bool) (inNone : ℕ → Bool) → ((c : ℕ) → inNone c ≡ false) → Clauses cs vals sat uses → SetsFrom m cs vals inDue inNone inNone (length vals)
  from_first cs inDue inNone empty k = record {
    dues = record { has = λ u h l. absurd (omega arith) };
    holds = record { has = λ c h. empty c ∙ sym (satisfied-end (map given vals) (nth cs c) (length vals) (below-nth (length vals) cs k.below c)) };
    waiting = record { has = λ c h. empty c ∙ sym (waits_end (map given vals) (nth cs c) (length vals) (below-nth (length vals) cs k.below c)) };
  }

  -- one variable more: at most 512 clauses in the tables
  module _ (most : m ≤ most_clauses) (v : ℕ) (few : length vals ≤ variables) (inside : v < length vals) (small : get_or vals v 0 ≤ unassigned)
      (inDue inDue' : ℕ → ℕ → Bool) (inHeld in_open inHeld' inOpen' : ℕ → Bool)
      (here-due : get_or vals v 0 ≡ unassigned → (c : ℕ) → c < m → inDue' v c ≡ (in_set uses v c && not (in_open c)))
      (rest-due : (u c : ℕ) → u < length vals → c < m → (u ≡ v → ⊥) → inDue' u c ≡ inDue u c)
      (opens : (c : ℕ) → c < m → inOpen' c ≡ (in_open c || eqb (get_or vals v 0) unassigned && in_set uses v c))
      (helds : (c : ℕ) → c < m → inHeld' c ≡ (inHeld c || not (eqb (get_or vals v 0) unassigned) && in_set sat (v * values + get_or vals v 0) c)) where
    pub from_next : (cs : List (List Literal)) → Clauses cs vals sat uses → SetsFrom m cs vals inDue inHeld in_open (v + 1) → SetsFrom m cs vals inDue' inHeld' inOpen' v
    unfolding due
    from_next cs k f = record {
      dues = record { has = λ u h l e. due-at u h l e (ℕ_discrete u v) };
      holds = record {
        has = λ c h. helds c h ∙ ap₂ ◌||◌ (f.holds.has c h) (held_at c h (ℕ_discrete (get_or vals v 0) unassigned))
            ∙ sym (satisfied-step (map given vals) v (nth cs c) ∙ rw here);
      };
      waiting = record {
        has = λ c h. opens c h ∙ ap₂ ◌||◌ (f.waiting.has c h) (ap₂ ◌&&◌ is_free ((k.ready.mentioned v (omega arith)).has c (omega arith)))
            ∙ sym (waits-step (map given vals) v (nth cs c) ∙ rw here);
      };
    }
      where
        here : get_or (map given vals) v none ≡ given (get_or vals v 0)
        here = given-at vals v inside

        is_free : eqb (get_or vals v 0) unassigned ≡ not (is_some (given (get_or vals v 0)))
        is_free = sym (ap not (is-given (get_or vals v 0)) ∙ go (eqb (get_or vals v 0) unassigned))
          where
            go : (b : Bool) → not (not b) ≡ b
            go true = refl
            go false = refl

        held_at : (c : ℕ) → c < m → Dec (get_or vals v 0 ≡ unassigned)
            → (not (eqb (get_or vals v 0) unassigned) && in_set sat (v * values + get_or vals v 0) c) ≡ (is_some (given (get_or vals v 0)) && satisfied_at v (nibble (given (get_or vals v 0))) (nth cs c))
        held_at c h (yes e) = rw (eq-eqb (get_or vals v 0) unassigned e, given-none (get_or vals v 0) e)
        held_at c h (no d) = rw (ne_eqb (get_or vals v 0) unassigned d, given_some (get_or vals v 0) d) ((k.ready.satisfies v (get_or vals v 0) (omega arith) (omega arith)).has c (omega arith))

        -- a variable whose byte gives nothing has the byte 16
        is_16 : get_or (map given vals) v none ≡ none → get_or vals v 0 ≡ unassigned
        is_16 e = elim (ℕ_discrete (get_or vals v 0) unassigned) [ yes p ↦ p | no d ↦ absurd (true≢false (ap is_some (sym (given_some (get_or vals v 0) d) ∙ sym here ∙ e))) ]

        due-at : (u : ℕ) → v ≤ u → u < length vals → get_or (map given vals) u none ≡ none → Dec (u ≡ v) → SetIs m (due (map given vals) u) cs (inDue' u)
        due-at u h l e (yes p) = rw p record {
          has = λ c b. here-due (is_16 (rw p at e)) c b ∙ ap₂ (λ (x y : Bool). x && not y) ((k.ready.mentioned v (omega arith)).has c (omega arith)) (f.waiting.has c b);
        }
        due-at u h l e (no p) = record { has = λ c b. rest-due u c l b p ∙ (f.dues.has u (omega arith) l e).has c b }

-- at 0 they are whole
pub from_end : (m : ℕ) (vals : List ℕ) (cs : List (List Literal)) (inDue : ℕ → ℕ → Bool) (inHeld in_open : ℕ → Bool) → SetsFrom m cs vals inDue inHeld in_open 0 → Started m cs vals inDue inHeld
from_end m vals cs inDue inHeld in_open f = record { dues = f.dues; holds = record { has = λ c h. f.holds.has c h ∙ satisfied-all (map given vals) (nth cs c) } }
