-- What a false clause means: no extension makes it hold; and where all variables are assigned and no clause is false, every clause holds. Assumes nothing.
use mathlib.Core.Path.{◌≡◌, refl, ap}
use mathlib.Core.Bool.{Bool, true, false, not, true≢false, false≢true}
use mathlib.Core.Option.{Option, none, some}
use mathlib.Core.List.{List, [], ◌∷◌}
use Prim.Native.Nat.{ℕ, ◌<◌}
use borrow.Author.Tests.{not-true, not-false}
use lib.ListN.{length, get_or}
use Rattle.model.specs.Lists.{All, any_of, all_of}
use Rattle.model.specs.Sheet.{Literal}
use Rattle.model.specs.Assignment.{Assignment, Takes, Agree, full}
use Rattle.model.specs.Consistency.{holds_at, literal_holds, clause_holds, all_hold, literal_fails, clause_false, any_false}
use Rattle.theory.proofs.Lists.{all_map, all_any}
use Rattle.theory.proofs.Agreement.{agree_at, get_d_full}

module _ {A : Type 0} (P Q : A → Bool) (b : Bool) where
  -- where each member that answers b to one test answers the opposite to the other, so do "all" of the one and "any" of the other
  all_any_not : (xs : List A) → All (λ x. P x ≡ b → Q x ≡ not b) xs → all_of P xs ≡ b → any_of Q xs ≡ not b
  all_any_not [] h = λ e. ap not e
  all_any_not (x ∷ xs) h = step (P x) (Q x) b h.0 (all_any_not xs h.1)
    where
      step : (p q b : Bool) → (p ≡ b → q ≡ not b) → (all_of P xs ≡ b → any_of Q xs ≡ not b)
          → elim p [ true ↦ all_of P xs | false ↦ false ] ≡ b → elim q [ true ↦ true | false ↦ any_of Q xs ] ≡ not b
      step true true true h i e = absurd (true≢false (h refl))
      step true true false h i e = refl
      step true false b h i e = i e
      step false true true h i e = absurd (false≢true e)
      step false true false h i e = refl
      step false false true h i e = absurd (false≢true e)
      step false false false h i e = absurd (false≢true (h refl))

  -- and so do "any" of the one and "all" of the other
  any_all_not : (xs : List A) → All (λ x. P x ≡ b → Q x ≡ not b) xs → any_of P xs ≡ b → all_of Q xs ≡ not b
  any_all_not [] h = λ e. ap not e
  any_all_not (x ∷ xs) h = step (P x) (Q x) b h.0 (any_all_not xs h.1)
    where
      step : (p q b : Bool) → (p ≡ b → q ≡ not b) → (any_of P xs ≡ b → all_of Q xs ≡ not b)
          → elim p [ true ↦ true | false ↦ any_of P xs ] ≡ b → elim q [ true ↦ all_of Q xs | false ↦ false ] ≡ not b
      step true true true h i e = absurd (true≢false (h refl))
      step true true false h i e = absurd (true≢false e)
      step true false true h i e = refl
      step true false false h i e = absurd (true≢false e)
      step false true b h i e = i e
      step false false true h i e = refl
      step false false false h i e = absurd (false≢true (h refl))

-- the same from literals to all clauses
literals_decide : (f : List ℕ) (a : Assignment) (b : Bool) (cs : List (List Literal))
    → All (All (λ l. literal_fails a l ≡ b → literal_holds f l ≡ not b)) cs → any_false a cs ≡ b → all_hold f cs ≡ not b
unfolding any_false all_hold clause_false clause_holds
literals_decide f a b cs h = any_all_not (clause_false a) (clause_holds f) b cs (all_map (all_any_not (literal_fails a) (literal_holds f) b) cs h)

-- a literal that fails does not hold in an extension
literal_stays : (f : List ℕ) (a : Assignment) → Agree f a → (l : Literal) → literal_fails a l ≡ true → literal_holds f l ≡ false
unfolding literal_fails literal_holds
literal_stays f a h l = go (get_or a l.variable none) (agree_at f a l.variable h)
  where
    go : (o : Option ℕ) → Takes (get_or f l.variable 0) o → elim o [ none ↦ false | some x ↦ not (holds_at x l.sign l.value) ] ≡ true
        → holds_at (get_or f l.variable 0) l.sign l.value ≡ false
    go none t e = absurd (false≢true e)
    go (some x) t e = rw t (not-true (holds_at x l.sign l.value) e)

-- a false clause holds in no extension
pub false_stays : (f : List ℕ) (a : Assignment) → Agree f a → (cs : List (List Literal)) → any_false a cs ≡ true → all_hold f cs ≡ false
false_stays f a h cs = literals_decide f a true cs (all_any (all_any (literal_stays f a h)) cs)

-- a literal whose variable is assigned and that does not fail holds
literal-holds : (f : List ℕ) (l : Literal) → l.variable < length f → literal_fails (full f) l ≡ false → literal_holds f l ≡ true
unfolding literal_fails literal_holds
literal-holds f l h e = not-false (holds_at (get_or f l.variable 0) l.sign l.value) (rw (get_d_full f l.variable h, literal_fails) at e)

-- where all variables are assigned and no clause is false, every clause holds
pub clear-holds : (f : List ℕ) (cs : List (List Literal)) → All (All (λ l. l.variable < length f)) cs → any_false (full f) cs ≡ false → all_hold f cs ≡ true
clear-holds f cs h = literals_decide f (full f) false cs (all_map (all_map (literal-holds f)) cs h)
