-- A trial decided by sets of clauses: where no clause was false, one is false after it exactly if a clause that is due at the variable is not satisfied. Assumes nothing.
use mathlib.Core.Path.{◌≡◌, refl, sym, ap, ap₂, ◌∙◌}
use mathlib.Core.Bool.{Bool, true, false, not, ◌&&◌, ◌||◌, true≢false, false≢true}
use mathlib.Core.Option.{Option, none, some}
use mathlib.Core.List.{List, [], ◌∷◌}
use Prim.Native.Nat.{ℕ, zero, suc, ◌+◌, ◌≤◌, ◌<◌}
use native.Mathlib.Omega.{arith}
use native.Mathlib.Numerals.{add-one}
use native.Mathlib.Decide.{ℕ_discrete, dec_lt}
use borrow.Author.Tests.{eq-eqb, ne_eqb, le-leb, lt-leb}
use lib.Dec.{eqb, leb}
use lib.ListN.{length, get_or, set, get_or-eq_default}
use lib.Seq.{get_or-set_same, get_or-set_other}
use Rattle.model.specs.Lists.{All, any_of, all_of}
use Rattle.model.specs.Sheet.{Literal}
use Rattle.model.specs.Assignment.{Assignment, is_some, nibble}
use Rattle.model.specs.Consistency.{holds_at, literal_fails, clause_false, any_false}
use Rattle.theory.specs.Search.{is_free, holds_under, any_at, any_from, mentions, satisfied_at, satisfied, satisfied_from, waits, due, nth}
use Rattle.theory.proofs.Lists.{all_map, all_any, or_neither}
use Rattle.theory.specs.Nodes.{Filled}
use Rattle.theory.proofs.Agreement.{filled_more, filled-set}

-- ---- whether some member passes a test

module _ {A : Type 0} where
  pub any_cons : (P : A → Bool) (x : A) (xs : List A) → any_of P (x ∷ xs) ≡ (P x || any_of P xs)
  any_cons P x xs = go (P x)
    where
      go : (p : Bool) → elim p [ true ↦ true | false ↦ any_of P xs ] ≡ (p || any_of P xs)
      go true = refl
      go false = refl

  -- two tests that each member answers alike
  pub any_same : (P Q : A → Bool) (xs : List A) → All (λ x. P x ≡ Q x) xs → any_of P xs ≡ any_of Q xs
  any_same P Q [] h = refl
  any_same P Q (x ∷ xs) h = any_cons P x xs ∙ ap₂ ◌||◌ h.0 (any_same P Q xs h.1) ∙ sym (any_cons Q x xs)

  any_none : (xs : List A) → any_of (λ x. false) xs ≡ false
  any_none [] = refl
  any_none (x ∷ xs) = any_none xs

  any_or : (P Q : A → Bool) (xs : List A) → any_of (λ x. P x || Q x) xs ≡ (any_of P xs || any_of Q xs)
  any_or P Q [] = refl
  any_or P Q (x ∷ xs) =
      any_cons (λ x. P x || Q x) x xs ∙ ap (λ (b : Bool). P x || Q x || b) (any_or P Q xs)
      ∙ go (P x) (Q x) (any_of P xs) (any_of Q xs)
      ∙ ap₂ ◌||◌ (sym (any_cons P x xs)) (sym (any_cons Q x xs))
    where
      go : (p q r s : Bool) → (p || q || (r || s)) ≡ (p || r || (q || s))
      go true q r s = refl
      go false true true s = refl
      go false true false s = refl
      go false false r s = refl

-- ---- by the literals' variables

module _ (P : Literal → Bool) where
  -- from v on is after v, or at v
  from_step : (v : ℕ) (ls : List Literal) → any_from P v ls ≡ (any_from P (v + 1) ls || any_at P v ls)
  unfolding any_from any_at
  from_step v ls =
      any_same (λ l. leb v l.variable && P l) (λ l. leb (v + 1) l.variable && P l || eqb l.variable v && P l) ls (all_any (λ l. go l.variable (P l)) ls)
      ∙ any_or (λ l. leb (v + 1) l.variable && P l) (λ l. eqb l.variable v && P l) ls
    where
      off : (b : Bool) → b ≡ (b || false)
      off true = refl
      off false = refl

      go : (u : ℕ) (b : Bool) → (leb v u && b) ≡ (leb (v + 1) u && b || eqb u v && b)
      go u b = elim (ℕ_discrete u v) [
        | yes e ↦ rw (eq-eqb u v e, le-leb v u (omega arith), lt-leb (v + 1) u (omega arith))
        | no d ↦ rw (ne_eqb u v d) (elim (dec_lt u v) [
          | yes l ↦ rw (lt-leb v u l, lt-leb (v + 1) u (omega arith))
          | no n ↦ rw (le-leb v u (omega arith), le-leb (v + 1) u (omega arith)) (off b)
        ])
      ]

  -- from a bound of the variables on there is nothing
  from_end : (n : ℕ) (ls : List Literal) → All (λ l. l.variable < n) ls → any_from P n ls ≡ false
  unfolding any_from
  from_end n ls h = any_same (λ l. leb n l.variable && P l) (λ l. false) ls (all_map past ls h) ∙ any_none ls
    where
      past : (l : Literal) → l.variable < n → (leb n l.variable && P l) ≡ false
      past l b = rw (lt-leb n l.variable b)

  -- from 0 on is all
  from_all : (ls : List Literal) → any_from P 0 ls ≡ any_of P ls
  unfolding any_from
  from_all ls = any_same (λ l. leb 0 l.variable && P l) P ls (all_any (λ l. rw (le-leb 0 l.variable (omega arith))) ls)

  -- at v a test may be replaced by one that agrees on literals on v
  at_same : (Q : Literal → Bool) (v : ℕ) (ls : List Literal) → ((l : Literal) → l.variable ≡ v → P l ≡ Q l) → any_at P v ls ≡ any_at Q v ls
  unfolding any_at
  at_same Q v ls h = any_same (λ l. eqb l.variable v && P l) (λ l. eqb l.variable v && Q l) ls (all_any (λ l. go l (ℕ_discrete l.variable v)) ls)
    where
      go : (l : Literal) → Dec (l.variable ≡ v) → (eqb l.variable v && P l) ≡ (eqb l.variable v && Q l)
      go l (yes e) = ap (λ (b : Bool). eqb l.variable v && b) (h l e)
      go l (no d) = rw (ne_eqb l.variable v d)

at_none : (v : ℕ) (ls : List Literal) → any_at (λ l. false) v ls ≡ false
unfolding any_at
at_none v ls = any_same (λ l. eqb l.variable v && false) (λ l. false) ls (all_any (λ l. go (eqb l.variable v)) ls) ∙ any_none ls
  where
    go : (b : Bool) → (b && false) ≡ false
    go true = refl
    go false = refl

-- ---- one variable more, from the last down

module _ (a : Assignment) (v : ℕ) (ls : List Literal) where
  -- a clause has an unassigned variable from v on if it has a later one, or v is unassigned and it mentions v
  pub waits-step : waits a v ls ≡ (waits a (v + 1) ls || not (is_some (get_or a v none)) && mentions v ls)
  unfolding waits mentions is_free
  waits-step = from_step (is_free a) v ls ∙ ap (λ (b : Bool). waits a (v + 1) ls || b) (go (get_or a v none) refl)
    where
      go : (o : Option ℕ) → get_or a v none ≡ o → any_at (is_free a) v ls ≡ (not (is_some o) && mentions v ls)
      go none q = at_same (is_free a) (λ l. true) v ls (λ l e. rw (is_free, e, q))
      go (some x) q = at_same (is_free a) (λ l. false) v ls (λ l e. rw (is_free, e, q)) ∙ at_none v ls

  -- the variables from v on satisfy a clause if the later ones do, or v is assigned and its value does
  pub satisfied-step : satisfied_from a v ls ≡ (satisfied_from a (v + 1) ls || is_some (get_or a v none) && satisfied_at v (nibble (get_or a v none)) ls)
  unfolding satisfied_from satisfied_at holds_under
  satisfied-step = from_step (holds_under a) v ls ∙ ap (λ (b : Bool). satisfied_from a (v + 1) ls || b) (go (get_or a v none) refl)
    where
      go : (o : Option ℕ) → get_or a v none ≡ o → any_at (holds_under a) v ls ≡ (is_some o && satisfied_at v (nibble o) ls)
      go none q = at_same (holds_under a) (λ l. false) v ls (λ l e. rw (holds_under, e, q)) ∙ at_none v ls
      go (some x) q = at_same (holds_under a) (λ l. holds_at x l.sign l.value) v ls (λ l e. rw (holds_under, e, q))

-- where they begin and end
module _ (a : Assignment) (ls : List Literal) where
  pub waits_end : (n : ℕ) → All (λ l. l.variable < n) ls → waits a n ls ≡ false
  unfolding waits
  waits_end n h = from_end (is_free a) n ls h

  pub satisfied-end : (n : ℕ) → All (λ l. l.variable < n) ls → satisfied_from a n ls ≡ false
  unfolding satisfied_from
  satisfied-end n h = from_end (holds_under a) n ls h

  pub satisfied-all : satisfied_from a 0 ls ≡ satisfied a ls
  unfolding satisfied_from satisfied
  satisfied-all = from_all (holds_under a) ls

-- ---- a clause is false

-- a variable before w is assigned
filled_at : (w : ℕ) (a : Assignment) (u : ℕ) → Filled w a → u < w → is_some (get_or a u none) ≡ true
filled_at zero a u f l = absurd (omega arith)
filled_at (suc w) [] u f l = absurd f
filled_at (suc w) (o ∷ a) zero f l = f.0
filled_at (suc w) (o ∷ a) (suc u) f l = filled_at w a u f.1 (omega arith)

all_not : {A : Type 0} (P Q : A → Bool) (xs : List A) → All (λ x. P x ≡ not (Q x)) xs → all_of P xs ≡ not (any_of Q xs)
all_not P Q [] h = refl
all_not P Q (x ∷ xs) h = go (P x) (Q x) h.0 (all_not P Q xs h.1)
  where
    go : (p q : Bool) → p ≡ not q → all_of P xs ≡ not (any_of Q xs) → elim p [ true ↦ all_of P xs | false ↦ false ] ≡ not (elim q [ true ↦ true | false ↦ any_of Q xs ])
    go true true e i = absurd (true≢false e)
    go true false e i = i
    go false true e i = refl
    go false false e i = absurd (false≢true e)

module _ (a : Assignment) (ls : List Literal) where
  -- it is if none of its literals holds already and none has an unassigned variable
  false_exactly : clause_false a ls ≡ not (satisfied a ls || any_of (is_free a) ls)
  unfolding clause_false satisfied literal_fails holds_under is_free
  false_exactly = all_not (literal_fails a) (λ l. holds_under a l || is_free a l) ls (all_any literal ls) ∙ ap not (any_or (holds_under a) (is_free a) ls)
    where
      literal : (l : Literal) → literal_fails a l ≡ not (holds_under a l || is_free a l)
      literal l = go (get_or a l.variable none) refl
        where
          off : (b : Bool) → not b ≡ not (b || false)
          off true = refl
          off false = refl

          go : (o : Option ℕ) → get_or a l.variable none ≡ o → literal_fails a l ≡ not (holds_under a l || is_free a l)
          go none e = rw (literal_fails, holds_under, is_free, e)
          go (some x) e = rw (literal_fails, holds_under, is_free, e) (off (holds_at x l.sign l.value))

  -- where the variables before w are assigned, the unassigned ones are from w on
  pub false-filled : (w : ℕ) → Filled w a → clause_false a ls ≡ not (satisfied a ls || waits a w ls)
  unfolding waits any_from is_free
  false-filled w f =
      false_exactly ∙ ap (λ (b : Bool). not (satisfied a ls || b))
      (any_same (is_free a) (λ l. leb w l.variable && is_free a l) ls (all_any (λ l. go l (dec_lt l.variable w)) ls))
    where
      go : (l : Literal) → Dec (l.variable < w) → is_free a l ≡ (leb w l.variable && is_free a l)
      go l (yes h) = rw (lt-leb w l.variable h, is_free, filled_at w a l.variable f h)
      go l (no h) = rw (le-leb w l.variable (omega arith))

-- ---- one trial: the unassigned variable v is given the value x

module _ (a : Assignment) (v x : ℕ) (inside : v < length a) (free : get_or a v none ≡ none) where
  abbrev after : Assignment
  after = set a v (some x)

  -- which clauses wait for a later variable does not change
  waits-set : (w : ℕ) → v < w → (ls : List Literal) → waits after w ls ≡ waits a w ls
  unfolding waits any_from is_free
  waits-set w h ls = any_same (λ l. leb w l.variable && is_free after l) (λ l. leb w l.variable && is_free a l) ls (all_any (λ l. go l (dec_lt l.variable w)) ls)
    where
      go : (l : Literal) → Dec (l.variable < w) → (leb w l.variable && is_free after l) ≡ (leb w l.variable && is_free a l)
      go l (yes b) = rw (lt-leb w l.variable b)
      go l (no b) = rw (is_free, get_or-set_other a v l.variable (some x) none (λ e. omega arith))

  -- nor which are due at one
  pub due-set : (u : ℕ) → v < u → (ls : List Literal) → due after u ls ≡ due a u ls
  unfolding due
  due-set u h ls = ap (λ (b : Bool). mentions u ls && not b) (waits-set (u + 1) (omega arith) ls)

  -- a clause is satisfied after it that was before, or that the value x satisfies
  pub satisfied-set : (ls : List Literal) → satisfied after ls ≡ (satisfied a ls || satisfied_at v x ls)
  unfolding satisfied satisfied_at any_at holds_under
  satisfied-set ls =
      any_same (holds_under after) (λ l. holds_under a l || eqb l.variable v && holds_at x l.sign l.value) ls (all_any (λ l. go l (ℕ_discrete l.variable v)) ls)
      ∙ any_or (holds_under a) (λ l. eqb l.variable v && holds_at x l.sign l.value) ls
    where
      off : (b : Bool) → b ≡ (b || false)
      off true = refl
      off false = refl

      go : (l : Literal) → Dec (l.variable ≡ v) → holds_under after l ≡ (holds_under a l || eqb l.variable v && holds_at x l.sign l.value)
      go l (yes e) = rw (holds_under, e, get_or-set_same a v (some x) none inside, free, eq-eqb v v refl)
      go l (no d) = rw (holds_under, get_or-set_other a v l.variable (some x) none d, ne_eqb l.variable v d) (off (holds_under a l))

  -- where each variable before v is assigned, each up to v is after it
  pub filled_next : Filled v a → Filled (v + 1) after
  filled_next f = rw add-one (filled_more v after x (get_or-set_same a v (some x) none inside) (filled-set v a (some x) f))

  module _ (filled : Filled v a) (ls : List Literal) where
    -- a clause that was not false is not false after the trial, unless it is due and not satisfied
    clause-clear : clause_false a ls ≡ false → (due a v ls ≡ true → satisfied after ls ≡ true) → clause_false after ls ≡ false
    unfolding due
    clause-clear e h =
        false-filled after ls (v + 1) (filled_next filled)
        ∙ ap (λ (b : Bool). not (satisfied after ls || b)) (waits-set (v + 1) (omega arith) ls)
        ∙ go (satisfied a ls) (satisfied after ls) (satisfied_at v x ls) (waits a (v + 1) ls) (mentions v ls) (satisfied-set ls)
        (sym (false-filled a ls v filled ∙ ap (λ (b : Bool). not (satisfied a ls || b)) (waits-step a v ls ∙ rw free)) ∙ e) h
      where
        go : (s t y w m : Bool) → t ≡ (s || y) → not (s || (w || m)) ≡ false → ((m && not w) ≡ true → t ≡ true) → not (t || w) ≡ false
        go s true y w m e c h = refl
        go s false y true m e c h = refl
        go true false y false m e c h = absurd (false≢true e)
        go false false y false true e c h = absurd (false≢true (h refl))
        go false false y false false e c h = absurd (true≢false c)

    -- a clause that is not false after the trial and is due is satisfied
    clause-satisfied : clause_false after ls ≡ false → due a v ls ≡ true → satisfied after ls ≡ true
    unfolding due
    clause-satisfied e =
        go (satisfied after ls) (waits a (v + 1) ls) (mentions v ls)
        (sym (false-filled after ls (v + 1) (filled_next filled) ∙ ap (λ (b : Bool). not (satisfied after ls || b)) (waits-set (v + 1) (omega arith) ls)) ∙ e)
      where
        go : (t w m : Bool) → not (t || w) ≡ false → (m && not w) ≡ true → t ≡ true
        go true w m c d = refl
        go false true true c d = d
        go false true false c d = d
        go false false m c d = absurd (true≢false c)

-- ---- all clauses

-- no clause is false exactly if each is not
any_nth : (a : Assignment) (cs : List (List Literal)) → any_false a cs ≡ false → (c : ℕ) → c < length cs → clause_false a (nth cs c) ≡ false
unfolding any_false
any_nth a [] h c l = absurd (omega arith)
any_nth a (d ∷ cs) h zero l = (or_neither (clause_false a d) (any_false a cs) (sym (any_cons (clause_false a) d cs) ∙ h)).0
any_nth a (d ∷ cs) h (suc c) l = any_nth a cs (or_neither (clause_false a d) (any_false a cs) (sym (any_cons (clause_false a) d cs) ∙ h)).1 c (omega arith)

pub nth_any : (a : Assignment) (cs : List (List Literal)) → ((c : ℕ) → c < length cs → clause_false a (nth cs c) ≡ false) → any_false a cs ≡ false
unfolding any_false
nth_any a [] h = refl
nth_any a (d ∷ cs) h = any_cons (clause_false a) d cs ∙ ap₂ ◌||◌ (h 0 (omega arith)) (nth_any a cs (λ c l. h (suc c) (omega arith)))

-- past the end no clause is due
due-past : (a : Assignment) (v : ℕ) (cs : List (List Literal)) (c : ℕ) → length cs ≤ c → due a v (nth cs c) ≡ false
unfolding due mentions any_at
due-past a v cs c h = rw (get_or-eq_default cs [] {n = c} h)

module _ (cs : List (List Literal)) (a : Assignment) (v x : ℕ) (inside : v < length a) (free : get_or a v none ≡ none) (filled : Filled v a) where
  -- no clause is false after the trial if each that is due at v is satisfied
  pub trial_clear : any_false a cs ≡ false
      → ((c : ℕ) → c < length cs → due a v (nth cs c) ≡ true → satisfied (set a v (some x)) (nth cs c) ≡ true) → any_false (set a v (some x)) cs ≡ false
  trial_clear e h = nth_any (set a v (some x)) cs (λ c l. clause-clear a v x inside free filled (nth cs c) (any_nth a cs e c l) (h c l))

  -- and only then
  pub trial_satisfied : any_false (set a v (some x)) cs ≡ false → (c : ℕ) → due a v (nth cs c) ≡ true → satisfied (set a v (some x)) (nth cs c) ≡ true
  trial_satisfied e c d = elim (dec_lt c (length cs)) [
    | yes l ↦ clause-satisfied a v x inside free filled (nth cs c) (any_nth (set a v (some x)) cs e c l) d
    | no n ↦ absurd (false≢true (sym (due-past a v cs c (omega arith)) ∙ d))
  ]
