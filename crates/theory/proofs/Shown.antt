-- The bytes shown are right: a consistent test's, those of each state of a list, and that there is only one way to show an assignment. Assumes nothing.
use mathlib.Core.Path.{◌≡◌, refl, sym, ap, ◌∙◌}
use mathlib.Core.Logic.{inl, inr}
use mathlib.Core.Bool.{Bool}
use mathlib.Core.List.{List, [], ◌∷◌, ◌++◌, append_assoc}
use Prim.Native.Nat.{ℕ, zero, suc, ◌+◌, ◌-◌, ◌*◌, ◌≤◌, ◌<◌}
use native.Mathlib.Omega.{arith}
use lib.ListN.{length, get_or, take, drop, replicate, length-append, length-map, length-replicate}
use lib.Seq.{take_at}
use Rattle.model.specs.Lists.{All, in_turn}
use Rattle.model.specs.Sheet.{Plant, edition_of, decision_sizes, sizes}
use Rattle.model.specs.Assignment.{Assignment, Valid, full}
use Rattle.model.specs.Consistency.{consistent, test}
use Rattle.model.specs.Calls.{state_bytes, value_bytes}
use Rattle.theory.specs.BestFirst.{Weak}
use Rattle.theory.specs.Digits.{Lex}
use Rattle.theory.specs.Plant.{Accepted}
use Rattle.theory.specs.Consistency.{VariablesPresent}
use Rattle.theory.specs.Shown.{Shows, Each}
use Rattle.theory.proofs.Value.{edition-few}
use Rattle.theory.proofs.Agreement.{fits_length}
use Rattle.theory.proofs.Lists.{in_turn_length}
use Rattle.theory.proofs.Puts.{drop_past}
use Rattle.theory.proofs.Test.{test-consistent, test-first}

-- ---- two lists, place by place

module _ {A B : Type 0} (R : A → B → Type 0) where
  each_length : (xs : List A) (ys : List B) → Each R xs ys → length ys ≡ length xs
  each_length [] [] h = refl
  each_length [] (y ∷ ys) h = absurd h
  each_length (x ∷ xs) [] h = absurd h
  each_length (x ∷ xs) (y ∷ ys) h = ap suc (each_length xs ys h.1)

  -- one more of each
  pub each_more : (xs : List A) (ys : List B) (x : A) (y : B) → Each R xs ys → R x y → Each R (xs ++ (x ∷ [])) (ys ++ (y ∷ []))
  each_more [] [] x y h r = (r, tt)
  each_more [] (z ∷ ys) x y h r = absurd h
  each_more (z ∷ xs) [] x y h r = absurd h
  each_more (z ∷ xs) (w ∷ ys) x y h r = (h.0, each_more xs ys x y h.1 r)

  each_at : (d : A) (e : B) (xs : List A) (ys : List B) → Each R xs ys → (i : ℕ) → i < length xs → R (get_or xs i d) (get_or ys i e)
  each_at d e [] ys h i l = absurd (omega arith)
  each_at d e (x ∷ xs) [] h i l = absurd h
  each_at d e (x ∷ xs) (y ∷ ys) h zero l = h.0
  each_at d e (x ∷ xs) (y ∷ ys) h (suc i) l = each_at d e xs ys h.1 i (omega arith)

  -- what holds of every second member where R holds
  each-second : (P : B → Type 0) → ((x : A) (y : B) → R x y → P y) → (xs : List A) (ys : List B) → Each R xs ys → All P ys
  each-second P give [] [] h = tt
  each-second P give [] (y ∷ ys) h = absurd h
  each-second P give (x ∷ xs) [] h = absurd h
  each-second P give (x ∷ xs) (y ∷ ys) h = (give x y h.0, each-second P give xs ys h.1)

-- ---- bytes of equal width in turn

-- those of the member at a place, whatever stands behind
in_turn-at : {A : Type 0} (give : A → List ℕ) (w : ℕ) (d : A) (xs : List A) (rest : List ℕ) → All (λ x. length (give x) ≡ w) xs → (i : ℕ) → i < length xs
    → take w (drop (w * i) (in_turn give xs ++ rest)) ≡ give (get_or xs i d)
in_turn-at give w d [] rest h i l = absurd (omega arith)
in_turn-at give w d (x ∷ xs) rest h zero l =
    let none : w * 0 ≡ 0 = omega arith in
    rw (none, append_assoc (give x) (in_turn give xs) rest) (take_at (give x) (in_turn give xs ++ rest) w h.0)
in_turn-at give w d (x ∷ xs) rest h (suc i) l =
    let next : w * suc i ≡ w + w * i = omega arith in
    rw (next, append_assoc (give x) (in_turn give xs) rest, drop_past (give x) (in_turn give xs ++ rest) w (w * i) h.0) (in_turn-at give w d xs rest h.1 i (omega arith))

-- ---- what is shown

module _ (p : Plant) (a : Assignment) where
  -- a consistent test shows the assignment
  pub test-shows : VariablesPresent p → Valid (decision_sizes p) a → (limit used : ℕ) (f : List ℕ) (t : ℕ) → test p limit a used ≡ consistent f t → Shows p a (value_bytes f)
  unfolding value_bytes
  test-shows present valid limit used f t e =
      let s = test-consistent p present limit a valid used f t e in
      record { values = f; satisfies = s; first = test-first p present limit a valid used f t e; are = rw (fits_length (sizes p) f s.fits) }

-- an accepted plant has a byte for each of its variables
pub accepted-few : (w : Bool) (p : Plant) → Accepted (edition_of w) p → length (sizes p) ≤ state_bytes
accepted-few w p ok = omega (arith, length-append (decision_sizes p) p.states, length-map p.costs length, edition-few w p ok, ok.states)

module _ (p : Plant) (few : length (sizes p) ≤ state_bytes) where
  -- an assignment is shown in 48 bytes
  shows_length : (a : Assignment) (bytes : List ℕ) → Shows p a bytes → length bytes ≡ state_bytes
  shows_length a bytes s = ap length s.are ∙ length-append s.values (replicate (state_bytes - length (sizes p)) 0)
      ∙ (omega (arith, fits_length (sizes p) s.values s.satisfies.fits, length-replicate {A = ℕ} (state_bytes - length (sizes p)) 0, few))

  module _ (listed shown : List (List ℕ)) (each : Each (λ f g. Shows p (full f) (value_bytes g)) listed shown) where
    shown-long : All (λ g. length (value_bytes g) ≡ state_bytes) shown
    shown-long = each-second (λ f g. Shows p (full f) (value_bytes g)) (λ g. length (value_bytes g) ≡ state_bytes) (λ f g r. shows_length (full f) (value_bytes g) r) listed shown each

    shown-count : length shown ≡ length listed
    shown-count = each_length (λ f g. Shows p (full f) (value_bytes g)) listed shown each

    -- so many bytes show the states of a list
    pub shown-bytes : length (in_turn value_bytes shown) ≡ state_bytes * length listed
    shown-bytes = in_turn_length value_bytes state_bytes shown shown-long ∙ ap (λ (n : ℕ). state_bytes * n) shown-count

    -- and those of a place show its state, whatever stands behind them all
    pub shown-at : (rest : List ℕ) (i : ℕ) → i < length listed → Shows p (full (get_or listed i [])) (take state_bytes (drop (state_bytes * i) (in_turn value_bytes shown ++ rest)))
    shown-at rest i h =
        rw (in_turn-at value_bytes state_bytes [] shown rest shown-long i (omega (arith, shown-count, h)))
        (each_at (λ f g. Shows p (full f) (value_bytes g)) [] [] listed shown each i h)

module _ (p : Plant) (a : Assignment) where
  -- lists of numbers neither of which comes after the other are one
  lex_both : (xs ys : List ℕ) → Lex xs ys → Lex ys xs → ⊥
  lex_both [] ys l m = l
  lex_both (x ∷ xs) [] l m = l
  lex_both (x ∷ xs) (y ∷ ys) (inl l) (inl m) = omega arith
  lex_both (x ∷ xs) (y ∷ ys) (inl l) (inr m) = omega (arith, m.0)
  lex_both (x ∷ xs) (y ∷ ys) (inr l) (inl m) = omega (arith, l.0)
  lex_both (x ∷ xs) (y ∷ ys) (inr l) (inr m) = lex_both xs ys l.1 m.1

  one-first : (xs ys : List ℕ) → Weak Lex xs ys → Weak Lex ys xs → xs ≡ ys
  one-first xs ys (inl e) m = e
  one-first xs ys (inr l) (inl e) = sym e
  one-first xs ys (inr l) (inr m) = absurd (lex_both xs ys l m)

  -- there is one way to show an assignment
  pub shows-unique : (bytes others : List ℕ) → Shows p a bytes → Shows p a others → bytes ≡ others
  shows-unique bytes others s t =
      let same = one-first s.values t.values (s.first t.values t.satisfies) (t.first s.values s.satisfies) in
      s.are ∙ ap (λ (f : List ℕ). f ++ replicate (state_bytes - length (sizes p)) 0) same ∙ sym t.are
