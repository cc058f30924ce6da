-- Scans: what the first place where a test of the conflicts gives true tells of them, and the first conflict that is unresolved. Assumes nothing.
use mathlib.Core.Path.{◌≡◌, refl, sym, ap, ◌∙◌}
use mathlib.Core.Bool.{Bool, true, false, not, ◌||◌, or_assoc, or-false, or-true}
use mathlib.Core.Logic.{◌⊎◌, inl, inr}
use mathlib.Core.Option.{none, some}
use mathlib.Core.List.{List, [], ◌∷◌}
use Prim.Native.Nat.{ℕ, zero, suc, ◌+◌, ◌-◌, ◌≤◌, ◌<◌}
use native.Mathlib.Omega.{arith}
use native.Mathlib.Numerals.{add-one}
use lib.ListN.{length, get_or, take, drop, take-append-drop}
use lib.Seq.{drop-cons, get_or-take, length-take-le, take-add}
use Rattle.std.proofs.Common.{Option, Some, None, is_some}
use Rattle.std.proofs.lemmas.Bool.{cases_lt, not-true, not-false}
use Rattle.model.specs.Lists.{any_of}
use Rattle.model.specs.Assignment.{Assignment}
use Rattle.model.specs.Conflict.{resolves}
use Rattle.model.specs.Listing.{first_unresolved}
use Rattle.theory.proofs.Lists.{or_neither}
use Rattle.theory.proofs.Search.{any_cons}
use Rattle.theory.proofs.Store.{any_join}
use Rattle.store.specs.Store.{FirstOf}

-- ---- places

-- what holds at each place below a, and at the next four, holds at each below a + 4
four_more : (P : ℕ → Type 0) (a : ℕ) → ((i : ℕ) → i < a → P i) → ((k : ℕ) → k < 4 → P (a + k)) → (i : ℕ) → i < a + 4 → P i
four_more P a below next i h = go (cases_lt i a)
  where
    go : (i < a) ⊎ (a ≤ i) → P i
    go (inl l) = below i l
    go (inr l) = let e : a + (i - a) ≡ i = omega arith in rw e at (next (i - a) (omega arith))

-- and with the four behind them at each below a + 8
pub eight_more : (P : ℕ → Type 0) (a b : ℕ) → b ≡ a + 8 → ((i : ℕ) → i < a → P i) → ((k : ℕ) → k < 4 → P (a + k)) → ((k : ℕ) → k < 4 → P (a + 4 + k)) → (i : ℕ) → i < b → P i
eight_more P a b e below first second i h = four_more P (a + 4) (four_more P a below first) second i (omega arith)

-- a list from a place on is what stands there, and the list from the next place on
from_place : {A : Type 0} (xs : List A) (i : ℕ) (x : A) → i < length xs → drop i xs ≡ get_or xs i x ∷ drop (i + 1) xs
from_place xs i x h = rw (add-one i) (drop-cons xs i x h)

-- ---- whether some member passes a test

module _ {A : Type 0} (test : A → Bool) where
  -- a member of a list passes a test exactly if one of its first n or of the others does
  pub any_split : (n : ℕ) (xs : List A) → any_of test xs ≡ (any_of test (take n xs) || any_of test (drop n xs))
  any_split n xs = ap (any_of test) (sym (take-append-drop n xs)) ∙ any_join test (take n xs) (drop n xs)

  -- where none of the first a passes, nor of the next b, none of the first a + b does
  pub none_further : (xs : List A) (a b : ℕ) → any_of test (take a xs) ≡ false → any_of test (take b (drop a xs)) ≡ false → any_of test (take (a + b) xs) ≡ false
  none_further xs a b e f = rw (take-add a b xs, any_join test (take a xs) (take b (drop a xs)), e) f

  -- where none of the first i passes, nor of the next four and the four behind them, none of the first i + 8 does
  pub none-eight : (xs : List A) (i : ℕ)
      → any_of test (take i xs) ≡ false
      → (any_of test (take 4 (drop i xs)) || any_of test (take 4 (drop (i + 4) xs))) ≡ false
      → any_of test (take (i + 8) xs) ≡ false
  none-eight xs i e f =
      let both = or_neither (any_of test (take 4 (drop i xs))) (any_of test (take 4 (drop (i + 4) xs))) f in
      let eight : i + 4 + 4 ≡ i + 8 = omega arith in
      rw eight at (none_further xs (i + 4) 4 (none_further xs i 4 e both.0) both.1)

  -- of the next n + 1 members one passes if the next does, or one of the n behind it
  any_next : (xs : List A) (x : A) (i j n : ℕ) → i < length xs → i + 1 ≡ j → any_of test (take (suc n) (drop i xs)) ≡ (test (get_or xs i x) || any_of test (take n (drop j xs)))
  any_next xs x i j n h e = rw (← e, from_place xs i x h) (any_cons test (get_or xs i x) (take n (drop (i + 1) xs)))

  -- of the next member alone one passes if it does
  pub any_one : (xs : List A) (x : A) (i : ℕ) → i < length xs → any_of test (take 1 (drop i xs)) ≡ test (get_or xs i x)
  any_one xs x i h = any_next xs x i (i + 1) 0 h refl ∙ or-false (test (get_or xs i x))

  -- of the next four members one passes if one of the four does
  pub any_four : (xs : List A) (x : A) (i : ℕ) → i + 4 ≤ length xs
      → any_of test (take 4 (drop i xs)) ≡ (test (get_or xs i x) || test (get_or xs (i + 1) x) || test (get_or xs (i + 2) x) || test (get_or xs (i + 3) x))
  any_four xs x i h =
      any_next xs x i (i + 1) 3 (omega arith) refl
      ∙ rw (
        any_next xs x (i + 1) (i + 2) 2 (omega arith) (omega arith),
        any_next xs x (i + 2) (i + 3) 1 (omega arith) (omega arith),
        any_one xs x (i + 3) (omega arith),
      ) (simp or_assoc)

  -- where the member at a place passes, one does
  pub any_here : (xs : List A) (x : A) (i : ℕ) → i < length xs → test (get_or xs i x) ≡ true → any_of test xs ≡ true
  any_here xs x i h e = any_split i xs ∙ rw (any_split 1 (drop i xs), any_one xs x i h, e) (or-true (any_of test (take i xs)))

  -- where none passes at any place, none does
  none_anywhere : (xs : List A) (x : A) → ((i : ℕ) → i < length xs → test (get_or xs i x) ≡ false) → any_of test xs ≡ false
  none_anywhere [] x f = refl
  none_anywhere (y ∷ ys) x f = rw (any_of, f 0 (omega arith)) (none_anywhere ys x (λ i h. f (suc i) (omega arith)))

-- ---- the first place where a test of the conflicts gives true

module _ (test : Assignment → Bool) (conflicts : List Assignment) (m : ℕ) (count : length conflicts ≡ m) {gives : ℕ → Bool → Type 0}
    (tells : (i : ℕ) (r : Bool) → i < m → gives i r → r ≡ test (get_or conflicts i [])) where
  -- no conflict before that place passes, and the one there does
  pub found_at : (at : ℕ) → FirstOf m gives (Some at) → (any_of test (take at conflicts) ≡ false) × (test (get_or conflicts at []) ≡ true)
  found_at at f = (
    none_anywhere test (take at conflicts) [] (λ i l.
        let inside : i < at = omega (arith, length-take-le at conflicts (omega (arith, count, f.there.0))) in
        rw (get_or-take at conflicts i [] inside) (sym (tells i false (omega (arith, f.there.0)) (f.before i inside)))),
    sym (tells at true f.there.0 f.there.1),
  )

  -- where it gives false at each place none passes
  pub none_of_all : FirstOf m gives None → any_of test conflicts ≡ false
  none_of_all f = none_anywhere test conflicts [] (λ i l. sym (tells i false (omega (arith, count)) (f.before i (omega (arith, count)))))

  -- some conflict passes exactly if there is such a place
  pub some_of_all : (found : Option ℕ) → FirstOf m gives found → is_some found ≡ any_of test conflicts
  some_of_all None f = sym (none_of_all f)
  some_of_all (Some at) f = sym (any_here test conflicts [] at (omega (arith, count, f.there.0)) (found_at at f).1)

-- ---- the first unresolved conflict

-- a conflict is the first if those before it are resolved
unresolved-at : (cs : List Assignment) (n : Assignment) (i : ℕ) → i < length cs → ((j : ℕ) → j < i → resolves n (get_or cs j []) ≡ true) → resolves n (get_or cs i []) ≡ false
    → first_unresolved cs n ≡ some (get_or cs i [])
unresolved-at [] n i h before e = absurd (omega arith)
unresolved-at (c ∷ cs) n zero h before e = rw (first_unresolved, e)
unresolved-at (c ∷ cs) n (suc i) h before e = rw (first_unresolved, before 0 (omega arith)) (unresolved-at cs n i (omega arith) (λ j l. before (suc j) (omega arith)) e)

-- there is none if all are resolved
unresolved-none : (cs : List Assignment) (n : Assignment) → ((j : ℕ) → j < length cs → resolves n (get_or cs j []) ≡ true) → first_unresolved cs n ≡ none
unresolved-none [] n all = refl
unresolved-none (c ∷ cs) n all = rw (first_unresolved, all 0 (omega arith)) (unresolved-none cs n (λ j l. all (suc j) (omega arith)))

module _ (n : Assignment) (conflicts : List Assignment) (m : ℕ) (count : length conflicts ≡ m) {gives : ℕ → Bool → Type 0}
    (tells : (i : ℕ) (r : Bool) → i < m → gives i r → r ≡ not (resolves n (get_or conflicts i []))) where
  -- it is the one at the first place where a test that is not to be resolved gives true
  pub found-unresolved : (i : ℕ) → FirstOf m gives (Some i) → first_unresolved conflicts n ≡ some (get_or conflicts i [])
  found-unresolved i f = unresolved-at conflicts n i (omega (arith, count, f.there.0))
      (λ j l. not-false (resolves n (get_or conflicts j [])) (sym (tells j false (omega (arith, f.there.0)) (f.before j l)))) (not-true (resolves n (get_or conflicts i [])) (sym (tells i true f.there.0 f.there.1)))

  -- and there is none where it gives false at each
  pub all-resolved : FirstOf m gives None → first_unresolved conflicts n ≡ none
  all-resolved f = unresolved-none conflicts n (λ j l. not-false (resolves n (get_or conflicts j [])) (sym (tells j false (omega (arith, count)) (f.before j (omega (arith, count))))))
