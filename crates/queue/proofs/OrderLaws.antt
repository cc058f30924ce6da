-- The laws of the order of entries, which with `suits_keyed` of EntryLaws are all that the other proofs use of it: `due_refl`, `due_trans`, `due-before`. Assumes nothing.
use mathlib.Core.Path.{◌≡◌, refl, sym}
use mathlib.Core.Logic.{◌⊎◌, inl, inr}
use mathlib.Core.Bool.{Bool, true, false, ◌&&◌, ◌||◌, false≢true}
use Prim.Native.Nat.{◌≤◌, ◌<◌}
use native.Mathlib.Omega.{arith}
use lib.Dec.{ltb, eqb}
use borrow.Author.Tests.{ltb-true, ltb-false, eqb-true, eqb-false, le-ltb, eq-eqb, ne_eqb}
use Rattle.queue.specs.Order.{Item, comes_before, Due}

-- x does not come before y: the figures decide, or are equal and the codes do
NotBefore : Item → Item → Type 0
NotBefore x y = (y.0 < x.0) ⊎ ((y.0 ≡ x.0) × (y.1 ≤ x.1))

module _ (x y : Item) where
  -- the test that is false is such a fact
  read-false : comes_before x y ≡ false → NotBefore x y
  unfolding comes_before NotBefore
  read-false = go (ltb x.0 y.0) (eqb x.0 y.0) (ltb x.1 y.1) refl refl refl
    where
      go : (s t u : Bool) → ltb x.0 y.0 ≡ s → eqb x.0 y.0 ≡ t → ltb x.1 y.1 ≡ u → (s || (t && u)) ≡ false → NotBefore x y
      go true t u p q r e = absurd (false≢true (sym e))
      go false true true p q r e = absurd (false≢true (sym e))
      go false true false p q r e = inr (sym (eqb-true _ _ q), ltb-false _ _ r)
      go false false u p q r e =
          let h : y.0 ≤ x.0 = ltb-false _ _ p in
          let k : x.0 ≡ y.0 → ⊥ = eqb-false _ _ q in
          inl (omega arith)

  -- the test that is true is such a fact the other way round
  read-true : comes_before x y ≡ true → NotBefore y x
  unfolding comes_before NotBefore
  read-true = go (ltb x.0 y.0) (eqb x.0 y.0) (ltb x.1 y.1) refl refl refl
    where
      go : (s t u : Bool) → ltb x.0 y.0 ≡ s → eqb x.0 y.0 ≡ t → ltb x.1 y.1 ≡ u → (s || (t && u)) ≡ true → NotBefore y x
      go true t u p q r e = inl (ltb-true _ _ p)
      go false true true p q r e =
          let h : x.1 < y.1 = ltb-true _ _ r in
          inr (eqb-true _ _ q, omega arith)
      go false true false p q r e = absurd (false≢true e)
      go false false u p q r e = absurd (false≢true e)

  -- and such a fact makes the test false
  make_false : NotBefore x y → comes_before x y ≡ false
  unfolding comes_before NotBefore
  make_false (inl h) = rw (le-ltb x.0 y.0 (omega arith), ne_eqb x.0 y.0 (omega arith))
  make_false (inr h) = rw (le-ltb x.0 y.0 (omega arith), le-ltb x.1 y.1 h.1, eq-eqb x.0 y.0 (sym h.0))

-- an entry is due no later than itself
pub due_refl : (x : Item) → Due x x
unfolding NotBefore
due_refl x = make_false x x (inr (refl, omega arith))

-- what is due no later than what is due no later than a third is due no later than the third
pub due_trans : (x y z : Item) → Due x y → Due y z → Due x z
unfolding NotBefore
due_trans x y z h k = make_false z x (go (read-false y x h) (read-false z y k))
  where
    go : NotBefore y x → NotBefore z y → NotBefore z x
    go (inl p) (inl q) = inl (omega arith)
    go (inl p) (inr q) = inl (omega arith)
    go (inr p) (inl q) = inl (omega arith)
    go (inr p) (inr q) = inr (omega arith, omega arith)

-- what comes before another is due no later
pub due-before : (x y : Item) → comes_before x y ≡ true → Due x y
due-before x y h = make_false y x (read-true x y h)
