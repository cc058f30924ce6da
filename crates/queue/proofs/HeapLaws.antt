-- The laws of a heap over lists of entries: what holds while an entry goes down or up, place by place, and that the first entry is due first.
-- Of the order they use only the laws of OrderLaws.antt. Assumes nothing.
use mathlib.Core.Bool.{Bool, true, false}
use mathlib.Core.List.{List}
use mathlib.Core.Path.{◌≡◌, refl, sym, ap, ◌∙◌}
use Prim.Native.Nat.{ℕ, zero, suc, ◌+◌, ◌-◌, ◌*◌, ◌/◌, ◌≤◌, ◌<◌}
use native.Mathlib.Omega.{arith}
use native.Mathlib.Decide.{ℕ_discrete}
use lib.ListN.{length, set, take, length-set}
use lib.Seq.{get_or-set_same, get_or-set_other}
use mir.Val.{bool_byte}
use Rattle.model.specs.Lists.{All}
use Rattle.queue.specs.Order.{Item, comes_before, Due}
use Rattle.queue.specs.Inside.{nth, Child, HeapFrom, LesserChild}
use Rattle.queue.proofs.OrderLaws.{due_refl, due_trans, due-before}
use Rattle.queue.proofs.SumLaws.{swapped, all_of}

-- `Due` between equal entries
pub due-by : {x y u w : Item} → x ≡ u → y ≡ w → Due u w → Due x y
due-by e f h = rw (e, f) h

-- After a swap: what stands at its two places, and elsewhere.
module _ (xs : List Item) (p c : ℕ) where
  -- the entry of c stands at p
  swapped-upper : p < c → c < length xs → nth (swapped xs p c) p ≡ nth xs c
  unfolding swapped
  swapped-upper h k = get_or-set_other (set xs p (nth xs c)) c p (nth xs p) (0, 0) (omega arith) ∙ get_or-set_same xs p (nth xs c) (0, 0) (omega arith)

  -- the entry of p stands at c
  swapped-lower : c < length xs → nth (swapped xs p c) c ≡ nth xs p
  unfolding swapped
  swapped-lower k = get_or-set_same (set xs p (nth xs c)) c (nth xs p) (0, 0) (simp length-set (omega arith))

  -- every other entry stands where it stood
  swapped_other : (i : ℕ) → (i ≡ p → ⊥) → (i ≡ c → ⊥) → nth (swapped xs p c) i ≡ nth xs i
  unfolding swapped
  swapped_other i h k = get_or-set_other (set xs p (nth xs c)) c i (nth xs p) (0, 0) k ∙ get_or-set_other xs p i (nth xs c) (0, 0) h

-- An entry goes down from place s, and stands at i: every other place from s on is in order with its children, and the place above i with the children of i.
pub record Down (s n i : ℕ) (xs : List Item) : Type 0 where
  pub others : (p c : ℕ) → s ≤ p → (p ≡ i → ⊥) → Child p c → c < n → Due (nth xs p) (nth xs c)
  pub across : (p c : ℕ) → s ≤ p → Child p i → Child i c → c < n → Due (nth xs p) (nth xs c)

-- it starts at s, where all below is in order
pub down-start : (s n : ℕ) (xs : List Item) (v : Item) → HeapFrom (s + 1) n xs → Down s n s (set xs s v)
unfolding HeapFrom
down-start s n xs v h = record {
  others = λ p c l ne k m. due-by (get_or-set_other xs s p v (0, 0) ne) (get_or-set_other xs s c v (0, 0) (omega arith)) (h p c (omega arith) k m);
  across = λ p c l k j m. absurd (omega arith);
}

-- It goes to the child m of i that is due first, and no later than the entry.
module _ {s n i m : ℕ} {xs : List Item} (below : s ≤ i) (room : n ≤ length xs) (inv : Down s n i xs) (child : LesserChild n i xs m) (due : Due (nth xs m) (nth xs i)) where
  -- the child's entry stands at i
  down-upper : nth (swapped xs i m) i ≡ nth xs m
  down-upper = swapped-upper xs i m (omega arith) (omega arith)

  -- the entry stands at m
  down-lower : nth (swapped xs i m) m ≡ nth xs i
  down-lower = swapped-lower xs i m (omega arith)

  -- a place other than m is in order: i because its lesser child went up, the place above i by `across`, the rest as it was
  down-others : (p c : ℕ) → s ≤ p → (p ≡ m → ⊥) → Child p c → c < n → Dec (p ≡ i) → Dec (c ≡ m) → Dec (c ≡ i) → Due (nth (swapped xs i m) p) (nth (swapped xs i m) c)
  down-others p c l ne k j (yes e) (yes f) g = due-by (ap (nth (swapped xs i m)) e ∙ down-upper) (ap (nth (swapped xs i m)) f ∙ down-lower) due
  down-others p c l ne k j (yes e) (no f) g = due-by (ap (nth (swapped xs i m)) e ∙ down-upper) (swapped_other xs i m c (omega arith) f) (child.least c (omega arith) j)
  down-others p c l ne k j (no e) f (yes g) = due-by (swapped_other xs i m p e ne) (ap (nth (swapped xs i m)) g ∙ down-upper) (inv.across p m l (omega arith) child.child child.within)
  down-others p c l ne k j (no e) f (no g) = due-by (swapped_other xs i m p e ne) (swapped_other xs i m c g (omega arith)) (inv.others p c l e k j)

  -- i is in order with the children of m, which were in order with m
  down-across : (p c : ℕ) → s ≤ p → Child p m → Child m c → c < n → Due (nth (swapped xs i m) p) (nth (swapped xs i m) c)
  down-across p c l k k' j =
      let e : p ≡ i = omega arith in
      due-by (ap (nth (swapped xs i m)) e ∙ down-upper) (swapped_other xs i m c (omega arith) (omega arith)) (inv.others m c (omega arith) (omega arith) k' j)

  -- so the step keeps the invariant
  pub down_step : Down s n m (swapped xs i m)
  down_step = record {
    others = λ p c l ne k j. down-others p c l ne k j (ℕ_discrete p i) (ℕ_discrete c m) (ℕ_discrete c i);
    across = down-across;
  }

-- it stays at i, in order with the children of i
pub down-end : {s n i : ℕ} {xs : List Item} → Down s n i xs → ((c : ℕ) → Child i c → c < n → Due (nth xs i) (nth xs c)) → HeapFrom s n xs
unfolding HeapFrom
down-end {i} {xs} inv h p c l k j = go (ℕ_discrete p i)
  where
    go : Dec (p ≡ i) → Due (nth xs p) (nth xs c)
    go (yes e) = due-by (ap (nth xs) e) refl (h c (omega arith) j)
    go (no e) = inv.others p c l e k j

-- An entry goes up to place i: every other place is in order with the place above it, and the children of i with the place above i.
pub record Up (n i : ℕ) (xs : List Item) : Type 0 where
  pub others : (p c : ℕ) → (c ≡ i → ⊥) → Child p c → c < n → Due (nth xs p) (nth xs c)
  pub across : (p c : ℕ) → Child p i → Child i c → c < n → Due (nth xs p) (nth xs c)

-- it starts at the first free place
pub up_start : (n : ℕ) (xs : List Item) (v : Item) → HeapFrom 0 n xs → Up (n + 1) n (set xs n v)
unfolding HeapFrom
up_start n xs v h = record {
  others = λ p c ne k m. due-by (get_or-set_other xs n p v (0, 0) (omega arith)) (get_or-set_other xs n c v (0, 0) ne) (h p c (omega arith) k (omega arith));
  across = λ p c k j m. absurd (omega arith);
}

-- It goes to the place p above i, whose entry is due no earlier.
module _ {n i : ℕ} {xs : List Item} (p : ℕ) (room : n ≤ length xs) (within : i < n) (above : Child p i) (inv : Up n i xs) (due : Due (nth xs i) (nth xs p)) where
  -- the entry stands at p
  up-upper : nth (swapped xs p i) p ≡ nth xs i
  up-upper = swapped-upper xs p i (omega arith) (omega arith)

  -- the entry of p stands at i
  up-lower : nth (swapped xs p i) i ≡ nth xs p
  up-lower = swapped-lower xs p i (omega arith)

  -- a place other than p is in order: i because the entry went up, its sibling by the order's law, the children of i by `across`, the rest as it was
  up-others : (q c : ℕ) → (c ≡ p → ⊥) → Child q c → c < n → Dec (c ≡ i) → Dec (q ≡ p) → Dec (q ≡ i) → Due (nth (swapped xs p i) q) (nth (swapped xs p i) c)
  up-others q c ne k j (yes e) f g =
      let same : q ≡ p = omega arith in
      due-by (ap (nth (swapped xs p i)) same ∙ up-upper) (ap (nth (swapped xs p i)) e ∙ up-lower) due
  up-others q c ne k j (no e) (yes f) g =
      due-by (ap (nth (swapped xs p i)) f ∙ up-upper) (swapped_other xs p i c ne e) (due_trans (nth xs i) (nth xs p) (nth xs c) due (inv.others p c e (omega arith) j))
  up-others q c ne k j (no e) (no f) (yes g) = due-by (ap (nth (swapped xs p i)) g ∙ up-lower) (swapped_other xs p i c ne e) (inv.across p c above (omega arith) j)
  up-others q c ne k j (no e) (no f) (no g) = due-by (swapped_other xs p i q f g) (swapped_other xs p i c ne e) (inv.others q c e k j)

  -- the place above p is in order with the children of p
  up-across : (q c : ℕ) → Child q p → Child p c → c < n → Dec (c ≡ i) → Due (nth (swapped xs p i) q) (nth (swapped xs p i) c)
  up-across q c k k' j (yes e) = due-by (swapped_other xs p i q (omega arith) (omega arith)) (ap (nth (swapped xs p i)) e ∙ up-lower) (inv.others q p (omega arith) k (omega arith))
  up-across q c k k' j (no e) =
      due-by (swapped_other xs p i q (omega arith) (omega arith)) (swapped_other xs p i c (omega arith) e)
      (due_trans (nth xs q) (nth xs p) (nth xs c) (inv.others q p (omega arith) k (omega arith)) (inv.others p c e k' j))

  -- so the step keeps the invariant
  pub up_step : Up n p (swapped xs p i)
  up_step = record {
    others = λ q c ne k j. up-others q c ne k j (ℕ_discrete c i) (ℕ_discrete q p) (ℕ_discrete q i);
    across = λ q c k k' j. up-across q c k k' j (ℕ_discrete c i);
  }

-- it stays at i, in order with the place above
pub up-end : {n i : ℕ} {xs : List Item} → Up n i xs → ((p : ℕ) → Child p i → Due (nth xs p) (nth xs i)) → HeapFrom 0 n xs
unfolding HeapFrom
up-end {i} {xs} inv h p c l k j = go (ℕ_discrete c i)
  where
    go : Dec (c ≡ i) → Due (nth xs p) (nth xs c)
    go (yes e) = due-by refl (ap (nth xs) e) (h p (omega arith))
    go (no e) = inv.others p c e k j

-- the first entry is due first: each entry is due no earlier than the one above it
pub first-least : (n : ℕ) (xs : List Item) → HeapFrom 0 n xs → (fuel i : ℕ) → i ≤ fuel → i < n → Due (nth xs 0) (nth xs i)
unfolding HeapFrom
first-least n xs h zero i l k = let e : i ≡ 0 = omega arith in due-by refl (ap (nth xs) e) (due_refl (nth xs 0))
first-least n xs h (suc fuel) i l k = go (ℕ_discrete i 0) (λ m q. first-least n xs h fuel ((i - 1) / 2) m q)
  where
    go : Dec (i ≡ 0) → ((i - 1) / 2 ≤ fuel → (i - 1) / 2 < n → Due (nth xs 0) (nth xs ((i - 1) / 2))) → Due (nth xs 0) (nth xs i)
    go (yes e) rec = due-by refl (ap (nth xs) e) (due_refl (nth xs 0))
    go (no e) rec = due_trans (nth xs 0) (nth xs ((i - 1) / 2)) (nth xs i) (rec (omega arith) (omega arith)) (h ((i - 1) / 2) i (omega arith) (omega arith, omega arith) k)

-- The child r of i is due first.
module _ {n i : ℕ} {xs : List Item} {r : ℕ} (child : Child i r) (within : r < n) where
  -- it is the only one
  pub only_child : n ≤ r + 1 → r ≤ 2 * i + 1 → LesserChild n i xs r
  only_child h k = record { child = child; within = within; least = λ c l m. let e : c ≡ r = omega arith in due-by refl (ap (nth xs) e) (due_refl (nth xs r)) }

  -- it is due no later than the other, o
  pub lesser_of_two : (o : ℕ) → Child i o → (o ≡ r → ⊥) → Due (nth xs r) (nth xs o) → LesserChild n i xs r
  lesser_of_two o other ne due = record { child = child; within = within; least = λ c l m. go c l (ℕ_discrete c r) }
    where
      go : (c : ℕ) → Child i c → Dec (c ≡ r) → Due (nth xs r) (nth xs c)
      go c l (yes e) = due-by refl (ap (nth xs) e) (due_refl (nth xs r))
      go c l (no e) = let same : c ≡ o = omega arith in due-by refl (ap (nth xs) same) due

-- the same of all entries
pub all_first : (n : ℕ) (xs : List Item) → HeapFrom 0 n xs → All (λ e. Due (nth xs 0) e) (take n xs)
all_first n xs h = all_of (λ e. Due (nth xs 0) e) xs n (λ i k. first-least n xs h i i (omega arith) k)

-- what is in order is so from a later place on, and for fewer entries
pub heap-part : (s n s' n' : ℕ) (xs : List Item) → s ≤ s' → n' ≤ n → HeapFrom s n xs → HeapFrom s' n' xs
unfolding HeapFrom
heap-part s n s' n' xs l m h p c k j q = h p c (omega arith) j (omega arith)

-- a place in the second half has no children
pub leaves : (n s : ℕ) (xs : List Item) → n ≤ 2 * s + 1 → HeapFrom s n xs
unfolding HeapFrom
leaves n s xs h p c k j q = absurd (omega arith)

-- of the two children of i, the test picks the one that is due first
pub lesser_by : (n i : ℕ) (xs : List Item) (x y : Item) (later : Bool) → 2 * i + 1 + 1 < n → nth xs (2 * i + 1) ≡ x → nth xs (2 * i + 1 + 1) ≡ y → later ≡ comes_before y x → LesserChild n i xs (2 * i + 1 + bool_byte later)
lesser_by n i xs x y true h e f t = lesser_of_two {r = 2 * i + 1 + 1} (omega arith) h (2 * i + 1) (omega arith) (omega arith) (due-by f e (due-before y x (sym t)))
lesser_by n i xs x y false h e f t =
    let same : 2 * i + 1 + 0 ≡ 2 * i + 1 = omega arith in
    lesser_of_two {r = 2 * i + 1 + 0} (omega arith) (omega arith) (2 * i + 1 + 1) (omega arith) (omega arith) (due-by (ap (nth xs) same ∙ e) f (sym t))

-- a test counts for at most one
pub byte_small : (b : Bool) → bool_byte b ≤ 1
byte_small true = omega arith
byte_small false = omega arith
