-- The invariants of the two loops that move an entry v through the queue, which hold v back and leave its place i open: the list in which v stands at i is the one that the heap's laws speak of. Assumes nothing.
use mathlib.Core.List.{List, ◌∷◌}
use mathlib.Core.Path.{◌≡◌, refl, sym, ap, ◌∙◌}
use Prim.Native.Nat.{ℕ, ◌+◌, ◌*◌, ◌≤◌, ◌<◌}
use native.Mathlib.Omega.{arith}
use native.Mathlib.Numerals.{add-one}
use lib.ListN.{length, set, take, length-set}
use lib.Seq.{get_or-set_same, get_or-set_other, set-set, set_comm, take-set-le}
use Rattle.queue.specs.Order.{Item, Due}
use Rattle.queue.specs.Entries.{Same}
use Rattle.queue.specs.Inside.{nth, Child, HeapFrom, LesserChild}
use Rattle.queue.proofs.OrderLaws.{due_trans}
use Rattle.queue.proofs.SumLaws.{swapped, swap-same, last-first}
use Rattle.queue.proofs.HeapLaws.{due-by, Down, down-start, down_step, down-end, Up, up_start, up_step, up-end}

-- to copy the entry of m to the open place i, and leave m open, is to swap v and that entry
move_swaps : (xs : List Item) (i m : ℕ) (v : Item) → (m ≡ i → ⊥) → i < length xs → set (set xs i (nth xs m)) m v ≡ swapped (set xs i v) i m
unfolding swapped
move_swaps xs i m v ne h = rw (get_or-set_same xs i v (0, 0) h, get_or-set_other xs i m v (0, 0) ne, set-set xs i v (nth xs m))

-- the two places of a swap may change names
swapped_comm : (xs : List Item) (i m : ℕ) → (m ≡ i → ⊥) → swapped xs i m ≡ swapped xs m i
unfolding swapped
swapped_comm xs i m ne = set_comm xs i m (nth xs m) (nth xs i) (omega arith)

-- v goes down from place s among n entries: `old` is the queue at the start, xs the queue now
pub record Sinking (s n : ℕ) (v : Item) (old xs : List Item) (i : ℕ) : Type 0 where
  pub below : s ≤ i
  pub within : i < n
  pub room : n ≤ length xs
  pub order : Down s n i (set xs i v)
  pub same : Same (take n (set old s v)) (take n (set xs i v))

-- it starts at s, where all below is in order
pub sink_start : (s n : ℕ) (v : Item) (xs : List Item) → s < n → n ≤ length xs → HeapFrom (s + 1) n xs → Sinking s n v xs xs s
sink_start s n v xs h k heap = record {
  below = omega arith;
  within = h;
  room = k;
  order = down-start s n xs v heap;
  same = λ w. refl;
}

module _ {s n : ℕ} {v : Item} {old xs : List Item} {i : ℕ} (inv : Sinking s n v old xs i) where
  -- v is the entry at i
  held : nth (set xs i v) i ≡ v
  held = get_or-set_same xs i v (0, 0) (omega arith)

  -- a child of the open place has its entry still
  child-kept : (c : ℕ) → Child i c → nth (set xs i v) c ≡ nth xs c
  child-kept c h = get_or-set_other xs i c v (0, 0) (omega arith)

  -- so the lesser child is what it was
  lesser_kept : {m : ℕ} → LesserChild n i xs m → LesserChild n i (set xs i v) m
  lesser_kept {m} child = record {
    child = child.child;
    within = child.within;
    least = λ c h k. due-by (child-kept m child.child) (child-kept c h) (child.least c h k);
  }

  -- the lesser child's entry goes up to i
  pub sink_step : {m : ℕ} → LesserChild n i xs m → Due (nth xs m) v → Sinking s n v old (set xs i (nth xs m)) m
  sink_step {m} child due =
      let long : n ≤ length (set xs i v) = simp length-set (omega arith) in
      record {
        below = omega arith;
        within = child.within;
        room = simp length-set (omega arith);
        order = rw (move_swaps xs i m v (omega arith) (omega arith)) (down_step inv.below long inv.order (lesser_kept child) (due-by (child-kept m child.child) held due));
        same = λ w. inv.same w ∙ rw (move_swaps xs i m v (omega arith) (omega arith)) (swap-same (set xs i v) n i m (omega arith) child.within (omega arith) w);
      }

  -- v stays at i, which has no children
  pub sink_bottom : n ≤ 2 * i + 1 → HeapFrom s n (set xs i v)
  sink_bottom h = down-end inv.order (λ c k l. absurd (omega arith))

  -- v stays at i, due no later than the lesser child
  pub sink_stop : {m : ℕ} → LesserChild n i xs m → Due v (nth xs m) → HeapFrom s n (set xs i v)
  sink_stop {m} child due = down-end inv.order (λ c k l. due-by held (child-kept c k) (due_trans v (nth xs m) (nth xs c) due (child.least c k l)))

-- v goes up from place n, behind n entries: `old` is the queue at the start, xs the queue now
pub record Rising (n : ℕ) (v : Item) (old xs : List Item) (i : ℕ) : Type 0 where
  pub within : i ≤ n
  pub room : n < length xs
  pub order : Up (n + 1) i (set xs i v)
  pub same : Same (v ∷ take n old) (take (n + 1) (set xs i v))

-- it starts at the first free place
pub rise_start : (n : ℕ) (v : Item) (xs : List Item) → n < length xs → HeapFrom 0 n xs → Rising n v xs xs n
rise_start n v xs h heap = record {
  within = omega arith;
  room = h;
  order = up_start n xs v heap;
  same = λ w. rw (add-one n) (sym (rw (get_or-set_same xs n v (0, 0) h, take-set-le n xs n v (omega arith)) at (last-first (set xs n v) n (simp length-set h) w)));
}

module _ {n : ℕ} {v : Item} {old xs : List Item} {i : ℕ} (inv : Rising n v old xs i) where
  -- v is the entry at i
  raised : nth (set xs i v) i ≡ v
  raised = get_or-set_same xs i v (0, 0) (omega arith)

  -- the place above the open place has its entry still
  above_kept : (p : ℕ) → Child p i → nth (set xs i v) p ≡ nth xs p
  above_kept p h = get_or-set_other xs i p v (0, 0) (omega arith)

  -- the entry above goes down to i
  pub rise_step : (p : ℕ) → Child p i → Due v (nth xs p) → Rising n v old (set xs i (nth xs p)) p
  rise_step p above due =
      let long : n + 1 ≤ length (set xs i v) = simp length-set (omega arith) in
      let swaps : set (set xs i (nth xs p)) p v ≡ swapped (set xs i v) p i = move_swaps xs i p v (omega arith) (omega arith) ∙ swapped_comm (set xs i v) i p (omega arith) in
      record {
        within = omega arith;
        room = simp length-set (omega arith);
        order = rw swaps (up_step p long (omega arith) above inv.order (due-by raised (above_kept p above) due));
        same = λ w. inv.same w ∙ rw swaps (swap-same (set xs i v) (n + 1) p i (omega arith) (omega arith) (omega arith) w);
      }

  -- v stays at the first place
  pub rise_top : i ≤ 0 → HeapFrom 0 (n + 1) (set xs i v)
  rise_top h = up-end inv.order (λ p k. absurd (omega arith))

  -- v stays at i, due no earlier than the entry above
  pub rise_stop : (p : ℕ) → Child p i → Due (nth xs p) v → HeapFrom 0 (n + 1) (set xs i v)
  rise_stop p above due = up-end inv.order (λ q k. let same : q ≡ p = omega arith in due-by (ap (nth (set xs i v)) same ∙ above_kept p above) raised due)
