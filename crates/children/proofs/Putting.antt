-- Children put into the queue one after another: what is known after each, and that the whole is what the model puts there. Assumes nothing.
use mathlib.Core.Path.{◌≡◌, refl, sym, ap, ◌∙◌}
use mathlib.Core.Bool.{Bool, true, false, not, false≢true}
use mathlib.Core.Option.{some}
use mathlib.Core.List.{List, [], ◌∷◌, ◌++◌, map-append}
use Prim.Native.Nat.{ℕ, suc, ◌+◌, ◌-◌, ◌*◌, ◌/◌, ◌≤◌, ◌<◌}
use native.Mathlib.Omega.{arith}
use lib.Dec.{eqb}
use lib.ListN.{length, set, length-append, length-map}
use borrow.Author.Tests.{ltb-true, ltb-false, lt-ltb, le-ltb, eq-eqb, ne_eqb}
use Rattle.std.specs.Option.{option_eq}
use Rattle.std.proofs.lemmas.Bool.{eqb-true}
use Rattle.std.proofs.Common.{Option, Some, None, Result, Ok, Err}
use Rattle.model.specs.Lists.{place_all, keep, values_from}
use Rattle.model.specs.Sheet.{Plant, edition_of, decision_sizes}
use Rattle.model.specs.Assignment.{Assignment}
use Rattle.model.specs.Order.{Order, order_of}
use Rattle.model.specs.Listing.{manifests_any, enqueue, enqueue_all, leave_off}
use Rattle.theory.specs.Words.{Wide}
use Rattle.theory.proofs.Lists.{sum-join}
use Rattle.theory.proofs.Agreement.{valid_length}
use Rattle.theory.proofs.Queue.{enqueue_all_length, enqueue_all-sum}
use Rattle.theory.proofs.Children.{keep_join, values_join}
use Rattle.store.specs.Store.{Keeps}
use Rattle.queue.specs.Queue.{Holds}
use Rattle.queue.proofs.Callers.{holds_reordered}
use Rattle.children.specs.Children.{NodeIs, Step, PutOf, Puts, variants}
use Rattle.children.specs.declared.Node.{Node}
use Rattle.children.specs.declared.Full.{Full}

-- ---- one child

module _ {weighed : Bool} {node : Node} {queue : List ℕ} {n : ℕ} {store : List ℕ} {m : ℕ} (s : Step weighed node queue n store m) where
  -- the store's answer for the node's widened words is the model's for the node
  pub told : {wide values : ℕ} {r : Bool} → ((w : Bool) (p : Plant) (a : Assignment) → NodeIs w p a node → Wide a wide values)
      → ((d : ℕ) (conflicts : List Assignment) (a : Assignment) → Keeps d store m conflicts → Wide a wide values → length a ≡ d → r ≡ manifests_any conflicts a)
      → r ≡ manifests_any s.conflicts s.parent
  told are answer = answer (length s.plant.costs) s.conflicts s.parent s.keeps (are weighed s.plant s.parent s.is)
      (valid_length (decision_sizes s.plant) s.parent s.is.valid ∙ length-map s.plant.costs length)

  -- no children
  pub put-nothing : Puts s [] queue (Ok n)
  unfolding PutOf place_all
  put-nothing = (le-ltb (length queue / 2) (length s.rest + 0) (omega (arith, s.room, s.holds.count)), omega (arith, s.holds.count), s.holds)

  -- a child that manifests a stored conflict
  pub put-left-off : manifests_any s.conflicts s.parent ≡ true → Puts s (s.parent ∷ []) queue (Ok n)
  unfolding PutOf
  put-left-off e = rw e put-nothing

  -- one for which there is no free entry
  pub put_full : (after : List ℕ) {full : Full} → manifests_any s.conflicts s.parent ≡ false → length queue / 2 ≤ n → Puts s (s.parent ∷ []) after (Err full)
  unfolding PutOf
  put_full after e h = rw e (lt-ltb (length queue / 2) (length s.rest + 1) (omega (arith, s.holds.count)))

  -- one that is put in
  pub put_in : (after : List ℕ) → manifests_any s.conflicts s.parent ≡ false → n < length queue / 2
      → Holds (order_of (edition_of weighed) s.plant) (n + 1) after (enqueue (order_of (edition_of weighed) s.plant) s.parent s.rest) → Puts s (s.parent ∷ []) after (Ok (n + 1))
  unfolding PutOf place_all
  put_in after e l h = rw e (le-ltb (length queue / 2) (length s.rest + 1) (omega (arith, s.holds.count)), omega (arith, s.holds.count), h)

  -- ---- one after another

  -- what the words stand for with another node
  abbrev pub instead : (child : Assignment) (next : Node) → NodeIs weighed s.plant child next → Step weighed next queue n store m
  instead child next i = record {
    plant = s.plant;
    parent = child;
    conflicts = s.conflicts;
    rest = s.rest;
    is = i;
    keeps = s.keeps;
    holds = s.holds;
    room = s.room;
  }

  module _ (made : List Assignment) (after : List ℕ) (k : ℕ) (e : length after ≡ length queue) (h : Puts s made after (Ok k)) where
    -- the queue after children have been put in
    abbrev queued : List Assignment
    queued = enqueue_all (order_of (edition_of weighed) s.plant) (leave_off s.conflicts made) s.rest

    -- which the words hold
    pub put_holds : Holds (order_of (edition_of weighed) s.plant) k after queued
    unfolding PutOf
    put_holds = h.2

    -- and have room for
    pub put-room : 2 * k ≤ length after
    unfolding PutOf
    put-room = omega (arith, h.1, ltb-false (length queue / 2) (length s.rest + length (leave_off s.conflicts made)) h.0)

    -- what the words stand for then
    abbrev pub onward : Step weighed node after k store m
    onward = record {
      plant = s.plant;
      parent = s.parent;
      conflicts = s.conflicts;
      rest = queued;
      is = s.is;
      keeps = s.keeps;
      holds = put_holds;
      room = put-room;
    }

-- children are found to be too many, however many follow
pub put-cut : (o : Order) (conflicts rest made more : List Assignment) (queue after : List ℕ) {full : Full}
    → PutOf o conflicts rest made queue after (Err full) → PutOf o conflicts rest (made ++ more) queue after (Err full)
unfolding PutOf
put-cut o conflicts rest made more queue after h =
    let first = leave_off conflicts made in
    let second = leave_off conflicts more in
    rw (keep_join (λ n. not (manifests_any conflicts n)) made more)
    (lt-ltb (length queue / 2) (length rest + length (first ++ second)) (omega (arith, ltb-true (length queue / 2) (length rest + length first) h, length-append first second)))

-- children put in after others are all put in
pub put-join : (o : Order) (conflicts rest made more : List Assignment) (queue after last : List ℕ) (k : ℕ) (r : Result ℕ Full) → length after ≡ length queue
    → PutOf o conflicts rest made queue after (Ok k) → PutOf o conflicts (enqueue_all o (leave_off conflicts made) rest) more after last r → PutOf o conflicts rest (made ++ more) queue last r
unfolding PutOf
put-join o conflicts rest made more queue after last k (Err full) e h g =
    let first = leave_off conflicts made in
    let second = leave_off conflicts more in
    rw (keep_join (λ n. not (manifests_any conflicts n)) made more)
    (lt-ltb (length queue / 2) (length rest + length (first ++ second))
    (omega (arith, ltb-true (length after / 2) (length (enqueue_all o first rest) + length second) g, length-append first second, enqueue_all_length o first rest)))
put-join o conflicts rest made more queue after last k (Ok j) e h g =
    let first = leave_off conflicts made in
    let second = leave_off conflicts more in
    rw (keep_join (λ n. not (manifests_any conflicts n)) made more) (
      le-ltb (length queue / 2) (length rest + length (first ++ second))
          (omega (arith, ltb-false (length after / 2) (length (enqueue_all o first rest) + length second) g.0, length-append first second, enqueue_all_length o first rest)),
      omega (arith, g.1, length-append first second, enqueue_all_length o first rest),
      holds_reordered o j last (enqueue_all o second (enqueue_all o first rest)) (enqueue_all o (first ++ second) rest)
          (λ w. omega (arith, enqueue_all-sum o w second (enqueue_all o first rest), enqueue_all-sum o w first rest, enqueue_all-sum o w (first ++ second) rest, sum-join w first second))
          g.2,
    )

-- ---- one value after another

-- of values in a row
variants-join : (n : Assignment) (v : ℕ) (but : Option ℕ) (xs ys : List ℕ) → variants n v but (xs ++ ys) ≡ variants n v but xs ++ variants n v but ys
variants-join n v None xs ys = map-append (λ x. set n v (some x)) xs ys
variants-join n v (Some but) xs ys = rw (keep_join (λ x. not (eqb x but)) xs ys) (map-append (λ x. set n v (some x)) (keep (λ x. not (eqb x but)) xs) (keep (λ x. not (eqb x but)) ys))

-- of no values
pub variants-none : (n : Assignment) (v : ℕ) (but : Option ℕ) → variants n v but [] ≡ []
variants-none n v None = refl
variants-none n v (Some but) = refl

-- of one value, which is excepted or not
pub variants-excepted : (n : Assignment) (v : ℕ) (but : Option ℕ) (x : ℕ) → option_eq eqb but (Some x) ≡ true → variants n v but (x ∷ []) ≡ []
variants-excepted n v None x e = absurd (false≢true e)
variants-excepted n v (Some y) x e = rw (eq-eqb x y (sym (eqb-true y x e)))

pub variants-one : (n : Assignment) (v : ℕ) (but : Option ℕ) (x : ℕ) → option_eq eqb but (Some x) ≡ false → variants n v but (x ∷ []) ≡ set n v (some x) ∷ []
variants-one n v None x e = refl
variants-one n v (Some y) x e = rw (ne_eqb x y (λ same. false≢true (sym e ∙ eq-eqb y x (sym same))))

-- one value more
pub variants-more : (n : Assignment) (v : ℕ) (but : Option ℕ) (x : ℕ) → variants n v but (values_from 0 (x + 1)) ≡ variants n v but (values_from 0 x) ++ variants n v but (x ∷ [])
variants-more n v but x = rw (values_join 0 x x 1 (x + 1) (omega arith) refl) (variants-join n v but (values_from 0 x) (x ∷ []))

-- a value between others
pub variants_at : (n : Assignment) (v : ℕ) (but : Option ℕ) (x size : ℕ) → x < size
    → variants n v but (values_from 0 size) ≡ variants n v but (values_from 0 x) ++ (variants n v but (x ∷ []) ++ variants n v but (values_from (x + 1) (size - (x + 1))))
variants_at n v but x size h =
    let e : size - x ≡ suc (size - (x + 1)) = omega arith in
    rw (values_join 0 x x (size - x) size (omega arith) (omega arith), e)
    (variants-join n v but (values_from 0 x) (x ∷ values_from (x + 1) (size - (x + 1)))
    ∙ ap (λ (l : List Assignment). variants n v but (values_from 0 x) ++ l) (variants-join n v but (x ∷ []) (values_from (x + 1) (size - (x + 1)))))

module _ {weighed : Bool} {node : Node} {queue : List ℕ} {n : ℕ} {store : List ℕ} {m : ℕ} (s : Step weighed node queue n store m) (v : ℕ) (but : Option ℕ) (x : ℕ) (after : List ℕ) (k : ℕ) (e : length after ≡ length queue)
    (h : Puts s (variants s.parent v but (values_from 0 x)) after (Ok k)) (last : List ℕ) where
  -- the child of the next value is put after those before it
  pub next-put : (r : Result ℕ Full) → Puts (onward s _ after k e h) (variants s.parent v but (x ∷ [])) last r → Puts s (variants s.parent v but (values_from 0 (x + 1))) last r
  next-put r g = rw (variants-more s.parent v but x) (put-join (order_of (edition_of weighed) s.plant) s.conflicts s.rest _ _ queue after last k r e h g)

  -- with it the children are too many
  pub next-full : (size : ℕ) {full : Full} → x < size → Puts (onward s _ after k e h) (variants s.parent v but (x ∷ [])) last (Err full) → Puts s (variants s.parent v but (values_from 0 size)) last (Err full)
  next-full size l g = rw (variants_at s.parent v but x size l)
      (put-join (order_of (edition_of weighed) s.plant) s.conflicts s.rest _ _ queue after last k (Err _) e h (put-cut (order_of (edition_of weighed) s.plant) s.conflicts _ _ _ after last g))
