-- The host's refusals: the first ground that a test on the numbers finds is the model's. Assumes nothing.
use mathlib.Core.Path.{◌≡◌, refl, sym, ◌∙◌}
use mathlib.Core.Bool.{Bool, true, false, not, ◌&&◌, ◌||◌}
use mathlib.Core.Option.{none, some, none-ne-some}
use Prim.Native.Nat.{ℕ, ◌*◌, ◌/◌, ◌≤◌}
use native.Mathlib.Omega.{arith}
use borrow.Author.Tests.{ltb-false}
use lib.Dec.{ltb, leb}
use lib.ListN.{length}
use Rattle.model.specs.Calls.{Buffers, first_given, state_bytes, most_listed, most_words, host_grounds, odd}
use Rattle.theory.proofs.Lists.{or_neither}
use Rattle.listing.specs.Listing.{Room}

module _ (k codes costs values queue store held : ℕ) (short : Bool) where
  -- the five grounds
  abbrev pub wrong_count : Bool
  wrong_count = not (leb 1 k && leb k most_listed)

  abbrev pub short_list : Bool
  short_list = ltb codes k || ltb costs k || short

  abbrev pub short_values : Bool
  short_values = ltb values (state_bytes * k)

  abbrev pub wrong_queue : Bool
  wrong_queue = odd queue || ltb queue 2 || ltb most_words queue

  abbrev pub wrong_store : Bool
  wrong_store = odd store || ltb most_words store || ltb (store / 2) held

  module _ (b : Buffers) (ec : length b.codes ≡ codes) (ed : length b.costs ≡ costs) (ev : length b.values ≡ values) (eq : length b.queue ≡ queue) (es : length b.store ≡ store) where
    pub first-ground : wrong_count ≡ true → some 1 ≡ first_given (host_grounds k b held short)
    unfolding first_given host_grounds
    first-ground p = rw (host_grounds, p)

    module _ (p : wrong_count ≡ false) where
      pub second-ground : short_list ≡ true → some 2 ≡ first_given (host_grounds k b held short)
      unfolding first_given host_grounds
      second-ground q = rw (host_grounds, p, ec, ed, q)

      module _ (q : short_list ≡ false) where
        pub values-ground : short_values ≡ true → some 19 ≡ first_given (host_grounds k b held short)
        unfolding first_given host_grounds
        values-ground v = rw (host_grounds, p, ec, ed, q, ev, v)

        module _ (v : short_values ≡ false) where
          pub third-ground : wrong_queue ≡ true → some 3 ≡ first_given (host_grounds k b held short)
          unfolding first_given host_grounds
          third-ground r = rw (host_grounds, p, ec, ed, q, ev, v, eq, r)

          module _ (r : wrong_queue ≡ false) where
            pub fourth_ground : wrong_store ≡ true → some 4 ≡ first_given (host_grounds k b held short)
            unfolding first_given host_grounds
            fourth_ground s = rw (host_grounds, p, ec, ed, q, ev, v, eq, r, es, s)

            pub no_ground : wrong_store ≡ false → none ≡ first_given (host_grounds k b held short)
            unfolding first_given host_grounds
            no_ground s = rw (host_grounds, p, ec, ed, q, ev, v, eq, r, es, s)

-- a short result is refused, by its own number or by the one before it
pub short-given : (k : ℕ) (b : Buffers) (held : ℕ) → (n : ℕ) × (first_given (host_grounds k b held true) ≡ some n)
unfolding first_given host_grounds
short-given k b held = go (not (leb 1 k && leb k most_listed)) refl
  where
    or_true : (a : Bool) → (a || true) ≡ true
    or_true true = refl
    or_true false = refl

    go : (a : Bool) → not (leb 1 k && leb k most_listed) ≡ a → (n : ℕ) × (first_given (host_grounds k b held true) ≡ some n)
    go true p = (1, rw (host_grounds, p))
    go false p = (2, rw (host_grounds, p, or_true (ltb (length b.codes) k || ltb (length b.costs) k)))

-- ---- what is not refused

module _ (k : ℕ) (b : Buffers) (held : ℕ) (short : Bool) (h : none ≡ first_given (host_grounds k b held short)) where
  -- no ground is given
  record Free : Type 0 where
    count : wrong_count k (length b.codes) (length b.costs) (length b.values) (length b.queue) (length b.store) held short ≡ false
    list : short_list k (length b.codes) (length b.costs) (length b.values) (length b.queue) (length b.store) held short ≡ false
    values : short_values k (length b.codes) (length b.costs) (length b.values) (length b.queue) (length b.store) held short ≡ false
    queue : wrong_queue k (length b.codes) (length b.costs) (length b.values) (length b.queue) (length b.store) held short ≡ false
    store : wrong_store k (length b.codes) (length b.costs) (length b.values) (length b.queue) (length b.store) held short ≡ false

  free : Free
  free = go _ _ _ _ _ refl refl refl refl refl
    where
      cs : ℕ
      cs = length b.codes

      ds : ℕ
      ds = length b.costs

      vs : ℕ
      vs = length b.values

      qs : ℕ
      qs = length b.queue

      ss : ℕ
      ss = length b.store

      go : (p q v r s : Bool) → wrong_count k cs ds vs qs ss held short ≡ p → short_list k cs ds vs qs ss held short ≡ q → short_values k cs ds vs qs ss held short ≡ v
          → wrong_queue k cs ds vs qs ss held short ≡ r → wrong_store k cs ds vs qs ss held short ≡ s → Free
      go true q v r s e f l g i = absurd (none-ne-some _ (h ∙ sym (first-ground k cs ds vs qs ss held short b refl refl refl refl refl e)))
      go false true v r s e f l g i = absurd (none-ne-some _ (h ∙ sym (second-ground k cs ds vs qs ss held short b refl refl refl refl refl e f)))
      go false false true r s e f l g i = absurd (none-ne-some _ (h ∙ sym (values-ground k cs ds vs qs ss held short b refl refl refl refl refl e f l)))
      go false false false true s e f l g i = absurd (none-ne-some _ (h ∙ sym (third-ground k cs ds vs qs ss held short b refl refl refl refl refl e f l g)))
      go false false false false true e f l g i = absurd (none-ne-some _ (h ∙ sym (fourth_ground k cs ds vs qs ss held short b refl refl refl refl refl e f l g i)))
      go false false false false false e f l g i = record { count = e; list = f; values = l; queue = g; store = i }

  pub fit : first_given (host_grounds k b held short) ≡ none
  unfolding first_given host_grounds
  fit = rw (host_grounds, free.count, free.list, free.values, free.queue, free.store)

  -- there is room for what the run needs
  pub room_of : Room k held b.codes b.values b.queue b.store
  room_of =
      let l = or_neither (ltb (length b.codes) k || ltb (length b.costs) k) short free.list in
      let m = or_neither (ltb (length b.codes) k) (ltb (length b.costs) k) l.0 in
      let q = or_neither (odd (length b.queue) || ltb (length b.queue) 2) (ltb most_words (length b.queue)) free.queue in
      let r = or_neither (odd (length b.queue)) (ltb (length b.queue) 2) q.0 in
      let s = or_neither (odd (length b.store) || ltb most_words (length b.store)) (ltb (length b.store / 2) held) free.store in
      record {
        codes-room = ltb-false _ _ m.0;
        values-room = ltb-false _ _ free.values;
        queue-room = ltb-false _ _ r.1;
        store-room = omega (arith, ltb-false (length b.store / 2) held s.1);
      }

  -- and for the figures
  pub figures-room : k ≤ length b.costs
  figures-room =
      let l = or_neither (ltb (length b.codes) k || ltb (length b.costs) k) short free.list in
      ltb-false _ _ (or_neither (ltb (length b.codes) k) (ltb (length b.costs) k) l.0).1
