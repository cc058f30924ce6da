-- The end of a run: the masks are narrowed entry by entry, and the words behind them zeroed one by one. Assumes nothing.
use mathlib.Core.Path.{◌≡◌, refl, sym, ap, ◌∙◌}
use mathlib.Core.List.{List, [], ◌∷◌, ◌++◌, append-nil, append_assoc}
use Prim.Native.Nat.{ℕ, zero, suc, ◌+◌, ◌-◌, ◌*◌, ◌≤◌, ◌<◌}
use native.Mathlib.Omega.{arith}
use native.Mathlib.Nat.{sub-zero, zero-sub, suc-sub-suc}
use native.Mathlib.Numerals.{add-one}
use lib.ListN.{length, get_or, take, drop, set, replicate, drop_of_length-le}
use lib.Seq.{length-take-le, take-suc, take_all, take_at, set_at, get_or_at}
use borrow.Rule.Slice.PartMut.{mid_of, post_of, put_mid, mid_len, Post-is}
use Rattle.model.specs.Lists.{filled}
use Rattle.model.specs.Assignment.{Assignment, mask_of, values_of}
use Rattle.model.specs.Calls.{entry_words}
use Rattle.theory.specs.Words.{Words}
use Rattle.store.specs.Store.{words_by, Keeps}
use Rattle.store.proofs.Entries.{words_length, words_append, entry-words, from-entry}
use Rattle.store.proofs.Callers.{keeps-room}

-- ---- zeros from a place on

zeros-from : (i n : ℕ) → drop {A = ℕ} i (replicate n 0) ≡ replicate (n - i) 0
zeros-from zero n = rw (sub-zero n)
zeros-from (suc i) zero = rw (zero-sub (suc i))
zeros-from (suc i) (suc n) = rw (suc-sub-suc n i) (zeros-from i n)

-- ---- narrow masks up to a place

-- words whose first i entries have their masks narrowed
abbrev pub narrowed_to : List Assignment → List ℕ → ℕ → List ℕ
narrowed_to conflicts words i = words_by mask_of (take i conflicts) ++ drop (2 * i) words

module _ {d : ℕ} {words : List ℕ} {m : ℕ} {conflicts : List Assignment} (k : Keeps d words m conflicts) where
  pub narrow_start : words ≡ narrowed_to conflicts words 0
  unfolding words_by
  narrow_start = refl

  module _ (i : ℕ) (inside : i < m) where
    -- the next entry, and those after it
    next : drop (2 * i) words ≡ get_or words (2 * i) 0 ∷ get_or words (2 * i + 1) 0 ∷ drop (2 * (i + 1)) words
    next = from-entry words i (omega (arith, keeps-room k))

    -- i entries stand before it
    before_length : length (words_by mask_of (take i conflicts)) ≡ 2 * i
    before_length = words_length mask_of (take i conflicts) ∙ ap (λ (n : ℕ). 2 * n) (length-take-le i conflicts (omega (arith, k.count)))

    -- its mask is as it was
    pub narrow-reads : get_or (narrowed_to conflicts words i) (2 * i) 0 ≡ get_or words (2 * i) 0
    narrow-reads = rw next (get_or_at (words_by mask_of (take i conflicts)) (get_or words (2 * i) 0) _ 0 (2 * i) before_length)

    pub narrow_step : {mask : ℕ} → Words (get_or conflicts i []) mask (get_or words (2 * i + 1) 0)
        → set (narrowed_to conflicts words i) (2 * i) mask ≡ narrowed_to conflicts words (i + 1)
    narrow_step {mask} w =
        let done = words_by mask_of (take i conflicts) in
        let c = get_or conflicts i [] in
        rw (
          next,
          set_at done (get_or words (2 * i) 0) (get_or words (2 * i + 1) 0 ∷ drop (2 * (i + 1)) words) mask (2 * i) before_length,
          w.mask_is,
          w.values-is,
          add-one i,
          take-suc conflicts i [] (omega (arith, k.count)),
          words_append mask_of (take i conflicts) c,
        ) (sym (append_assoc done (mask_of c ∷ values_of c ∷ []) (drop (2 * suc i) words)))

  entry_length : length (entry_words conflicts) ≡ 2 * m
  entry_length = rw (entry-words conflicts) (words_length mask_of conflicts ∙ ap (λ (n : ℕ). 2 * n) k.count)

  pub narrow-end : (i : ℕ) → i ≡ m → narrowed_to conflicts words i ≡ filled (entry_words conflicts) words
  narrow-end i e = rw (e, take_all m conflicts (omega (arith, k.count)), entry_length, entry-words conflicts)

  -- zeros behind the entries
  pub zeroed-behind : (others zeros : List ℕ) → length others ≡ length words → others ≡ filled (entry_words conflicts) words
      → zeros ≡ replicate (length (mid_of (2 * m) (length others - 2 * m) others)) 0
      → put_mid (2 * m) (length others - 2 * m) others zeros ≡ filled (entry_words conflicts) (replicate (length words) 0)
  zeroed-behind others zeros l e z =
      let room : 2 * m ≤ length others = omega (arith, keeps-room k) in
      let long : length (mid_of (2 * m) (length others - 2 * m) others) ≡ length words - 2 * m = mid_len (2 * m) (length others) others (omega arith) ∙ ap (λ (n : ℕ). n - 2 * m) l in
      let last : post_of (2 * m) (length others - 2 * m) others ≡ [] = Post-is (2 * m) (length others) others room ∙ drop_of_length-le others {i = length others} (omega arith) in
      rw (z, long, last, append-nil {A = ℕ}, e, zeros-from (length (entry_words conflicts)) (length words), entry_length)
      (ap (λ (front : List ℕ). front ++ replicate (length words - 2 * m) 0) (take_at (entry_words conflicts) (drop (2 * m) words) (2 * m) entry_length))
