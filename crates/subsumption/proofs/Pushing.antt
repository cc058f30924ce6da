-- A store whose entries close up: some are kept in front, and of the others those that pass a test come behind them. Assumes nothing.
use mathlib.Core.Path.{◌≡◌, refl, sym, ap, ◌∙◌}
use mathlib.Core.Bool.{Bool, true, false}
use mathlib.Core.List.{List, [], ◌∷◌, ◌++◌, append-nil}
use Prim.Native.Nat.{ℕ, zero, suc, ◌+◌, ◌-◌, ◌*◌, ◌≤◌, ◌<◌}
use native.Mathlib.Omega.{arith}
use native.Mathlib.Nat.{add-zero}
use native.Mathlib.Numerals.{add-one}
use mir.Val.{bool_byte}
use lib.ListN.{length, get_or, take, drop, set, take-append-drop, drop_of_length-le}
use lib.Seq.{length-take-le, take-nil, take-take, take-set-le, drop-set-lt, drop-drop, drop-cons, get_or-drop, append_snoc}
use Rattle.model.specs.Lists.{keep_if, keep}
use Rattle.model.specs.Assignment.{Assignment, values_of}
use Rattle.theory.specs.Words.{Words, Wide, wide_of}
use Rattle.theory.proofs.Lists.{all_left, all-at}
use Rattle.words.specs.declared.WidePair.{WidePair}
use Rattle.store.specs.Store.{Over, words_by, wide_mask, Keeps}
use Rattle.store.proofs.Entries.{keeps_append}

-- ---- words

-- lists that are the same from a place on are the same from a later place on
pub same-behind : {A : Type 0} (xs ys : List A) (i j : ℕ) → i ≤ j → drop i xs ≡ drop i ys → drop j xs ≡ drop j ys
same-behind xs ys i j h e =
    let on : i + (j - i) ≡ j = omega arith in
    rw (← on, ← drop-drop (j - i) i xs, ← drop-drop (j - i) i ys, e)

-- and have the same at each later place
pub same_at : (xs ys : List ℕ) (i j : ℕ) → i ≤ j → drop i xs ≡ drop i ys → get_or xs j 0 ≡ get_or ys j 0
same_at xs ys i j h e =
    let on : i + (j - i) ≡ j = omega arith in
    rw (← on, ← get_or-drop i xs (j - i) 0, ← get_or-drop i ys (j - i) 0, e)

-- an entry written to place i changes nothing from a later place j on
pub written_behind : (words : List ℕ) (i j wide values : ℕ) → i < j → drop (2 * j) (set (set words (2 * i) wide) (2 * i + 1) values) ≡ drop (2 * j) words
written_behind words i j wide values h =
    drop-set-lt (2 * j) (set words (2 * i) wide) (2 * i + 1) values (omega arith) ∙ drop-set-lt (2 * j) words (2 * i) wide (omega arith)

-- a conflict's mask widened, with its values, is the conflict as a scan reads it
pub wide-words : {c : Assignment} {mask values : ℕ} {wide : WidePair} → Words c mask values → (wide.mask ≡ wide_of mask) × (wide.values ≡ values) → Wide c wide.mask wide.values
wide-words {mask} w e = rw e.1 (record { mask = mask; words = w; wide_is = e.0 })

-- the first words of conflicts are those of the first conflicts
words-first : (f : Assignment → ℕ) (n : ℕ) (cs : List Assignment) → take (2 * n) (words_by f cs) ≡ words_by f (take n cs)
unfolding words_by
words-first f zero cs = refl
words-first f (suc n) [] = take-nil (2 * suc n)
words-first f (suc n) (c ∷ cs) =
    let two : 2 * suc n ≡ suc (suc (2 * n)) = omega arith in
    rw two (ap (λ (r : List ℕ). f c ∷ values_of c ∷ r) (words-first f n cs))

-- ---- entries that are kept

module _ {d : ℕ} {words : List ℕ} {m : ℕ} {conflicts : List Assignment} (k : Keeps d words m conflicts) where
  -- each conflict has d variables
  pub keeps_length : (i : ℕ) → i < m → length (get_or conflicts i []) ≡ d
  keeps_length i h = (all-at [] (Over d) conflicts k.each i (omega (arith, k.count))).0

  -- a store keeps its first conflicts
  keeps-first : (n : ℕ) → n ≤ m → Keeps d words n (take n conflicts)
  keeps-first n h = record {
    narrow = k.narrow;
    count = length-take-le n conflicts (omega (arith, k.count));
    each = all_left (Over d) (take n conflicts) (drop n conflicts) (rw (take-append-drop n conflicts) k.each);
    same = sym (take-take (2 * n) (2 * m) words (omega arith)) ∙ ap (take (2 * n)) k.same ∙ words-first wide_mask n conflicts;
  }

  -- an entry written behind those that are kept changes none of them
  keeps-written : (wide values : ℕ) → Keeps d (set (set words (2 * m) wide) (2 * m + 1) values) m conflicts
  keeps-written wide values = record {
    narrow = k.narrow;
    count = k.count;
    each = k.each;
    same =
        take-set-le (2 * m) (set words (2 * m) wide) (2 * m + 1) values (omega arith)
        ∙ take-set-le (2 * m) words (2 * m) wide (omega arith)
        ∙ k.same;
  }

-- the first `left` entries are those of a front, behind which `rest` is to come to make the whole
pub record Closing (d : ℕ) (words : List ℕ) (left : ℕ) (whole rest : List Assignment) : Type 0 where
  pub front : List Assignment
  pub kept : Keeps d words left front
  pub joined : whole ≡ front ++ rest

-- at the start the first n entries stand in front, and the rest is to come
pub closing_start : {d : ℕ} {words : List ℕ} {m : ℕ} {conflicts : List Assignment} → Keeps d words m conflicts → (n : ℕ) → n ≤ m → (rest : List Assignment)
    → Closing d words n (take n conflicts ++ rest) rest
closing_start {conflicts} k n h rest = record { front = take n conflicts; kept = keeps-first k n h; joined = refl }

-- the next conflict is written behind those in front; it is one of them if it is kept
pub closing_step : {d : ℕ} {words : List ℕ} {left : ℕ} {whole rest : List Assignment} {x : Assignment} {wide values : ℕ} (b : Bool) → Closing d words left whole (keep_if b x rest)
    → Wide x wide values → length x ≡ d → 2 * left + 2 ≤ length words → Closing d (set (set words (2 * left) wide) (2 * left + 1) values) (left + bool_byte b) whole rest
closing_step {rest} {x} true s w l room = record {
  front = s.front ++ (x ∷ []);
  kept = keeps_append s.kept w.words l w.wide_is room;
  joined = s.joined ∙ sym (append_snoc s.front x rest);
}
closing_step {left} {wide} {values} false s w l room = rw (add-zero left) (record { front = s.front; kept = keeps-written s.kept wide values; joined = s.joined })

-- where nothing is to come, the whole is kept
pub closing_end : {d : ℕ} {words : List ℕ} {left : ℕ} {whole : List Assignment} → Closing d words left whole [] → Keeps d words left whole
closing_end s = rw (s.joined, append-nil s.front) s.kept

-- ---- what a test keeps from a place on

module _ {A : Type 0} (test : A → Bool) (xs : List A) (i : ℕ) where
  -- from a place on the member there is kept if it passes, and then what is kept behind it
  pub keep-here : (x : A) → i < length xs → keep test (drop i xs) ≡ keep_if (test (get_or xs i x)) (get_or xs i x) (keep test (drop (i + 1) xs))
  keep-here x h = rw (add-one i, drop-cons xs i x h)

  -- past the end nothing is kept
  pub keep-past : length xs ≤ i → keep test (drop i xs) ≡ []
  keep-past h = rw (drop_of_length-le xs {i = i} h)

-- a test counts for at most one
pub byte_small : (b : Bool) → bool_byte b ≤ 1
byte_small true = omega arith
byte_small false = omega arith
