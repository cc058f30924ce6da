-- The words of a list of conflicts, with masks in any form: where each conflict's two stand. So an entry of a store that keeps conflicts is a conflict, and an append keeps one more. Assumes nothing.
use mathlib.Core.Path.{◌≡◌, refl, sym, ap, ◌∙◌}
use mathlib.Core.Bool.{Bool}
use mathlib.Core.List.{List, [], ◌∷◌, ◌++◌}
use Prim.Native.Nat.{ℕ, zero, suc, ◌+◌, ◌*◌, ◌≤◌, ◌<◌}
use native.Mathlib.Omega.{arith}
use native.Mathlib.Numerals.{add-one}
use lib.ListN.{length, get_or, drop, set, length-append, length-set}
use lib.Seq.{drop-cons, get_or-take, take-suc-set, append_snoc}
use Rattle.model.specs.Lists.{All}
use Rattle.model.specs.Assignment.{Assignment, mask_of, values_of}
use Rattle.model.specs.Calls.{entry_words}
use Rattle.theory.specs.Words.{Words, wide_of, Wide}
use Rattle.theory.proofs.Lists.{all_join}
use Rattle.store.specs.Store.{Over, words_by, wide_mask, Keeps}

module _ (f : Assignment → ℕ) where
  -- the words of the conflict at a place
  words-at : (cs : List Assignment) (i : ℕ) → i < length cs → (get_or (words_by f cs) (2 * i) 0 ≡ f (get_or cs i [])) × (get_or (words_by f cs) (2 * i + 1) 0 ≡ values_of (get_or cs i []))
  unfolding words_by
  words-at [] i h = absurd (omega arith)
  words-at (c ∷ cs) zero h = (refl, refl)
  words-at (c ∷ cs) (suc i) h =
      let e : 2 * suc i ≡ suc (suc (2 * i)) = omega arith in
      let g : 2 * suc i + 1 ≡ suc (suc (2 * i + 1)) = omega arith in
      rw (g, e) (words-at cs i (omega arith))

  -- two words an entry
  pub words_length : (cs : List Assignment) → length (words_by f cs) ≡ 2 * length cs
  unfolding words_by
  words_length [] = refl
  words_length (c ∷ cs) = omega (arith, words_length cs)

  -- an appended conflict's words come last
  pub words_append : (cs : List Assignment) (c : Assignment) → words_by f (cs ++ (c ∷ [])) ≡ words_by f cs ++ (f c ∷ values_of c ∷ [])
  unfolding words_by
  words_append [] c = refl
  words_append (b ∷ cs) c = ap (λ (r : List ℕ). f b ∷ values_of b ∷ r) (words_append cs c)

-- the entries of the specification are the words with plain masks
pub entry-words : (cs : List Assignment) → entry_words cs ≡ words_by mask_of cs
unfolding entry_words words_by
entry-words [] = refl
entry-words (c ∷ cs) = ap (λ (r : List ℕ). mask_of c ∷ values_of c ∷ r) (entry-words cs)

-- from a place on stand its entry and those after it
pub from-entry : (words : List ℕ) (i : ℕ) → 2 * i + 2 ≤ length words → drop (2 * i) words ≡ get_or words (2 * i) 0 ∷ get_or words (2 * i + 1) 0 ∷ drop (2 * (i + 1)) words
from-entry words i h =
    let two : 2 * (i + 1) ≡ suc (suc (2 * i)) = omega arith in
    rw (two, add-one (2 * i), drop-cons words (2 * i) 0 (omega arith), drop-cons words (suc (2 * i)) 0 (omega arith))

-- what holds of all members holds at each place
all-at : {A : Type 0} (P : A → Type 0) (xs : List A) (i : ℕ) (x : A) → All P xs → i < length xs → P (get_or xs i x)
all-at P [] i y a h = absurd (omega arith)
all-at P (x ∷ xs) zero y a h = a.0
all-at P (x ∷ xs) (suc i) y a h = all-at P xs i y a.1 (omega arith)

module _ {d : ℕ} {words : List ℕ} {m : ℕ} {conflicts : List Assignment} (k : Keeps d words m conflicts) where
  module _ (i : ℕ) (inside : i < m) {wide values : ℕ} (wide_at : wide ≡ get_or words (2 * i) 0) (values-at : values ≡ get_or words (2 * i + 1) 0) where
    -- the two words at a place are those of the conflict there
    pub keeps-wide : Wide (get_or conflicts i []) wide values
    keeps-wide =
        let place : i < length conflicts = omega (arith, k.count) in
        let over = all-at (Over d) conflicts i [] k.each place in
        let e = words-at wide_mask conflicts i place in
        record {
          mask = mask_of (get_or conflicts i []);
          words = record {
            short = omega (arith, k.narrow, over.0);
            small = over.1;
            mask_is = refl;
            values-is = rw (values-at, ← get_or-take (2 * m) words (2 * i + 1) 0 (omega arith), k.same) e.1;
          };
          wide_is = rw (wide_at, ← get_or-take (2 * m) words (2 * i) 0 (omega arith), k.same) e.0;
        }

    -- what a comparison of words answers of them it answers of that conflict
    pub keeps-answer : (compare : Assignment → Assignment → Bool) {node-values Node-wide : ℕ} {n : Assignment} {answer : Bool} → Wide n Node-wide node-values → length n ≡ d
        → ((n c : Assignment) → Wide n Node-wide node-values → Wide c wide values → length n ≡ length c → answer ≡ compare n c) → answer ≡ compare n (get_or conflicts i [])
    keeps-answer compare {n} w l says = says n (get_or conflicts i []) w keeps-wide (l ∙ sym (all-at (Over d) conflicts i [] k.each (omega (arith, k.count))).0)

  -- a widened mask and values written behind the entries are one more
  pub keeps_append : {c : Assignment} {mask values wide : ℕ} → Words c mask values → length c ≡ d → wide ≡ wide_of mask → 2 * m + 2 ≤ length words
      → Keeps d (set (set words (2 * m) wide) (2 * m + 1) values) (m + 1) (conflicts ++ (c ∷ []))
  keeps_append {c} {mask} {values} {wide} w l is h = record {
    narrow = k.narrow;
    count = omega (arith, k.count, length-append conflicts (c ∷ []));
    each = all_join (Over d) conflicts (c ∷ []) k.each ((l, w.small), tt);
    same =
        let two : 2 * (m + 1) ≡ suc (suc (2 * m)) = omega arith in
        let first = set words (2 * m) wide in
        let room : suc (2 * m) < length first = rw (length-set words (2 * m) wide) (omega arith) in
        rw (
          two,
          add-one (2 * m),
          take-suc-set first (suc (2 * m)) values room,
          take-suc-set words (2 * m) wide (omega arith),
          k.same,
          words_append wide_mask conflicts c,
          is,
          w.mask_is,
          w.values-is,
        ) (append_snoc (words_by wide_mask conflicts) (wide_mask c) (values_of c ∷ []));
  }
