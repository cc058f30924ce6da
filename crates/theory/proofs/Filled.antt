-- Laws of a buffer whose first places have been filled. Assumes nothing.
use mathlib.Core.Path.{◌≡◌, refl, sym, ◌∙◌}
use mathlib.Core.List.{List, [], ◌∷◌, ◌++◌, map}
use Prim.Native.Nat.{ℕ, zero, suc, ◌≤◌, ◌<◌}
use native.Mathlib.Omega.{arith}
use lib.ListN.{length, get_or, take, drop, set, length-append, length-drop, length-map, get_or-append}
use native.Mathlib.Numerals.{add-one}
use lib.Seq.{take_at, drop_at, drop-cons, set_at, append_snoc}
use Rattle.model.specs.Lists.{filled}

-- its first places are what it was filled with, and those after them are as they were
module _ {A : Type 0} (xs buffer : List A) where
  pub filled_take : take (length xs) (filled xs buffer) ≡ xs
  filled_take = take_at xs (drop (length xs) buffer) (length xs) refl

  pub filled-drop : drop (length xs) (filled xs buffer) ≡ drop (length xs) buffer
  filled-drop = drop_at xs (drop (length xs) buffer) (length xs) refl

  -- its length stays
  pub filled_length : length xs ≤ length buffer → length (filled xs buffer) ≡ length buffer
  filled_length h = length-append xs (drop (length xs) buffer) ∙ (rw (length-drop (length xs) buffer) (omega arith))

  -- one place more is filled by writing to it
  pub filled_more : (x : A) → length xs < length buffer → set (filled xs buffer) (length xs) x ≡ filled (xs ++ (x ∷ [])) buffer
  filled_more x h = rw (drop-cons buffer (length xs) x h, set_at xs (get_or buffer (length xs) x) (drop (suc (length xs)) buffer) x (length xs) refl, length-append xs (x ∷ []), add-one (length xs))
      (sym (append_snoc xs x (drop (suc (length xs)) buffer)))

-- a place that was filled from a mapped list
pub filled_at : {A : Type 0} (g : A → ℕ) (xs : List A) (buffer : List ℕ) (d : A) (i : ℕ) → i < length xs → get_or (filled (map g xs) buffer) i 0 ≡ g (get_or xs i d)
filled_at g xs buffer d i h = get_or-append (map g xs) (drop (length (map g xs)) buffer) 0 i (rw (length-map xs g) h) ∙ mapped xs i h
  where
    mapped : (ys : List _) (i : ℕ) → i < length ys → get_or (map g ys) i 0 ≡ g (get_or ys i d)
    mapped [] i h = absurd (omega arith)
    mapped (y ∷ ys) zero h = refl
    mapped (y ∷ ys) (suc i) h = mapped ys i (omega arith)
