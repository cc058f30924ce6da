-- What a write at the first free place adds to a table, and what has become of a table whose part was lent. Assumes nothing.
use mathlib.Core.Path.{◌≡◌}
use mathlib.Core.List.{List, [], ◌∷◌, ◌++◌, append-nil}
use Prim.Native.Nat.{ℕ, ◌+◌, ◌-◌, ◌≤◌, ◌<◌}
use native.Mathlib.Omega.{arith}
use native.Mathlib.Nat.{le_of_eq}
use native.Mathlib.Numerals.{add-one}
use lib.ListN.{length, take, drop, set, length-drop, drop_of_length-le}
use lib.Seq.{take-suc-set, length-take-le}
use borrow.Rule.Slice.PartMut.{put_mid}

-- a table after a write at its first free place
pub take_write : {A : Type 0} (l : List A) (i : ℕ) (a : A) → i < length l → take (i + 1) (set l i a) ≡ take i l ++ (a ∷ [])
take_write l i a h = rw (add-one i) (take-suc-set l i a h)

-- a table whose part from a place on was lent and has come back
pub given_back : (xs ys : List ℕ) (from : ℕ) → put_mid from (length xs - from) xs ys ≡ take from xs ++ ys
given_back xs ys from = rw (drop_of_length-le (drop from xs) (le_of_eq (length-drop from xs)), append-nil ys)

-- and how long the part was
pub part-long : (xs ys : List ℕ) (from m : ℕ) → length ys ≡ length (take (length xs - from) (drop from xs)) → from + m ≤ length xs → m ≤ length ys
part-long xs ys from m e h = let long : length (take (length xs - from) (drop from xs)) ≡ length xs - from = length-take-le _ (drop from xs) (simp length-drop (omega arith)) in omega arith
