-- How the rows of costs stand in their table. Assumes nothing.
use mathlib.Core.Path.{◌≡◌, refl, sym, ap, ◌∙◌}
use mathlib.Core.List.{List, [], ◌∷◌, ◌++◌, map}
use Prim.Native.Nat.{ℕ, ◌+◌, ◌-◌, ◌*◌, ◌≤◌, ◌<◌}
use native.Mathlib.Omega.{arith}
use lib.ListN.{length, take, drop, set, length-drop, take-append-drop}
use lib.Seq.{take-append-le, drop-append-le, length-take-le, take-take}
use borrow.Rule.Slice.PartMut.{put_mid}
use Rattle.theory.specs.Tables.{rows}
use Rattle.readings.proofs.Tables.{take_write, given_back}

rows-front : (sizes a b : List ℕ) → 16 * length sizes ≤ length a → rows sizes (a ++ b) ≡ rows sizes a
unfolding rows
rows-front [] a b h = refl
rows-front (k ∷ sizes) a b h =
    rw (take-append-le 16 a b (omega arith), drop-append-le 16 a b (omega arith), rows-front sizes (drop 16 a) b (simp length-drop (omega arith)))

rows_snoc : (sizes a b : List ℕ) (n : ℕ) → length a ≡ 16 * length sizes → rows (sizes ++ (n ∷ [])) (a ++ b) ≡ rows sizes a ++ (take n (take 16 b) ∷ [])
unfolding rows
rows_snoc [] [] b n h = refl
rows_snoc [] (x ∷ a) b n h = absurd (omega arith)
rows_snoc (k ∷ sizes) a b n h =
    rw (take-append-le 16 a b (omega arith), drop-append-le 16 a b (omega arith), rows_snoc sizes (drop 16 a) b n (simp length-drop (omega arith)))

-- one size more, with its costs in the next sixteen entries, is one row more
pub rows_write : (sizes costs part : List ℕ) (i n : ℕ) → i < length sizes → 16 * i ≤ length costs → n ≤ 16
    → rows (take (i + 1) (set sizes i n)) (put_mid (16 * i) (length costs - 16 * i) costs part) ≡ rows (take i sizes) costs ++ (take n part ∷ [])
rows_write sizes costs part i n h l k =
    let count = length-take-le i sizes (omega arith) in
    let front = length-take-le (16 * i) costs l in
    let same : rows (take i sizes) costs ≡ rows (take i sizes) (take (16 * i) costs) =
    rw take-append-drop at (rows-front (take i sizes) (take (16 * i) costs) (drop (16 * i) costs) (omega arith)) in
    rw (take_write sizes i n h, given_back costs part (16 * i), same, ← take-take n 16 part k) (rows_snoc (take i sizes) (take (16 * i) costs) part n (omega arith))

lengths_snoc : (xs : List (List ℕ)) (x : List ℕ) → map length (xs ++ (x ∷ [])) ≡ map length xs ++ (length x ∷ [])
lengths_snoc [] x = refl
lengths_snoc (y ∷ xs) x = ap (λ (l : List ℕ). length y ∷ l) (lengths_snoc xs x)

-- and its size is its length
pub lengths-write : (sizes part : List ℕ) (i n : ℕ) (xs ys : List (List ℕ)) → i < length sizes → n ≤ length part
    → map length xs ≡ take i sizes → ys ≡ xs ++ (take n part ∷ []) → map length ys ≡ take (i + 1) (set sizes i n)
lengths-write sizes part i n xs ys h l e f = ap (λ rs. map length rs) f ∙ lengths_snoc xs (take n part) ∙ rw (length-take-le n part l, e) (sym (take_write sizes i n h))
