-- The bytes of literals as triples. Assumes nothing.
use mathlib.Core.Path.{◌≡◌, refl, ap, ◌∙◌}
use mathlib.Core.List.{List, []}
use Prim.Native.Nat.{ℕ, zero, suc, ◌+◌, ◌*◌, ◌/◌, ◌<◌, ◌≤◌}
use native.Mathlib.Omega.{arith}
use lib.ListN.{length, get_or, take, drop}
use lib.Seq.{drop-drop, get_or-drop, get_or-take}
use Rattle.std.specs.Simd.{first_chunks}

length-chunks : (n k : ℕ) (xs : List ℕ) → length (first_chunks n k xs) ≡ k
length-chunks n zero xs = refl
length-chunks n (suc k) xs = ap suc (length-chunks n k (drop n xs))

-- the chunk j
chunk : (n k : ℕ) (xs : List ℕ) (j i : ℕ) → j < k → i ≡ j * n → get_or (first_chunks n k xs) j [] ≡ take n (drop i xs)
chunk n zero xs j i h e = absurd (omega arith)
chunk n (suc k) xs zero i h e = let z : i ≡ 0 = omega arith in rw z
chunk n (suc k) xs (suc j) i h e =
    let s : i ≡ n + j * n = omega arith in
    chunk n k (drop n xs) j (j * n) (omega arith) refl ∙ rw s (ap (take n) (drop-drop (j * n) n xs))

module _ (triples : List (List ℕ)) (l : List ℕ) (are : triples ≡ first_chunks 3 (length l / 3) l) (k : ℕ) where
  many : length triples ≡ length l / 3
  many = ap length are ∙ length-chunks 3 (length l / 3) l

  -- the bytes of the triple k
  pub triple-room : k < length triples → 3 * k + 2 < length l
  triple-room h = omega (arith, many)

  pub triple-byte : k < length triples → (j : ℕ) → j < 3 → get_or (get_or triples k []) j 0 ≡ get_or l (3 * k + j) 0
  triple-byte h j lt = rw (are, chunk 3 (length l / 3) l k (3 * k) (omega (arith, many)) (omega arith), get_or-take, get_or-drop)

  -- behind the last one
  pub triples-end : length triples ≤ k → length l ≤ 3 * k + 2
  triples-end h = omega (arith, many)
