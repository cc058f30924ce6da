-- The words of a slice two by two: a read and a write of an entry's two words are a read and a write of the entry. Assumes nothing.
use mathlib.Core.List.{List, [], ◌∷◌}
use mathlib.Core.Path.{◌≡◌, refl, ap}
use Prim.Native.Nat.{ℕ, zero, suc, ◌+◌, ◌*◌, ◌≤◌, ◌<◌}
use native.Mathlib.Omega.{arith}
use lib.ListN.{length, get_or, set}
use lib.Seq.{length-take-le}
use Rattle.queue.specs.Order.{Item}
use Rattle.queue.specs.Entries.{pairs, entries}

-- the first word of the entry at suc i stands two words after that of the entry at i
double_suc : (i : ℕ) → 2 * suc i ≡ suc (suc (2 * i))
double_suc i = omega arith

-- and so does its second word
double_suc_one : (i : ℕ) → 2 * suc i + 1 ≡ suc (suc (2 * i + 1))
double_suc_one i = omega arith

-- the two words at 2 * i are the entry at i
pub read-pair : (words : List ℕ) (i : ℕ) → 2 * i + 1 < length words → get_or (pairs words) i (0, 0) ≡ (get_or words (2 * i) 0, get_or words (2 * i + 1) 0)
unfolding pairs
read-pair [] i h = absurd (omega arith)
read-pair (a ∷ []) i h = absurd (omega arith)
read-pair (a ∷ b ∷ words) zero h = refl
read-pair (a ∷ b ∷ words) (suc i) h = rw (double_suc_one i, double_suc i) (read-pair words i (omega arith))

-- to write the two words at 2 * i is to write the entry at i
pub write-pair : (words : List ℕ) (i a b : ℕ) → 2 * i + 1 < length words → pairs (set (set words (2 * i) a) (2 * i + 1) b) ≡ set (pairs words) i (a, b)
unfolding pairs
write-pair [] i x y h = absurd (omega arith)
write-pair (a ∷ []) i x y h = absurd (omega arith)
write-pair (a ∷ b ∷ words) zero x y h = refl
write-pair (a ∷ b ∷ words) (suc i) x y h = rw (double_suc_one i, double_suc i) (ap (λ (l : List Item). (a, b) ∷ l) (write-pair words i x y (omega arith)))

-- there are as many entries as half the words
pub room : (words : List ℕ) (n : ℕ) → 2 * n ≤ length words → n ≤ length (pairs words)
unfolding pairs
room [] n h = omega arith
room (a ∷ []) n h = omega arith
room (a ∷ b ∷ words) zero h = omega arith
room (a ∷ b ∷ words) (suc n) h = let k = room words n (omega arith) in omega arith

-- a slice with room for n entries has n entries
pub length_entries : (n : ℕ) (words : List ℕ) → 2 * n ≤ length words → length (entries n words) ≡ n
unfolding entries
length_entries n words h = length-take-le n (pairs words) (room words n h)
