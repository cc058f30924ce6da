-- The invariant of the loop of `sieve`: what stands in front is what a test keeps of the entries read, and those that are yet to be read stand as they were. Assumes nothing.
use mathlib.Core.Path.{◌≡◌, refl, ap, ◌∙◌}
use mathlib.Core.Bool.{Bool, true, false}
use mathlib.Core.List.{List, [], ◌∷◌, ◌++◌, append-nil}
use Prim.Native.Nat.{ℕ, ◌+◌, ◌≤◌, ◌<◌}
use native.Mathlib.Omega.{arith}
use native.Mathlib.Numerals.{add-one}
use lib.ListN.{length, set, take}
use lib.Seq.{take-suc, take-suc-set, get_or-set_other}
use Rattle.model.specs.Lists.{keep_if, keep}
use Rattle.queue.specs.Order.{Item}
use Rattle.queue.specs.Inside.{nth, Stays}

-- what stands behind does not matter to what stands in front
keep_if_append : (b : Bool) (x : Item) (xs ys : List Item) → keep_if b x (xs ++ ys) ≡ keep_if b x xs ++ ys
keep_if_append true x xs ys = refl
keep_if_append false x xs ys = refl

-- one more entry is kept or not, behind the others
keep_one : (test : Item → Bool) (xs : List Item) (x : Item) → keep test (xs ++ (x ∷ [])) ≡ keep test xs ++ keep_if (test x) x []
keep_one test [] x = refl
keep_one test (y ∷ xs) x = ap (keep_if (test y) y) (keep_one test xs x) ∙ keep_if_append (test y) y (keep test xs) (keep_if (test x) x [])

-- on each of the first n entries `stays` answers what the test says
abbrev pub Answers : Bool → ℕ → ℕ → ℕ → List Item → (Item → Bool) → Type 0
Answers weighed wide values n xs test = (i : ℕ) → i < n → (r : Bool) → Stays weighed wide values (nth xs i) r → r ≡ test (nth xs i)

-- `old` is the list at the start and xs the list now; i entries are read, and `count` of them kept
pub record Sieving (test : Item → Bool) (old xs : List Item) (count i : ℕ) : Type 0 where
  pub kept : take count xs ≡ keep test (take i old)
  pub rest : (j : ℕ) → i ≤ j → nth xs j ≡ nth old j

-- nothing is read yet
pub sieve-start : (test : Item → Bool) (xs : List Item) → Sieving test xs xs 0 0
sieve-start test xs = record { kept = refl; rest = λ j h. refl }

module _ {test : Item → Bool} {old xs : List Item} {count i : ℕ} (inv : Sieving test old xs count i) (fewer : count ≤ i) (read : i < length old) where
  -- the next entry is kept, and closes up
  pub sieve-keep : count < length xs → test (nth old i) ≡ true → Sieving test old (set xs count (nth old i)) (count + 1) (i + 1)
  sieve-keep room h = record {
    kept = rw (add-one count, add-one i, take-suc-set xs count (nth old i) room, take-suc old i (0, 0) read, keep_one test (take i old) (nth old i), h, inv.kept);
    rest = λ j k. get_or-set_other xs count j (nth old i) (0, 0) (omega arith) ∙ inv.rest j (omega arith);
  }

  -- the next entry is not kept
  pub sieve-drop : test (nth old i) ≡ false → Sieving test old xs count (i + 1)
  sieve-drop h = record {
    kept = inv.kept ∙ rw (add-one i, take-suc old i (0, 0) read, keep_one test (take i old) (nth old i), h, append-nil (keep test (take i old)));
    rest = λ j k. inv.rest j (omega arith);
  }
