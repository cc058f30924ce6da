-- An assignment's bytes, place by place. Assumes nothing.
use mathlib.Core.Path.{◌≡◌, refl, ap₂}
use mathlib.Core.Option.{none, some}
use mathlib.Core.List.{List, [], ◌∷◌, ◌++◌, map}
use Prim.Native.Nat.{ℕ, zero, suc, ◌+◌, ◌≤◌, ◌<◌}
use native.Mathlib.Omega.{arith}
use lib.ListN.{length, get_or, replicate}
use Rattle.model.specs.Lists.{All}
use Rattle.model.specs.Assignment.{Assignment, Under}
use Rattle.theory.specs.Words.{byte}
use Rattle.theory.proofs.Lists.{all_join}

-- bytes that are those of the variables, and 16 after them
pub by_bytes : (a : Assignment) (n : ℕ) (vals : List ℕ) → length vals ≡ length a + n
    → ((k : ℕ) → k < length vals → get_or vals k 0 ≡ byte (get_or a k none)) → vals ≡ map byte (a ++ replicate n none)
by_bytes [] zero [] e h = refl
by_bytes [] zero (x ∷ vals) e h = absurd (omega arith)
by_bytes [] (suc n) [] e h = absurd (omega arith)
by_bytes [] (suc n) (x ∷ vals) e h = ap₂ ◌∷◌ (h 0 (omega arith)) (by_bytes [] n vals (omega arith) (λ k l. h (suc k) (omega arith)))
by_bytes (o ∷ a) n [] e h = absurd (omega arith)
by_bytes (o ∷ a) n (x ∷ vals) e h = ap₂ ◌∷◌ (h 0 (omega arith)) (by_bytes a n vals (omega arith) (λ k l. h (suc k) (omega arith)))

-- variables with no value have none of 16 or more
pub small-behind : (a : Assignment) (n : ℕ) → All (Under 16) a → All (Under 16) (a ++ replicate n none)
small-behind a n h = all_join (Under 16) a (replicate n none) h (go n)
  where
    go : (n : ℕ) → All (Under 16) (replicate n none)
    go zero = tt
    go (suc n) = (tt, go n)

-- a byte is at most 16
pub byte-most : (a : Assignment) → All (Under 16) a → (v : ℕ) → get_or (map byte a) v 0 ≤ 16
byte-most [] h v = omega arith
byte-most (none ∷ a) h zero = omega arith
byte-most (some x ∷ a) h zero = omega (arith, h.0)
byte-most (o ∷ a) h (suc v) = byte-most a h.1 v
