-- What is read of an assignment lent as bytes. Assumes nothing.
use mathlib.Core.Path.{◌≡◌, refl}
use mathlib.Core.Option.{none, some}
use mathlib.Core.List.{List, [], ◌∷◌, map}
use Prim.Native.Nat.{ℕ, zero, suc, ◌<◌}
use native.Mathlib.Omega.{arith}
use borrow.Author.Tests.{eq-eqb, ne_eqb}
use lib.ListN.{length, get_or}
use Rattle.clauses.specs.Bytes.{given}

pub given-none : (b : ℕ) → b ≡ 16 → given b ≡ none
unfolding given
given-none b e = rw (given, eq-eqb b 16 e)

pub given_some : (b : ℕ) → (b ≡ 16 → ⊥) → given b ≡ some b
unfolding given
given_some b d = rw (given, ne_eqb b 16 d)

pub given-at : (vals : List ℕ) (v : ℕ) → v < length vals → get_or (map given vals) v none ≡ given (get_or vals v 0)
given-at [] v h = absurd (omega arith)
given-at (b ∷ vals) zero h = refl
given-at (b ∷ vals) (suc v) h = given-at vals v (omega arith)
