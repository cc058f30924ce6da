-- An assignment lent as bytes: one byte to and fro, storing, and the values of a full one. Assumes nothing.
use mathlib.Core.Path.{◌≡◌, refl, sym, ap, ap₂, ◌∙◌}
use mathlib.Core.Bool.{true, not, false≢true}
use mathlib.Core.Option.{Option, none, some}
use mathlib.Core.List.{List, [], ◌∷◌, map}
use Prim.Native.Nat.{ℕ, zero, suc, ◌<◌}
use native.Mathlib.Omega.{arith}
use native.Mathlib.Decide.{ℕ_discrete}
use borrow.Author.Tests.{eq-eqb, ne_eqb}
use lib.Dec.{eqb}
use lib.ListN.{length, get_or, set}
use Rattle.model.specs.Lists.{All}
use Rattle.model.specs.Assignment.{Assignment, Under, is_some, nibble, value_list}
use Rattle.theory.specs.Words.{byte}
use Rattle.theory.specs.Nodes.{Filled}
use Rattle.clauses.specs.Bytes.{given}
use Rattle.clauses.specs.Numbers.{values, unassigned}
use Rattle.clauses.proofs.Bytes.{given-none, given_some}

-- ---- one byte

pub is-given : (b : ℕ) → is_some (given b) ≡ not (eqb b unassigned)
is-given b = elim (ℕ_discrete b unassigned) [ yes e ↦ rw (given-none b e, eq-eqb b unassigned e) | no d ↦ rw (given_some b d, ne_eqb b unassigned d) ]

-- a byte is what it gives, and gives what it is
byte-given : (b : ℕ) → byte (given b) ≡ b
byte-given b = elim (ℕ_discrete b unassigned) [ yes e ↦ rw (given-none b e) (sym e) | no d ↦ rw (given_some b d) ]

given-byte : (o : Option ℕ) → Under values o → given (byte o) ≡ o
given-byte none h = given-none unassigned refl
given-byte (some x) h = given_some x (λ e. omega arith)

-- ---- all bytes

pub given_length : (vals : List ℕ) → length (map given vals) ≡ length vals
given_length [] = refl
given_length (b ∷ vals) = ap suc (given_length vals)

pub given-set : (vals : List ℕ) (v b : ℕ) → map given (set vals v b) ≡ set (map given vals) v (given b)
given-set [] v b = refl
given-set (c ∷ vals) zero b = refl
given-set (c ∷ vals) (suc v) b = ap (λ (a : Assignment). given c ∷ a) (given-set vals v b)

-- the bytes of an assignment give it
pub given-bytes : (a : Assignment) → All (Under values) a → map given (map byte a) ≡ a
given-bytes [] h = refl
given-bytes (o ∷ a) h = ap₂ ◌∷◌ (given-byte o h.0) (given-bytes a h.1)

-- where all variables are assigned, the bytes are the values
pub filled-values : (vals : List ℕ) → Filled (length vals) (map given vals) → value_list (map given vals) ≡ vals
filled-values [] f = refl
filled-values (b ∷ vals) f = ap₂ ◌∷◌ (go (given b) f.0 ∙ byte-given b) (filled-values vals f.1)
  where
    go : (o : Option ℕ) → is_some o ≡ true → nibble o ≡ byte o
    go none h = absurd (false≢true h)
    go (some x) h = refl

-- and none is 16
pub all-given : (vals : List ℕ) → Filled (length vals) (map given vals) → (u : ℕ) → u < length vals → get_or vals u 0 ≡ unassigned → ⊥
all-given [] f u h e = absurd (omega arith)
all-given (b ∷ vals) f zero h e = false≢true (ap is_some (sym (given-none b e)) ∙ f.0)
all-given (b ∷ vals) f (suc u) h e = all-given vals f.1 u (omega arith) e
