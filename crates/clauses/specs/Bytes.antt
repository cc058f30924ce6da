-- An assignment that is lent as bytes, one for each variable. Assumes nothing: these are definitions.
use Rattle.std.specs.Prelude.{Bool, true, false, not, ℕ, eqb}
use Rattle.std.proofs.Math.Option.{Option, none, some}
use Rattle.model.specs.Consistency.{holds_at}
use Rattle.clauses.specs.Numbers.{unassigned}

-- what a byte says of a variable: 16 that it is unassigned, else its value
unfoldable pub given : ℕ → Option ℕ
given b = elim (eqb b unassigned) [ true ↦ none | false ↦ some b ]

-- whether a literal of this sign and value fails where this is given of its variable
unfoldable pub fails_at : Option ℕ → ℕ → ℕ → Bool
fails_at o sign value = elim o [ none ↦ false | some x ↦ not (holds_at x sign value) ]
