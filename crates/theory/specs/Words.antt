-- Words of assignments: when two words are those of an assignment, and the forms in which the word functions read and make them. Assumes nothing: these are definitions.
use Rattle.std.specs.Prelude.{◌≡◌, List, [], ◌∷◌, map, ℕ, zero, suc, ◌*◌, ◌≤◌, length, take, drop}
use Rattle.std.proofs.Math.Option.{Option, none, some}
use Rattle.model.specs.Lists.{All, Begins}
use Rattle.model.specs.Digits.{number, digits}
use Rattle.model.specs.Assignment.{Assignment, Under, mask_of, values_of}

-- two words are those of an assignment to at most sixteen variables, whose values are below 16
pub record Words (a : Assignment) (mask values : ℕ) : Type 0 where
  pub short : length a ≤ 16
  pub small : All (Under 16) a
  pub mask_is : mask ≡ mask_of a
  pub values-is : values ≡ values_of a

-- a variable's byte: its value, or 16 where it is unassigned
abbrev pub byte : Option ℕ → ℕ
byte none = 16
byte (some x) = x

-- fifteen for a bit that is set, zero for one that is not
abbrev pub fifteen : ℕ → ℕ
fifteen b = b * 15

-- a mask's first sixteen bits widened: fifteen at the nibble of each assigned variable
unfoldable pub wide_of : ℕ → ℕ
wide_of mask = number 16 16 (map fifteen (digits 2 64 mask))

-- a widened mask and values are those of an assignment
pub record Wide (a : Assignment) (wide values : ℕ) : Type 0 where
  pub mask : ℕ
  pub words : Words a mask values
  pub wide_is : wide ≡ wide_of mask

-- the rows of d variables in a table with sixteen costs for each
abbrev pub sixteens : ℕ → List ℕ → List (List ℕ)
sixteens zero t = []
sixteens (suc d) t = take 16 t ∷ sixteens d (drop 16 t)

-- a table with sixteen costs for each variable has these rows: each begins its variable's sixteen
abbrev pub HasRows : List (List ℕ) → List ℕ → Type 0
HasRows [] t = Unit {0}
HasRows (r ∷ rs) t = Begins r (take 16 t) × HasRows rs (drop 16 t)
