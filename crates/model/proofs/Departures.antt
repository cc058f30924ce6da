-- Rows for departures: how many there are, and which of two full assignments has fewer, or as many and the lower code. Assumes nothing.
use Rattle.std.proofs.Common.{◌≡◌, refl, true, false, [], ◌∷◌}
use lib.ListN.{replicate}
use Rattle.model.specs.Digits.{number}
use Rattle.model.specs.Order.{departures, first_of_equal}

-- the departures of no variables, of none out of value 0, of two, and of sixteen
pub departures_of : departures [] ∷ departures (0 ∷ 0 ∷ []) ∷ departures (0 ∷ 1 ∷ 15 ∷ 0 ∷ []) ∷ departures (replicate 16 2) ∷ [] ≡ 0 ∷ 0 ∷ 2 ∷ 16 ∷ []
departures_of = refl

-- of one figure: fewer departures though the code is higher, as many and the lower code, and none before itself
pub first_of_equal_lem : first_of_equal (1 ∷ 0 ∷ 0 ∷ []) (0 ∷ 1 ∷ 1 ∷ []) ∷ first_of_equal (0 ∷ 1 ∷ 1 ∷ []) (1 ∷ 0 ∷ 0 ∷ [])
    ∷ first_of_equal (0 ∷ 2 ∷ []) (1 ∷ 0 ∷ []) ∷ first_of_equal (1 ∷ 0 ∷ []) (0 ∷ 2 ∷ []) ∷ first_of_equal (1 ∷ 1 ∷ []) (1 ∷ 1 ∷ []) ∷ []
    ≡ true ∷ false ∷ true ∷ false ∷ false ∷ []
unfolding number
first_of_equal_lem = refl
