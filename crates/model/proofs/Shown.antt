-- Rows for the values shown: of a test, and of the states listed. Assumes nothing.
use Rattle.std.specs.Prelude.{◌≡◌, refl, List, [], ◌∷◌, map, ℕ, replicate}
use Rattle.model.specs.Lists.{values_from}
use Rattle.model.specs.Consistency.{Tested, consistent, inconsistent}
use Rattle.model.specs.Listing.{Ending, enough, all}
use Rattle.model.specs.Calls.{value_bytes, shown_by, state_values}
use Rattle.model.proofs.Examples.{Row, ◌gives◌, shows, answers, expected, plain}
use Rattle.model.proofs.Edges.{thirty_two_states}
use Rattle.model.proofs.Alone.{mixed}
use Rattle.model.proofs.Refusals.{values_of}

-- a test that is consistent, of four variables and of as many as can be; one that is inconsistent, and one that is spent
unfoldable pub tests : List Tested
tests = consistent (1 ∷ 2 ∷ 2 ∷ 0 ∷ []) 13 ∷ consistent (values_from 1 48) 48 ∷ inconsistent 5 ∷ Tested.spent 12 ∷ []

pub tests_show : map shown_by tests ≡ (1 ∷ 2 ∷ 2 ∷ replicate 45 0) ∷ values_from 1 48 ∷ replicate 48 0 ∷ replicate 48 0 ∷ []
unfolding tests shown_by value_bytes
tests_show = refl

-- the values of all variables in the five states of a plant with two hidden variables: the first that fit, which are neither all 0 nor the last ones
unfoldable pub five : List (List ℕ)
five = (0 ∷ 0 ∷ 1 ∷ 1 ∷ []) ∷ (0 ∷ 1 ∷ 1 ∷ 1 ∷ []) ∷ (1 ∷ 0 ∷ 1 ∷ 1 ∷ []) ∷ (1 ∷ 1 ∷ 0 ∷ 1 ∷ []) ∷ (1 ∷ 2 ∷ 2 ∷ 0 ∷ []) ∷ []

unfoldable pub listings : List Row
listings =
    -- all five, the last one after a test that was inconsistent
    plain mixed 16 8 4 [] 1000
    gives shows all (0 ∷ 0x0100000000000000 ∷ 0x1000000000000000 ∷ 0x1100000000000000 ∷ 0x1200000000000000 ∷ []) (0 ∷ 1 ∷ 1 ∷ 2 ∷ 3 ∷ []) five
    (0xc000000000000000 ∷ 0x0200000000000000 ∷ []) 6 1 0 44
    -- two of them, in a buffer that has bytes behind those of k states
    ∷ values_of 100 (plain mixed 2 8 4 [] 1000)
    gives shows enough (0 ∷ 0x0100000000000000 ∷ []) (0 ∷ 1 ∷ []) ((0 ∷ 0 ∷ 1 ∷ 1 ∷ []) ∷ (0 ∷ 1 ∷ 1 ∷ 1 ∷ []) ∷ []) [] 2 0 0 8
    -- three, and a limit that strikes in the test of the next: the values of that test are not shown
    ∷ plain mixed 16 8 4 [] 14
    gives shows Ending.spent (0 ∷ 0x0100000000000000 ∷ 0x1000000000000000 ∷ []) (0 ∷ 1 ∷ 1 ∷ [])
    ((0 ∷ 0 ∷ 1 ∷ 1 ∷ []) ∷ (0 ∷ 1 ∷ 1 ∷ 1 ∷ []) ∷ (1 ∷ 0 ∷ 1 ∷ 1 ∷ []) ∷ []) [] 3 0 0 14
    -- as many hidden variables as can be
    ∷ plain thirty_two_states 1 1 0 [] 1000 gives shows all (0 ∷ []) (0 ∷ []) (replicate 33 0 ∷ []) [] 1 0 0 32
    ∷ []

pub listings_show : answers listings ≡ expected listings
unfolding listings five answers expected plain values_of mixed thirty_two_states
listings_show = refl

-- where the values of a state stand: those of the first, the second and the third in a buffer that has bytes behind them
pub states_stand : map (λ i. state_values i (record { codes = []; costs = []; values = values_from 1 150; queue = []; store = [] })) (0 ∷ 1 ∷ 2 ∷ []) ≡
    values_from 1 48 ∷ values_from 49 48 ∷ values_from 97 48 ∷ []
states_stand = refl
