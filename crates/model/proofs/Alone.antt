-- Rows for the test and the reduction called alone: answers, trials, limits, refusals. Assumes nothing.
use Rattle.std.specs.Prelude.{◌≡◌, refl, List, [], ◌∷◌, ℕ}
use Rattle.std.proofs.Math.Option.{none, some}
use Rattle.model.specs.Consistency.{Tested, consistent, inconsistent}
use Rattle.model.specs.Conflict.{Reduced, conflict, ReducedAlone, nothing, reduced, reduce_alone}
use Rattle.model.specs.Calls.{by_host, by_author, Answered, refused, answered, word_grounds, on_words, test_call, reduce_call}
use Rattle.model.proofs.Examples.{call, tail, small, empty_clause, both, selector}
use Rattle.model.proofs.Edges.{second, one_of_six, state_of_sixteen}
use Rattle.model.proofs.Refusals.{other_edition}

-- decision variables of two and of three values, state variables of three and of two; the clauses: 2≠0 or 1=1; 3=1 or 2=2; 0=1 or 2=1; 1≠2 or 3≠1
unfoldable pub mixed : List ℕ
mixed =
    0x01 ∷ 0x10 ∷ 0x40 ∷ 0x20 ∷ 0x80 ∷ 0x00 ∷ 0x00 ∷ 0x00 ∷ 0x90 ∷ 0x00 ∷ 0x00 ∷ 0x00 ∷ 0x08 ∷ 0x00 ∷ 0x11 ∷ 0x09 ∷ 0x05 ∷ 0x00 ∷ 0x42 ∷ 0x41
    ∷ 0x84 ∷ 0x21 ∷ 0x10 ∷ 0x01 ∷ 0x08 ∷ 0x24 ∷ 0x0c ∷ 0x83 ∷ 0x88 ∷ []

-- ---- the test

unfoldable pub tests : List (Answered Tested)
unfolding call
tests =
    -- selector and clutch both 0; selector 1
    test_call small both 0 1000
    ∷ test_call small selector 0x1000000000000000 1000
    -- over both kinds of variables, with values tried and given up: nothing assigned; the second 2; the first 1 and the second 2; the first 0 and the second 2
    ∷ test_call mixed 0 0 1000
    ∷ test_call mixed second 0x0200000000000000 1000
    ∷ test_call mixed both 0x1200000000000000 1000
    ∷ test_call mixed both 0x0200000000000000 1000
    -- a limit that is just enough, and one below
    ∷ test_call mixed second 0x0200000000000000 13
    ∷ test_call mixed second 0x0200000000000000 12
    -- the highest value of a state variable
    ∷ test_call state_of_sixteen 0 0 1000
    -- a clause is already false: no trial, at any limit; also an empty clause
    ∷ test_call one_of_six selector 0 0
    ∷ test_call empty_clause 0 0 0
    -- the limit
    ∷ test_call small both 0 0
    ∷ test_call small both 0 1
    -- 14: a mask bit beyond D, the first, the seventeenth from the top, the last
    ∷ test_call small 0x2000000000000000 0 1000
    ∷ test_call small 0x0000800000000000 0 1000
    ∷ test_call small 1 0 1000
    -- 15: a value outside its domain, of the first and of the second variable; a nonzero nibble of an unassigned variable, and of an absent one
    ∷ test_call small selector 0x2000000000000000 1000
    ∷ test_call small both 0x0200000000000000 1000
    ∷ test_call small selector 0x0100000000000000 1000
    ∷ test_call small 0 0x0010000000000000 1000
    ∷ test_call small 0 1 1000
    -- 14 and 15; a bad sheet with bad words
    ∷ test_call small 0x2000000000000000 1 1000
    ∷ test_call other_edition 0x2000000000000000 1 1000
    ∷ []

pub tests-are : tests ≡
    answered (inconsistent 2)
    ∷ answered (consistent (1 ∷ 0 ∷ 0 ∷ []) 2)
    ∷ answered (consistent (0 ∷ 0 ∷ 1 ∷ 1 ∷ []) 6)
    ∷ answered (consistent (1 ∷ 2 ∷ 2 ∷ 0 ∷ []) 13)
    ∷ answered (consistent (1 ∷ 2 ∷ 2 ∷ 0 ∷ []) 6)
    ∷ answered (inconsistent 5)
    ∷ answered (consistent (1 ∷ 2 ∷ 2 ∷ 0 ∷ []) 13)
    ∷ answered (Tested.spent 12)
    ∷ answered (consistent (0 ∷ 15 ∷ []) 17)
    ∷ answered (inconsistent 0)
    ∷ answered (inconsistent 0)
    ∷ answered (Tested.spent 0)
    ∷ answered (Tested.spent 1)
    ∷ refused (by_host 14)
    ∷ refused (by_host 14)
    ∷ refused (by_host 14)
    ∷ refused (by_host 15)
    ∷ refused (by_host 15)
    ∷ refused (by_host 15)
    ∷ refused (by_host 15)
    ∷ refused (by_host 15)
    ∷ refused (by_host 14)
    ∷ refused (by_author 6)
    ∷ []
unfolding tests call tail small empty_clause other_edition mixed one_of_six state_of_sixteen test_call on_words word_grounds
tests-are = refl

-- ---- the reduction

unfoldable pub reductions : List (Answered ReducedAlone)
unfolding call
reductions =
    -- the whole is minimal; it is consistent
    reduce_call small both 0 1000
    ∷ reduce_call small both 0x1000000000000000 1000
    -- the same over both kinds of variables
    ∷ reduce_call mixed both 0x0200000000000000 1000
    ∷ reduce_call mixed second 0x0200000000000000 1000
    -- either member alone is a conflict: the first goes, the second stays
    ∷ reduce_call one_of_six both 0x0200000000000000 1000
    -- only the first is: the second goes
    ∷ reduce_call one_of_six both 0 1000
    -- nothing is needed where a clause is empty, at any limit
    ∷ reduce_call empty_clause both 0 0
    -- the limit strikes in the test of the whole, in the first test after it, in the second
    ∷ reduce_call small both 0 1
    ∷ reduce_call small both 0 4
    ∷ reduce_call small both 0 11
    -- refusals
    ∷ reduce_call small 0x2000000000000000 1 1000
    ∷ reduce_call small selector 0x2000000000000000 1000
    ∷ reduce_call other_edition 0x2000000000000000 1 1000
    ∷ []

pub reductions-are : reductions ≡
    answered (reduced (conflict (some 0 ∷ some 0 ∷ []) 12))
    ∷ answered (nothing 1)
    ∷ answered (reduced (conflict (some 0 ∷ some 2 ∷ []) 23))
    ∷ answered (nothing 13)
    ∷ answered (reduced (conflict (none ∷ some 2 ∷ []) 3))
    ∷ answered (reduced (conflict (some 0 ∷ none ∷ []) 2))
    ∷ answered (reduced (conflict (none ∷ none ∷ []) 0))
    ∷ answered (reduced (Reduced.spent 1))
    ∷ answered (reduced (Reduced.spent 4))
    ∷ answered (reduced (Reduced.spent 11))
    ∷ refused (by_host 14)
    ∷ refused (by_host 15)
    ∷ refused (by_author 6)
    ∷ []
unfolding reductions call tail small empty_clause other_edition mixed one_of_six reduce_call on_words word_grounds reduce_alone
reductions-are = refl
