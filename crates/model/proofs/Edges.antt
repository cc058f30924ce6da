-- Rows for runs: offered entries, limits, the store and the queue at their ends, conflicts in their order, and the largest sizes. Assumes nothing.
use Rattle.std.specs.Prelude.{◌≡◌, refl, List, [], ◌∷◌, ◌++◌, ℕ, replicate}
use Rattle.model.specs.Lists.{place, place_all}
use Rattle.model.specs.Digits.{number}
use Rattle.model.specs.Sheet.{Plant, Read, edition1, read_sheet}
use Rattle.model.specs.Consistency.{holds_at, literal_holds, clause_holds, all_hold}
use Rattle.model.specs.Order.{before, order_of, is_consistent, leading_states, whole_set}
use Rattle.model.specs.Listing.{Ending, enough, all, full, Next, ended, more, listing}
use Rattle.model.proofs.Examples.{Settings, Row, ◌gives◌, lists, shows, strikes, call, answers, expected, plain, tail, small, both, selector, three, as_p1}

-- the mask of the clutch alone, and of every second variable like it
abbrev pub second : ℕ
second = 0x4000000000000000

-- ---- more sheets

-- one decision variable of two values, and two clauses that forbid one each
unfoldable pub unsatisfiable : List ℕ
unsatisfiable = 0x01 ∷ 0x08 ∷ 0x00 ∷ 0x10 ∷ 0x80 ∷ 0x00 ∷ 0x00 ∷ 0x00 ∷ 0x88 ∷ 0x10 ∷ 0x10 ∷ 0x22 ∷ []

-- decision variables with costs 0 and with costs 2, 1; no clauses
unfoldable pub one_value : List ℕ
one_value = 0x01 ∷ 0x10 ∷ 0x00 ∷ 0x00 ∷ 0x00 ∷ 0x00 ∷ 0x08 ∷ 0x00 ∷ 0x10 ∷ 0x00 ∷ 0x08 ∷ []

-- decision variables with costs 0, 1 and with costs 0, 5; no clauses
unfoldable pub cheaper_first : List ℕ
cheaper_first = 0x01 ∷ 0x10 ∷ 0x00 ∷ 0x00 ∷ 0x80 ∷ 0x00 ∷ 0x00 ∷ 0x00 ∷ 0x88 ∷ 0x00 ∷ 0x00 ∷ 0x00 ∷ 0x28 ∷ []

-- decision variables with costs 0, 1 and with costs 5, 3, 0; no clauses
unfoldable pub cheaper_last : List ℕ
cheaper_last = 0x01 ∷ 0x10 ∷ 0x00 ∷ 0x00 ∷ 0x80 ∷ 0x00 ∷ 0x00 ∷ 0x00 ∷ 0x90 ∷ 0x00 ∷ 0x28 ∷ 0x00 ∷ 0x18 ∷ 0x00 ∷ 0x00 ∷ []

-- a decision variable of three values, two of them forbidden
unfoldable pub one_left : List ℕ
one_left = 0x01 ∷ 0x08 ∷ 0x00 ∷ 0x11 ∷ 0x00 ∷ 0x00 ∷ 0x00 ∷ 0x00 ∷ 0x00 ∷ 0x00 ∷ 0x08 ∷ 0x11 ∷ 0x10 ∷ 0x24 ∷ []

-- one decision variable with costs 5, 4, 6; no clauses
unfoldable pub one_variable : List ℕ
one_variable = 0x01 ∷ 0x08 ∷ 0x00 ∷ 0x01 ∷ 0x00 ∷ 0x02 ∷ 0x80 ∷ 0x02 ∷ 0x00 ∷ 0x03 ∷ 0x00 ∷ []

-- costs 0, 3 and 0, 2, 0; the second is 0, the first is not 0
unfoldable pub one_of_six : List ℕ
one_of_six = 0x01 ∷ 0x10 ∷ 0x00 ∷ 0x10 ∷ 0x80 ∷ 0x00 ∷ 0x00 ∷ 0x01 ∷ 0x90 ∷ 0x00 ∷ 0x00 ∷ 0x00 ∷ 0x10 ∷ 0x00 ∷ 0x00 ∷ 0x82 ∷ 0x01 ∷ 0x02 ∷ 0x00 ∷ []

-- costs 2, 3 and 2, 3, 0; the second is not 1, the first is 1
unfoldable pub two_of_six : List ℕ
two_of_six = 0x01 ∷ 0x10 ∷ 0x00 ∷ 0x10 ∷ 0x80 ∷ 0x01 ∷ 0x00 ∷ 0x01 ∷ 0x90 ∷ 0x00 ∷ 0x10 ∷ 0x00 ∷ 0x18 ∷ 0x00 ∷ 0x00 ∷ 0x83 ∷ 0x11 ∷ 0x00 ∷ 0x20 ∷ []

-- costs 2, 2 and 1, 1, 0; the second is 0
unfoldable pub tied : List ℕ
tied = 0x01 ∷ 0x10 ∷ 0x00 ∷ 0x08 ∷ 0x80 ∷ 0x01 ∷ 0x00 ∷ 0x01 ∷ 0x10 ∷ 0x00 ∷ 0x08 ∷ 0x00 ∷ 0x08 ∷ 0x00 ∷ 0x00 ∷ 0x82 ∷ 0x00 ∷ []

-- costs 1, 2 and 2, 2; the first is 1
unfoldable pub first_is_one : List ℕ
first_is_one = 0x01 ∷ 0x10 ∷ 0x00 ∷ 0x08 ∷ 0x80 ∷ 0x00 ∷ 0x80 ∷ 0x01 ∷ 0x08 ∷ 0x00 ∷ 0x10 ∷ 0x00 ∷ 0x10 ∷ 0x80 ∷ 0x10 ∷ []

-- costs 0, 2, 0 and 1; the second, which has one value, is not 0
unfoldable pub nothing_holds : List ℕ
nothing_holds = 0x01 ∷ 0x10 ∷ 0x00 ∷ 0x09 ∷ 0x00 ∷ 0x00 ∷ 0x00 ∷ 0x01 ∷ 0x00 ∷ 0x00 ∷ 0x00 ∷ 0x00 ∷ 0x08 ∷ 0x83 ∷ 0x00 ∷ []

-- costs 1, 2 and 1, 1, 0 and 0; the third, which has one value, is not 0
unfoldable pub third_fails : List ℕ
third_fails = 0x01 ∷ 0x18 ∷ 0x00 ∷ 0x08 ∷ 0x80 ∷ 0x00 ∷ 0x80 ∷ 0x01 ∷ 0x10 ∷ 0x00 ∷ 0x08 ∷ 0x00 ∷ 0x08 ∷ 0x00 ∷ 0x00 ∷ 0x00 ∷ 0x00 ∷ 0x08 ∷ 0x50 ∷ []

-- costs 0, 1; the variable is 1; the sheet ends on a byte's end, with no filler
unfoldable pub no_filler : List ℕ
no_filler = 0x01 ∷ 0x08 ∷ 0x00 ∷ 0x08 ∷ 0x80 ∷ 0x00 ∷ 0x00 ∷ 0x00 ∷ 0x88 ∷ 0x01 ∷ []

-- sixteen decision variables of one value, with cost 1 and the last with cost 65,535
unfoldable pub sixteen_variables : List ℕ
sixteen_variables =
    0x01 ∷ 0x80 ∷ 0x00 ∷ 0x00 ∷ 0x00 ∷ 0x00 ∷ 0x80 ∷ 0x00 ∷ 0x08 ∷ 0x00 ∷ 0x00 ∷ 0x80 ∷ 0x00 ∷ 0x08 ∷ 0x00 ∷ 0x00 ∷ 0x80 ∷ 0x00 ∷ 0x08 ∷ 0x00
    ∷ 0x00 ∷ 0x80 ∷ 0x00 ∷ 0x08 ∷ 0x00 ∷ 0x00 ∷ 0x80 ∷ 0x00 ∷ 0x08 ∷ 0x00 ∷ 0x00 ∷ 0x80 ∷ 0x00 ∷ 0x08 ∷ 0x00 ∷ 0x00 ∷ 0x80 ∷ 0x00 ∷ 0x08 ∷ 0x00
    ∷ 0x00 ∷ 0x87 ∷ 0xff ∷ 0xf8 ∷ []

-- a decision variable of sixteen values, with costs 15 down to 0; it is not 15
unfoldable pub sixteen_values : List ℕ
sixteen_values =
    0x01 ∷ 0x08 ∷ 0x00 ∷ 0x0f ∷ 0x80 ∷ 0x07 ∷ 0x80 ∷ 0x07 ∷ 0x00 ∷ 0x06 ∷ 0x80 ∷ 0x06 ∷ 0x00 ∷ 0x05 ∷ 0x80 ∷ 0x05 ∷ 0x00 ∷ 0x04 ∷ 0x80 ∷ 0x04
    ∷ 0x00 ∷ 0x03 ∷ 0x80 ∷ 0x03 ∷ 0x00 ∷ 0x02 ∷ 0x80 ∷ 0x02 ∷ 0x00 ∷ 0x01 ∷ 0x80 ∷ 0x01 ∷ 0x00 ∷ 0x00 ∷ 0x80 ∷ 0x00 ∷ 0x08 ∷ 0x1f ∷ []

-- a decision variable of one value and 32 state variables of one value; the last of them is 0
unfoldable pub thirty_two_states : List ℕ
thirty_two_states = 0x01 ∷ 0x0c ∷ 0x00 ∷ 0x08 ∷ replicate 18 0x00 ++ (0x0c ∷ 0x00 ∷ [])

-- a decision variable of one value and a state variable of sixteen; the state is 15
unfoldable pub state_of_sixteen : List ℕ
state_of_sixteen = 0x01 ∷ 0x08 ∷ 0x20 ∷ 0x08 ∷ 0x00 ∷ 0x00 ∷ 0x78 ∷ 0x82 ∷ 0xf0 ∷ []

-- costs 0, 1; a clause of fifteen literals, all but the last of them the same
unfoldable pub fifteen_literals : List ℕ
fifteen_literals = 0x01 ∷ 0x08 ∷ 0x00 ∷ 0x08 ∷ 0x80 ∷ 0x00 ∷ 0x00 ∷ 0x00 ∷ 0xf8 ∷ replicate 20 0x00 ++ (0x40 ∷ [])

-- sixteen decision variables of sixteen values, all at cost 0
unfoldable pub wide : Plant
wide = record { costs = replicate 16 (replicate 16 0); states = []; clauses = [] }

-- ---- offered entries

-- step 1: what is dropped, what survives and where it stands
unfoldable pub offers : List Row
offers =
    -- dropped, not well formed: a nonzero nibble of an absent variable, the last and the first; of an unassigned one
    plain small 16 8 4 (0 ∷ 1 ∷ []) 1000 gives as_p1
    ∷ plain small 16 8 4 (0 ∷ 0x0010000000000000 ∷ []) 1000 gives as_p1
    ∷ plain small 16 8 4 (selector ∷ 0x0100000000000000 ∷ []) 1000 gives as_p1
    -- dropped: a mask bit beyond D, the first, the seventeenth from the top, the last; a value outside its domain
    ∷ plain small 16 8 4 (0x2000000000000000 ∷ 0 ∷ []) 1000 gives as_p1
    ∷ plain small 16 8 4 (0xc000800000000000 ∷ 0 ∷ []) 1000 gives as_p1
    ∷ plain small 16 8 4 (0xc000000000000001 ∷ 0 ∷ []) 1000 gives as_p1
    ∷ plain small 16 8 4 (selector ∷ 0x2000000000000000 ∷ []) 1000 gives as_p1
    -- one that is dropped ends nothing: not well formed, then a conflict; consistent, then a conflict
    ∷ plain small 16 8 4 (0 ∷ 1 ∷ both ∷ 0 ∷ []) 1000 gives lists all three (3 ∷ 3 ∷ 6 ∷ []) (both ∷ 0 ∷ []) 3 0 0 5
    ∷ plain small 16 8 4 (selector ∷ 0x1000000000000000 ∷ both ∷ 0 ∷ []) 1000 gives lists all three (3 ∷ 3 ∷ 6 ∷ []) (both ∷ 0 ∷ []) 3 0 0 7
    -- the empty assignment on an unsatisfiable plant: the root has a conflict with no unassigned member
    ∷ plain unsatisfiable 16 8 4 (0 ∷ 0 ∷ []) 1000 gives lists all [] [] (0 ∷ 0 ∷ []) 0 0 0 2
    -- two that leave one child of the root, for which a queue of one entry has room
    ∷ plain one_left 16 1 4 (selector ∷ 0x1000000000000000 ∷ selector ∷ 0x2000000000000000 ∷ []) 1000
    gives lists all (0 ∷ []) (0 ∷ []) (selector ∷ 0x1000000000000000 ∷ selector ∷ 0x2000000000000000 ∷ []) 1 0 0 0
    -- survivors close up in their order, unreduced, and what is learned comes after: a conflict, one not well formed, one consistent, a conflict
    ∷ plain one_of_six 16 8 5 (both ∷ 0x1200000000000000 ∷ 0 ∷ 1 ∷ selector ∷ 0x1000000000000000 ∷ selector ∷ 0 ∷ []) 1000
    gives lists all (0x1000000000000000 ∷ []) (3 ∷ []) (both ∷ 0x1200000000000000 ∷ selector ∷ 0 ∷ second ∷ 0x0100000000000000 ∷ []) 2 1 0 4
    ∷ []

pub offers-are : answers offers ≡ expected offers
unfolding offers answers expected plain tail small unsatisfiable one_left one_of_six three as_p1
offers-are = refl

-- the small plant with these words at the store's start, of which so many entries are held
unfoldable pub holding : List ℕ → ℕ → Settings
holding offered held = record {
  sheet = small;
  k = 16;
  codes = 16;
  costs = 16;
  values = 768;
  queue = 16;
  store = 8;
  offered = offered;
  held = held;
  limit = 1000;
}

-- entries behind those held are not taken, and are overwritten: a conflict with none held; behind a consistent one; behind a conflict
unfoldable pub behind : List Row
behind =
    holding (both ∷ 0 ∷ []) 0 gives as_p1
    ∷ holding (selector ∷ 0x1000000000000000 ∷ both ∷ 0 ∷ []) 1 gives lists all three (3 ∷ 3 ∷ 6 ∷ []) (both ∷ 0 ∷ []) 4 1 0 17
    ∷ holding (both ∷ 0 ∷ both ∷ 0 ∷ []) 1 gives lists all three (3 ∷ 3 ∷ 6 ∷ []) (both ∷ 0 ∷ []) 3 0 0 5
    ∷ []

pub behind-are : answers behind ≡ expected behind
unfolding behind answers expected holding tail small three as_p1
behind-are = refl

-- ---- limits

unfoldable pub limits : List Row
limits =
    -- in step 1, at the first trial of the first entry, at its second
    plain small 16 8 4 (both ∷ 0 ∷ []) 0 gives lists Ending.spent [] [] [] 0 0 0 0
    ∷ plain small 16 8 4 (both ∷ 0 ∷ []) 1 gives lists Ending.spent [] [] [] 0 0 0 1
    -- at the first trial of the second entry, at its second: the survivor before it is kept, and it is not
    ∷ plain small 16 8 4 (both ∷ 0 ∷ both ∷ 0 ∷ []) 2 gives lists Ending.spent [] [] (both ∷ 0 ∷ []) 0 0 0 2
    ∷ plain small 16 8 4 (both ∷ 0 ∷ both ∷ 0 ∷ []) 3 gives lists Ending.spent [] [] (both ∷ 0 ∷ []) 0 0 0 3
    -- no entry after it is looked at, nor a node, though both need no trial
    ∷ plain one_of_six 16 8 4 (selector ∷ 0x1000000000000000 ∷ selector ∷ 0 ∷ []) 0 gives lists Ending.spent [] [] [] 0 0 0 0
    -- in step 7's first test, at its first trial and at its second; in its second test, with nothing listed; in its third
    ∷ plain small 16 8 4 [] 0 gives lists Ending.spent [] [] [] 0 0 0 0
    ∷ plain small 16 8 4 [] 1 gives lists Ending.spent [] [] [] 0 0 0 1
    ∷ plain small 16 8 4 [] 12 gives lists Ending.spent [] [] (both ∷ 0 ∷ []) 1 1 0 12
    ∷ plain small 16 8 4 [] 13 gives lists Ending.spent (0x0100000000000000 ∷ []) (3 ∷ []) (both ∷ 0 ∷ []) 2 1 0 13
    -- in a reduction, at its first trial; in a later one, at its second trial, with a state listed and a conflict learned
    ∷ plain small 16 8 4 [] 2 gives strikes [] [] [] 1 0 0 2
    ∷ plain one_of_six 16 8 4 [] 3 gives strikes (0x1000000000000000 ∷ []) (3 ∷ []) (selector ∷ 0 ∷ []) 3 1 0 3
    -- a test that makes no trial is made at any limit
    ∷ plain one_of_six 16 8 0 [] 0 gives lists all (0x1000000000000000 ∷ []) (3 ∷ []) [] 6 0 5 0
    ∷ []

pub limits-are : answers limits ≡ expected limits
unfolding limits answers expected plain tail small one_of_six three
limits-are = refl

-- ---- the store and the queue

unfoldable pub rooms : List Row
rooms =
    -- no room in the store: nothing is reduced, no node leaves the queue; room for one; for two of three; for all
    plain small 16 8 0 [] 1000 gives lists all three (3 ∷ 3 ∷ 6 ∷ []) [] 4 0 1 5
    ∷ plain two_of_six 16 8 0 [] 1000 gives lists all (0x1200000000000000 ∷ 0x1000000000000000 ∷ []) (3 ∷ 5 ∷ []) [] 6 0 4 0
    ∷ plain two_of_six 16 8 1 [] 1000 gives lists all (0x1200000000000000 ∷ 0x1000000000000000 ∷ []) (3 ∷ 5 ∷ []) (selector ∷ 0 ∷ []) 4 1 1 2
    ∷ plain one_of_six 16 8 2 [] 1000 gives lists all (0x1000000000000000 ∷ []) (3 ∷ []) (selector ∷ 0 ∷ second ∷ 0x0200000000000000 ∷ []) 4 2 1 5
    ∷ plain one_of_six 16 8 3 [] 1000
    gives lists all (0x1000000000000000 ∷ []) (3 ∷ []) (selector ∷ 0 ∷ second ∷ 0x0200000000000000 ∷ second ∷ 0x0100000000000000 ∷ []) 4 3 0 8
    -- a queue of four entries has room only because the nodes that manifest the learned conflict are removed from it; of three it has none
    ∷ plain two_of_six 16 4 4 [] 1000
    gives lists all (0x1200000000000000 ∷ 0x1000000000000000 ∷ []) (3 ∷ 5 ∷ []) (selector ∷ 0 ∷ second ∷ 0x0100000000000000 ∷ []) 4 2 0 5
    ∷ plain two_of_six 16 3 4 [] 1000 gives lists full [] [] [] 0 0 0 0
    -- children that manifest a stored conflict are not put in: with them the queue of two entries would be full at the next node
    ∷ plain one_of_six 16 2 4 (second ∷ 0x0100000000000000 ∷ second ∷ 0x0200000000000000 ∷ []) 1000
    gives lists all (0x1000000000000000 ∷ []) (3 ∷ []) (second ∷ 0x0100000000000000 ∷ second ∷ 0x0200000000000000 ∷ selector ∷ 0 ∷ []) 2 1 0 2
    -- the first unresolved conflict is taken: of the second's children there would be two, for a queue of one entry
    ∷ plain nothing_holds 16 1 3 (both ∷ 0x2000000000000000 ∷ selector ∷ 0 ∷ []) 1000
    gives lists all [] [] (0 ∷ 0 ∷ []) 1 1 0 7
    -- a conflict's members are taken from the lowest up: from the highest down the queue of two entries would be full
    ∷ plain first_is_one 16 2 2 (both ∷ 0 ∷ []) 1000 gives lists all (0x1000000000000000 ∷ 0x1100000000000000 ∷ []) (4 ∷ 4 ∷ []) (selector ∷ 0 ∷ []) 3 1 0 2
    -- a value for a variable that is no member resolves nothing: the nodes would be branched instead, and the queue of four entries full
    ∷ plain third_fails 16 4 2 (both ∷ 0x1100000000000000 ∷ 0x2000000000000000 ∷ 0 ∷ []) 1000
    gives lists all [] [] (both ∷ 0x1100000000000000 ∷ 0x2000000000000000 ∷ 0 ∷ []) 0 0 0 1
    ∷ []

pub rooms-are : answers rooms ≡ expected rooms
unfolding rooms answers expected plain tail small one_of_six two_of_six nothing_holds first_is_one third_fails three
rooms-are = refl

-- ---- the k-th state and the empty queue

-- step 3 looks at the queue first: 'all' where listing the k-th state left it empty, 'enough' where a node is left
unfoldable pub lasts : List Row
lasts =
    -- as many states as there are, and the queue is empty; one more; one fewer, and a state is left
    plain cheaper_first 4 8 4 [] 1000
    gives lists all (0 ∷ 0x1000000000000000 ∷ 0x0100000000000000 ∷ 0x1100000000000000 ∷ []) (0 ∷ 1 ∷ 5 ∷ 6 ∷ []) [] 4 0 0 0
    ∷ plain cheaper_first 5 8 4 [] 1000
    gives lists all (0 ∷ 0x1000000000000000 ∷ 0x0100000000000000 ∷ 0x1100000000000000 ∷ []) (0 ∷ 1 ∷ 5 ∷ 6 ∷ []) [] 4 0 0 0
    ∷ plain cheaper_first 3 8 4 [] 1000 gives lists enough (0 ∷ 0x1000000000000000 ∷ 0x0100000000000000 ∷ []) (0 ∷ 1 ∷ 5 ∷ []) [] 3 0 0 0
    -- as many as there are, and one node is left, which holds no consistent assignment; one more, and it is tested
    ∷ plain two_of_six 2 8 4 [] 1000 gives lists enough (0x1200000000000000 ∷ 0x1000000000000000 ∷ []) (3 ∷ 5 ∷ []) (selector ∷ 0 ∷ []) 3 1 0 2
    ∷ plain two_of_six 3 8 4 [] 1000
    gives lists all (0x1200000000000000 ∷ 0x1000000000000000 ∷ []) (3 ∷ 5 ∷ []) (selector ∷ 0 ∷ second ∷ 0x0100000000000000 ∷ []) 4 2 0 5
    -- the only state, with two such nodes left; with conflicts offered that rule them out
    ∷ plain one_left 1 3 2 [] 1000 gives lists enough (0 ∷ []) (0 ∷ []) [] 1 0 0 0
    ∷ plain one_left 1 3 2 (selector ∷ 0x1000000000000000 ∷ selector ∷ 0x2000000000000000 ∷ []) 1000
    gives lists all (0 ∷ []) (0 ∷ []) (selector ∷ 0x1000000000000000 ∷ selector ∷ 0x2000000000000000 ∷ []) 1 0 0 0
    -- the only state is the last that is tested
    ∷ plain no_filler 1 2 1 [] 1000 gives lists all (0x1000000000000000 ∷ []) (1 ∷ []) (selector ∷ 0 ∷ []) 2 1 0 2
    -- the limit strikes in the test of the k-th state, and one trial later it does not
    ∷ plain small 3 8 4 [] 14 gives lists Ending.spent (0x0100000000000000 ∷ 0x1000000000000000 ∷ []) (3 ∷ 3 ∷ []) (both ∷ 0 ∷ []) 3 1 0 14
    ∷ plain small 3 8 4 [] 15 gives as_p1
    -- no consistent assignment, k 1: with a store, and without one
    ∷ plain unsatisfiable 1 8 4 [] 1000 gives lists all [] [] (0 ∷ 0 ∷ []) 1 1 0 2
    ∷ plain unsatisfiable 1 8 0 [] 1000 gives lists all [] [] [] 2 0 2 0
    ∷ []

pub lasts_are : answers lasts ≡ expected lasts
unfolding lasts answers expected plain tail small cheaper_first two_of_six one_left no_filler unsatisfiable three as_p1
lasts_are = refl

-- ---- order and sizes

unfoldable pub shapes : List Row
shapes =
    -- a one-value domain
    plain one_value 16 8 4 [] 1000 gives lists all (0x0100000000000000 ∷ 0 ∷ []) (1 ∷ 2 ∷ []) [] 2 0 0 0
    -- a queued node comes before a child generated later
    ∷ plain cheaper_first 16 8 4 [] 1000
    gives lists all (0 ∷ 0x1000000000000000 ∷ 0x0100000000000000 ∷ 0x1100000000000000 ∷ []) (0 ∷ 1 ∷ 5 ∷ 6 ∷ []) [] 4 0 0 0
    -- a node's best state takes the cheapest value, here the last: {first = 1} comes before the states with the second at 0 or 1
    ∷ plain cheaper_last 16 8 4 [] 1000
    gives lists all (0x0200000000000000 ∷ 0x1200000000000000 ∷ 0x0100000000000000 ∷ 0x1100000000000000 ∷ 0 ∷ 0x1000000000000000 ∷ []) (0 ∷ 1 ∷ 3 ∷ 4 ∷ 5 ∷ 6 ∷ []) [] 6 0 0 0
    -- one variable, listed to the end: the run takes as many steps as a sheet allows
    ∷ plain one_variable 16 8 4 [] 1000 gives lists all (0x1000000000000000 ∷ 0 ∷ 0x2000000000000000 ∷ []) (4 ∷ 5 ∷ 6 ∷ []) [] 3 0 0 0
    -- the lowest of two cheapest values counts: the node {second = 1}, with the best state 0 1, comes before the state 1 0
    ∷ plain tied 2 3 2 (second ∷ 0x0200000000000000 ∷ []) 1000
    gives lists all (0 ∷ 0x1000000000000000 ∷ []) (3 ∷ 3 ∷ []) (second ∷ 0x0200000000000000 ∷ second ∷ 0x0100000000000000 ∷ []) 3 1 0 2
    -- a sheet without filler
    ∷ plain no_filler 2 2 1 [] 1000 gives lists all (0x1000000000000000 ∷ []) (1 ∷ []) (selector ∷ 0 ∷ []) 2 1 0 2
    -- D 16, and a cost of 16 bits
    ∷ plain sixteen_variables 2 1 0 [] 1000 gives lists all (0 ∷ []) (65550 ∷ []) [] 1 0 0 0
    -- S 32, and the variable 32
    ∷ plain thirty_two_states 2 1 0 [] 1000 gives lists all (0 ∷ []) (0 ∷ []) [] 1 0 0 32
    -- a state variable of sixteen values
    ∷ plain state_of_sixteen 2 1 0 [] 1000 gives shows all (0 ∷ []) (0 ∷ []) ((0 ∷ 15 ∷ []) ∷ []) [] 1 0 0 16
    -- a clause of fifteen literals
    ∷ plain fifteen_literals 2 2 1 [] 1000 gives lists all (0 ∷ 0x1000000000000000 ∷ []) (0 ∷ 1 ∷ []) [] 2 0 0 0
    -- k 4,096, with a queue and a store of 8,192 words, and a decision variable of sixteen values
    ∷ plain sixteen_values 4096 4096 4096 [] 1000
    gives lists all
    (0xe000000000000000 ∷ 0xd000000000000000 ∷ 0xc000000000000000 ∷ 0xb000000000000000 ∷ 0xa000000000000000 ∷ 0x9000000000000000
    ∷ 0x8000000000000000 ∷ 0x7000000000000000 ∷ 0x6000000000000000 ∷ 0x5000000000000000 ∷ 0x4000000000000000 ∷ 0x3000000000000000
    ∷ 0x2000000000000000 ∷ 0x1000000000000000 ∷ 0 ∷ [])
    (1 ∷ 2 ∷ 3 ∷ 4 ∷ 5 ∷ 6 ∷ 7 ∷ 8 ∷ 9 ∷ 10 ∷ 11 ∷ 12 ∷ 13 ∷ 14 ∷ 15 ∷ [])
    (selector ∷ 0xf000000000000000 ∷ []) 16 1 0 1
    ∷ []

pub shapes-are : answers shapes ≡ expected shapes
unfolding shapes answers expected plain one_value cheaper_first cheaper_last one_variable tied no_filler sixteen_variables thirty_two_states state_of_sixteen fifteen_literals sixteen_values
shapes-are = refl

-- what is listed, of sixteen variables of sixteen values with k 3
unfoldable pub listed_of : Next → List (List ℕ)
listed_of (ended e s) = s.listed
listed_of (more s) = []

unfoldable pub wide_run : List (List ℕ)
unfolding call
wide_run = listed_of (listing wide (order_of edition1 wide) 3 4096 64 [] 1000)

pub wide-run : wide_run ≡ replicate 16 0 ∷ (replicate 15 0 ++ (1 ∷ [])) ∷ (replicate 15 0 ++ (2 ∷ [])) ∷ []
unfolding wide_run call wide listed_of
wide-run = refl

-- ---- the small plant, and its whole set

unfoldable pub small_plant : Plant
small_plant = record {
  costs = (0 ∷ 3 ∷ []) ∷ (0 ∷ 3 ∷ []) ∷ [];
  states = 2 ∷ [];
  clauses =
      (record { variable = 0; sign = 1; value = 0 } ∷ record { variable = 1; sign = 1; value = 0 } ∷ record { variable = 2; sign = 0; value = 1 } ∷ [])
      ∷ (record { variable = 2; sign = 0; value = 0 } ∷ [])
      ∷ [];
}

unfoldable pub read_small : Read Plant
unfolding call
read_small = read_sheet edition1 small

pub small-read : read_small ≡ Read.got small_plant 160
unfolding read_small call tail small small_plant
small-read = refl

pub small-whole : whole_set small_plant (order_of edition1 small_plant) ≡
    record { code = 0x0100000000000000; figure = 3 } ∷ record { code = 0x1000000000000000; figure = 3 } ∷ record { code = 0x1100000000000000; figure = 6 } ∷ []
unfolding whole_set leading_states place place_all is_consistent all_hold clause_holds literal_holds holds_at small_plant edition1 order_of before number
small-whole = refl
