-- Rows for the store, of whose conflicts none contains another: of those offered, and of those that a learned one pushes out. Assumes nothing.
use Rattle.std.specs.Prelude.{◌≡◌, refl, List, [], ◌∷◌, map}
use Rattle.std.proofs.Math.Option.{none, some}
use Rattle.model.specs.Assignment.{Assignment}
use Rattle.model.specs.Listing.{Ending, all, full, stored, survivors_of}
use Rattle.model.proofs.Examples.{Row, ◌gives◌, lists, answers, expected, plain, tail, small, both, selector, three}
use Rattle.model.proofs.Edges.{second, one_of_six, third_fails}

-- ---- conflicts alone

-- a conflict of one member, one of two that contains it, one of three that contains both
abbrev pub short : Assignment
short = none ∷ some 1 ∷ none ∷ []

abbrev pub longer : Assignment
longer = none ∷ some 1 ∷ some 0 ∷ []

abbrev pub longest : Assignment
longest = some 1 ∷ some 1 ∷ some 0 ∷ []

-- one of another variable, one of another value, the empty one
abbrev pub other : Assignment
other = some 0 ∷ none ∷ none ∷ []

abbrev pub unequal : Assignment
unequal = none ∷ some 2 ∷ none ∷ []

abbrev pub empty : Assignment
empty = none ∷ none ∷ none ∷ []

-- three of which each contains the next, in every order
pub chains : map survivors_of (
    (short ∷ longer ∷ longest ∷ []) ∷ (short ∷ longest ∷ longer ∷ []) ∷ (longer ∷ short ∷ longest ∷ [])
    ∷ (longer ∷ longest ∷ short ∷ []) ∷ (longest ∷ short ∷ longer ∷ []) ∷ (longest ∷ longer ∷ short ∷ []) ∷ []
    ) ≡ (short ∷ []) ∷ (short ∷ []) ∷ (short ∷ []) ∷ (short ∷ []) ∷ (short ∷ []) ∷ (short ∷ []) ∷ []
chains = refl

-- the shorter one stands before, and behind, others that stay in their order
pub apart : map survivors_of (
    (short ∷ other ∷ unequal ∷ longer ∷ []) ∷ (longer ∷ other ∷ unequal ∷ short ∷ [])
    ∷ (other ∷ longer ∷ unequal ∷ longest ∷ short ∷ []) ∷ (unequal ∷ other ∷ longer ∷ []) ∷ []
    ) ≡ (short ∷ other ∷ unequal ∷ []) ∷ (other ∷ unequal ∷ short ∷ [])
    ∷ (other ∷ unequal ∷ short ∷ []) ∷ (unequal ∷ other ∷ longer ∷ []) ∷ []
apart = refl

-- of equal ones the first remains, wherever the others stand, unless another is contained in them
pub equals : map survivors_of (
    (short ∷ short ∷ []) ∷ (short ∷ other ∷ short ∷ []) ∷ (longer ∷ other ∷ longer ∷ longer ∷ [])
    ∷ (longer ∷ longer ∷ short ∷ []) ∷ (short ∷ longer ∷ longer ∷ []) ∷ (longer ∷ short ∷ longer ∷ short ∷ []) ∷ []
    ) ≡ (short ∷ []) ∷ (short ∷ other ∷ []) ∷ (longer ∷ other ∷ [])
    ∷ (short ∷ []) ∷ (short ∷ []) ∷ (short ∷ []) ∷ []
equals = refl

-- the empty one is contained in every other
pub empties : map survivors_of ((empty ∷ short ∷ other ∷ []) ∷ (short ∷ other ∷ empty ∷ []) ∷ (empty ∷ empty ∷ []) ∷ []) ≡ (empty ∷ []) ∷ (empty ∷ []) ∷ (empty ∷ []) ∷ []
empties = refl

-- a learned one removes all that contain it, an equal one among them, and comes behind those that do not
pub pushed_out : map (λ s. stored s short) ([] ∷ (other ∷ []) ∷ (longest ∷ other ∷ longer ∷ unequal ∷ short ∷ []) ∷ (empty ∷ longer ∷ []) ∷ [])
    ≡ (short ∷ []) ∷ (other ∷ short ∷ []) ∷ (other ∷ unequal ∷ short ∷ []) ∷ (empty ∷ short ∷ []) ∷ []
pushed_out = refl

-- ---- step 1

-- a queue of one entry ends the run 'full' with the store as step 1 leaves it
unfoldable pub offered : List Row
offered =
    -- the longer one first, and last: it is tested all the same, with a trial
    plain third_fails 16 1 4 (both ∷ 0x1100000000000000 ∷ second ∷ 0x0100000000000000 ∷ []) 1000 gives lists full [] [] (second ∷ 0x0100000000000000 ∷ []) 0 0 0 5
    ∷ plain third_fails 16 1 4 (second ∷ 0x0100000000000000 ∷ both ∷ 0x1100000000000000 ∷ []) 1000 gives lists full [] [] (second ∷ 0x0100000000000000 ∷ []) 0 0 0 5
    -- three, of which each contains the next
    ∷ plain third_fails 16 1 4 (0xe000000000000000 ∷ 0x1100000000000000 ∷ 0x6000000000000000 ∷ 0x0100000000000000 ∷ second ∷ 0x0100000000000000 ∷ []) 1000
    gives lists full [] [] (second ∷ 0x0100000000000000 ∷ []) 0 0 0 4
    -- the empty one pushes out all others, before it and behind it
    ∷ plain third_fails 16 1 4 (both ∷ 0x1100000000000000 ∷ 0 ∷ 0 ∷ second ∷ 0x0100000000000000 ∷ []) 1000 gives lists all [] [] (0 ∷ 0 ∷ []) 0 0 0 19
    -- of equal ones the first remains; both are tested
    ∷ plain small 16 8 2 (both ∷ 0 ∷ both ∷ 0 ∷ []) 1000 gives lists all three (3 ∷ 3 ∷ 6 ∷ []) (both ∷ 0 ∷ []) 3 0 0 7
    ∷ plain one_of_six 16 8 4 (second ∷ 0x0100000000000000 ∷ selector ∷ 0 ∷ second ∷ 0x0100000000000000 ∷ []) 1000
    gives lists all (0x1000000000000000 ∷ []) (3 ∷ []) (second ∷ 0x0100000000000000 ∷ selector ∷ 0 ∷ second ∷ 0x0200000000000000 ∷ []) 2 1 0 3
    -- the limit strikes in step 1: before the shorter one is found, the longer one stays; behind it, it is gone; another found meanwhile stays
    ∷ plain third_fails 16 1 4 (both ∷ 0x1100000000000000 ∷ second ∷ 0x0100000000000000 ∷ both ∷ 0x0200000000000000 ∷ selector ∷ 0 ∷ []) 4
    gives lists Ending.spent [] [] (both ∷ 0x1100000000000000 ∷ []) 0 0 0 4
    ∷ plain third_fails 16 1 4 (both ∷ 0x1100000000000000 ∷ second ∷ 0x0100000000000000 ∷ both ∷ 0x0200000000000000 ∷ selector ∷ 0 ∷ []) 5
    gives lists Ending.spent [] [] (second ∷ 0x0100000000000000 ∷ []) 0 0 0 5
    ∷ plain third_fails 16 1 4 (both ∷ 0x1100000000000000 ∷ second ∷ 0x0100000000000000 ∷ both ∷ 0x0200000000000000 ∷ selector ∷ 0 ∷ []) 8
    gives lists Ending.spent [] [] (second ∷ 0x0100000000000000 ∷ both ∷ 0x0200000000000000 ∷ []) 0 0 0 8
    ∷ []

pub offered-are : answers offered ≡ expected offered
unfolding offered answers expected plain tail small third_fails one_of_six three
offered-are = refl

-- ---- step 7

unfoldable pub learned : List Row
learned =
    -- the learned {first = 0} pushes out the only survivor; in a store that is full nothing is reduced, though it would give way
    plain one_of_six 16 8 3 (both ∷ 0x0200000000000000 ∷ []) 1000
    gives lists all (0x1000000000000000 ∷ []) (3 ∷ []) (selector ∷ 0 ∷ second ∷ 0x0200000000000000 ∷ second ∷ 0x0100000000000000 ∷ []) 4 3 0 8
    ∷ plain one_of_six 16 8 1 (both ∷ 0x0200000000000000 ∷ []) 1000 gives lists all (0x1000000000000000 ∷ []) (3 ∷ []) (both ∷ 0x0200000000000000 ∷ []) 5 0 4 0
    -- the place that it leaves is free again: two are learned in a store of two with one survivor, a third is unkept
    ∷ plain one_of_six 16 8 2 (both ∷ 0x0200000000000000 ∷ []) 1000
    gives lists all (0x1000000000000000 ∷ []) (3 ∷ []) (selector ∷ 0 ∷ second ∷ 0x0200000000000000 ∷ []) 4 2 1 5
    -- one before others is pushed out: these close up in their order; the last of them
    ∷ plain one_of_six 16 8 4 (both ∷ 0 ∷ both ∷ 0x0100000000000000 ∷ []) 1000
    gives lists all (0x1000000000000000 ∷ []) (3 ∷ []) (both ∷ 0 ∷ second ∷ 0x0200000000000000 ∷ second ∷ 0x0100000000000000 ∷ []) 3 2 0 6
    ∷ plain one_of_six 16 8 4 (both ∷ 0 ∷ second ∷ 0x0100000000000000 ∷ both ∷ 0x0200000000000000 ∷ []) 1000
    gives lists all (0x1000000000000000 ∷ []) (3 ∷ []) (both ∷ 0 ∷ second ∷ 0x0100000000000000 ∷ second ∷ 0x0200000000000000 ∷ []) 2 1 0 3
    -- the empty one is learned, and all survivors go
    ∷ plain third_fails 16 8 4 (both ∷ 0x0100000000000000 ∷ selector ∷ 0x1000000000000000 ∷ second ∷ 0x0200000000000000 ∷ []) 1000 gives lists all [] [] (0 ∷ 0 ∷ []) 1 1 0 25
    ∷ []

pub learned-are : answers learned ≡ expected learned
unfolding learned answers expected plain tail one_of_six third_fails
learned-are = refl
