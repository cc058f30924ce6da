-- Rows for single definitions: steps that no short run reaches, children, best values, the whole set, and what the statements about them say. Assumes nothing.
use Rattle.std.specs.Prelude.{◌≡◌, refl, ◌⊎◌, true, false, List, [], ◌∷◌, ◌++◌, map, ℕ, ◌<◌, ltb, length, get_or, set}
use Rattle.std.proofs.Math.Option.{none, some}
use Rattle.model.specs.Lists.{Some, Mem, All, Pairs, Begins, place, place_all}
use Rattle.model.specs.Digits.{number}
use Rattle.model.specs.Sheet.{edition1, Plant, sizes}
use Rattle.model.specs.Assignment.{Assignment, Fits, Valid, Agree, is_some}
use Rattle.model.specs.Consistency.{Tested, test, holds_at, literal_holds, clause_holds, all_hold, over_all, Satisfies, Consistent}
use Rattle.model.specs.Conflict.{Conflict, Minimal, manifests, resolves}
use Rattle.model.specs.Order.{Order, before, cheapest, best, product, every, order_of, is_consistent, leading_states, whole_set}
use Rattle.model.specs.Listing.{State, Ending, ended, resolving, branching, most_tested, spent_in_test, judge}
use Rattle.model.specs.Calls.{run_list}
use Rattle.model.proofs.Edges.{small_plant}

-- ---- the greatest count of tests

-- tested already at its greatest: the run ends 'spent' with the state as it is, whatever else holds
pub tested-at-most : (p : Plant) (o : Order) (k entries places limit : ℕ) (s : State) (rest : List Assignment) (n : Assignment)
    → s.tested ≡ 4294967295 → judge p o k entries places limit s rest n ≡ ended Ending.spent s
unfolding judge
tested-at-most p o k entries places limit s rest n e = let h : ltb s.tested most_tested ≡ false = rw e in rw (judge, h)

-- one below that the test is made
pub tested-below : (p : Plant) (o : Order) (k entries places limit : ℕ) (s : State) (rest : List Assignment) (n : Assignment) (t : ℕ)
    → s.tested ≡ 4294967294 → test p limit n s.trials ≡ Tested.spent t → judge p o k entries places limit s rest n ≡ ended Ending.spent (spent_in_test s t)
unfolding judge
tested-below p o k entries places limit s rest n t e h = let g : ltb s.tested most_tested ≡ true = rw e in rw (judge, g, h)

-- ---- manifests and resolves

-- both variables at 0; the first at 0; the first at 0 and the second at 1; the first at 1; neither assigned
abbrev pub nodes : List Assignment
nodes = (some 0 ∷ some 0 ∷ []) ∷ (some 0 ∷ none ∷ []) ∷ (some 0 ∷ some 1 ∷ []) ∷ (some 1 ∷ none ∷ []) ∷ (none ∷ none ∷ []) ∷ []

-- the conflict of both at 0
pub manifests-both : map (λ n. manifests n (some 0 ∷ some 0 ∷ [])) nodes ≡ true ∷ false ∷ false ∷ false ∷ false ∷ []
manifests-both = refl

pub resolves-both : map (λ n. resolves n (some 0 ∷ some 0 ∷ [])) nodes ≡ false ∷ false ∷ true ∷ true ∷ false ∷ []
resolves-both = refl

-- the conflict of the second at 0: what the first has is no matter
pub manifests-second : map (λ n. manifests n (none ∷ some 0 ∷ [])) nodes ≡ true ∷ false ∷ false ∷ false ∷ false ∷ []
manifests-second = refl

pub resolves-second : map (λ n. resolves n (none ∷ some 0 ∷ [])) nodes ≡ false ∷ false ∷ true ∷ false ∷ false ∷ []
resolves-second = refl

-- the empty conflict: every node manifests it and none resolves it
pub manifests-empty : map (λ n. manifests n (none ∷ none ∷ [])) nodes ≡ true ∷ true ∷ true ∷ true ∷ true ∷ []
manifests-empty = refl

pub resolves-empty : map (λ n. resolves n (none ∷ none ∷ [])) nodes ≡ false ∷ false ∷ false ∷ false ∷ false ∷ []
resolves-empty = refl

-- ---- children

-- a conflict with no unassigned member: no children
pub no_member-left : resolving (2 ∷ 3 ∷ []) (some 0 ∷ none ∷ []) (some 0 ∷ none ∷ []) ≡ []
no_member-left = refl

-- with one: its other values
pub one-member-left : resolving (2 ∷ 3 ∷ []) (some 0 ∷ none ∷ []) (some 0 ∷ some 1 ∷ []) ≡ (some 0 ∷ some 0 ∷ []) ∷ (some 0 ∷ some 2 ∷ []) ∷ []
one-member-left = refl

-- with two, and a variable between them that is no member: the second's other values with the first at the conflict's
pub two-members-left : resolving (3 ∷ 2 ∷ 2 ∷ []) (none ∷ none ∷ none ∷ []) (some 1 ∷ none ∷ some 0 ∷ []) ≡
    (some 0 ∷ none ∷ none ∷ []) ∷ (some 2 ∷ none ∷ none ∷ []) ∷ (some 1 ∷ none ∷ some 1 ∷ []) ∷ []
two-members-left = refl

-- all resolved: the lowest unassigned variable, each value
pub lowest-unassigned : branching (2 ∷ 3 ∷ 2 ∷ []) (some 1 ∷ none ∷ none ∷ []) ≡
    (some 1 ∷ some 0 ∷ none ∷ []) ∷ (some 1 ∷ some 1 ∷ none ∷ []) ∷ (some 1 ∷ some 2 ∷ none ∷ []) ∷ []
lowest-unassigned = refl

-- ---- best values and the whole set

-- the cheapest value, the lowest on a tie, also at the end
pub cheapest-values : cheapest (3 ∷ 1 ∷ 1 ∷ 2 ∷ []) ∷ cheapest (2 ∷ 2 ∷ []) ∷ cheapest (2 ∷ 2 ∷ 1 ∷ []) ∷ cheapest (5 ∷ []) ∷ [] ≡ 1 ∷ 0 ∷ 2 ∷ 0 ∷ []
cheapest-values = refl

-- a best state keeps what is assigned
pub best-state : best (1 ∷ 2 ∷ 3 ∷ []) (none ∷ some 0 ∷ none ∷ []) ≡ 1 ∷ 0 ∷ 3 ∷ []
best-state = refl

-- the product of the sizes, and every list of values within them
pub product_of : product (2 ∷ 3 ∷ 4 ∷ []) ≡ 24
product_of = refl

pub every_of : every (2 ∷ 3 ∷ []) ≡ (0 ∷ 0 ∷ []) ∷ (0 ∷ 1 ∷ []) ∷ (0 ∷ 2 ∷ []) ∷ (1 ∷ 0 ∷ []) ∷ (1 ∷ 1 ∷ []) ∷ (1 ∷ 2 ∷ []) ∷ []
every_of = refl

-- costs 2, 0 and 0, 2, 1, no clauses: cost before code, and code where the costs are equal
unfoldable pub crossed : Plant
crossed = record { costs = (2 ∷ 0 ∷ []) ∷ (0 ∷ 2 ∷ 1 ∷ []) ∷ []; states = []; clauses = [] }

pub crossed-whole : whole_set crossed (order_of edition1 crossed) ≡
    record { code = 0x1000000000000000; figure = 0 }
    ∷ record { code = 0x1200000000000000; figure = 1 }
    ∷ record { code = 0x0000000000000000; figure = 2 }
    ∷ record { code = 0x1100000000000000; figure = 2 }
    ∷ record { code = 0x0200000000000000; figure = 3 }
    ∷ record { code = 0x0100000000000000; figure = 4 }
    ∷ []
unfolding whole_set leading_states place place_all is_consistent all_hold clause_holds literal_holds holds_at crossed edition1 order_of before number
crossed-whole = refl

-- a run's list: the codes with their costs, as many as listed says
pub run-list : run_list 2 (record { codes = 1 ∷ 2 ∷ 3 ∷ []; costs = 4 ∷ 5 ∷ 6 ∷ []; values = []; queue = []; store = [] }) ≡
    record { code = 1; figure = 4 } ∷ record { code = 2; figure = 5 } ∷ []
run-list = refl

-- ---- what the statements say, on lists of two or three

module _ (P : ℕ → Type 0) (R : ℕ → ℕ → Type 0) (x y z : ℕ) where
  pub some_is : Some P (x ∷ y ∷ []) ≡ (P x ⊎ (P y ⊎ ⊥))
  some_is = refl

  pub member_is : Mem z (x ∷ y ∷ []) ≡ ((z ≡ x) ⊎ ((z ≡ y) ⊎ ⊥))
  member_is = refl

  pub all-is : All P (x ∷ y ∷ []) ≡ (P x × (P y × Unit {0}))
  all-is = refl

  -- each with each later one
  pub pairs_is : Pairs R (x ∷ y ∷ z ∷ []) ≡ ((R x y × (R x z × Unit {0})) × ((R y z × Unit {0}) × (Unit {0} × Unit {0})))
  pairs_is = refl

-- a list begins itself with more behind it
pub begins-is : (xs rest : List ℕ) → Begins xs (xs ++ rest)
begins-is xs rest = (rest, refl)

-- a value for each variable, below its size, neither fewer nor more
pub fits-is : (s t x y : ℕ) → Fits (s ∷ t ∷ []) (x ∷ y ∷ []) ≡ ((x < s) × ((y < t) × Unit {0}))
fits-is s t x y = refl

pub fits-fewer : (s x : ℕ) → Fits (s ∷ []) [] ≡ ⊥
fits-fewer s x = refl

pub fits_more : (s x : ℕ) → Fits [] (x ∷ []) ≡ ⊥
fits_more s x = refl

-- an assignment: where there is a value it is below its size
pub valid-is : (s t u x y : ℕ) → Valid (s ∷ t ∷ u ∷ []) (some x ∷ none ∷ some y ∷ []) ≡ ((x < s) × (Unit {0} × ((y < u) × Unit {0})))
valid-is s t u x y = refl

pub valid-fewer : (s : ℕ) → Valid (s ∷ []) [] ≡ ⊥
valid-fewer s = refl

pub valid-more : Valid [] (none ∷ []) ≡ ⊥
valid-more = refl

-- values extend an assignment: they are its own where it has one
pub agree-is : (x y z a b : ℕ) → Agree (x ∷ y ∷ z ∷ []) (some a ∷ none ∷ some b ∷ []) ≡ ((x ≡ a) × (Unit {0} × ((z ≡ b) × Unit {0})))
agree-is x y z a b = refl

pub agree-fewer : Agree [] (none ∷ []) ≡ ⊥
agree-fewer = refl

pub agree-more : (x : ℕ) → Agree (x ∷ []) [] ≡ ⊥
agree-more x = refl

-- values satisfy a plant with an assignment: within the domains of all variables, extending it, with every clause true
pub satisfies-is : (p : Plant) (a : Assignment) (f : List ℕ) → Satisfies p a f → Fits (sizes p) f × (Agree f (over_all p a) × (all_hold f p.clauses ≡ true))
satisfies-is p a f h = (h.fits, (h.extends, h.holds))

-- what makes every clause hold, and what does not: selector 1; both 0 with the drive 1, and with it 0
pub clauses_hold : all_hold (1 ∷ 0 ∷ 0 ∷ []) small_plant.clauses ≡ true
unfolding small_plant all_hold clause_holds literal_holds holds_at
clauses_hold = refl

pub second-fails : all_hold (0 ∷ 0 ∷ 1 ∷ []) small_plant.clauses ≡ false
unfolding small_plant all_hold clause_holds literal_holds holds_at
second-fails = refl

pub first-fails : all_hold (0 ∷ 0 ∷ 0 ∷ []) small_plant.clauses ≡ false
unfolding small_plant all_hold clause_holds literal_holds holds_at
first-fails = refl

-- a conflict is valid and not consistent; a minimal one is consistent without any one member
pub conflict-is : (p : Plant) (c : Assignment) → Conflict p c → Consistent p c → ⊥
conflict-is p c h = h.inconsistent

pub minimal-is : (p : Plant) (c : Assignment) → Minimal p c → (v : ℕ) → v < length c → is_some (get_or c v none) ≡ true → Consistent p (set c v none)
minimal-is p c h = h.needed
