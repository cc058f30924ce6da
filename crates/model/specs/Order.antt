-- Specification, "Assignments" and "Listing": costs and products of weights, the order of full assignments, best states, and the whole set. Assumes nothing: these are definitions.
use Rattle.std.specs.Prelude.{Bool, true, false, ◌&&◌, ◌||◌, List, [], ◌∷◌, ◌++◌, map, ℕ, zero, suc, ◌+◌, ◌*◌, ltb, eqb, T, length, get_or}
use Rattle.std.proofs.Math.Option.{Option, none, some}
use Rattle.model.specs.Lists.{keep, any_of, place_all, values_from}
use Rattle.model.specs.Sheet.{Plant, Edition, decision_sizes, sizes}
use Rattle.model.specs.Assignment.{Assignment, code, full}
use Rattle.model.specs.Consistency.{all_hold, over_all}

-- ---- figures of full assignments

-- whether a figure is better than another: of costs the lesser, of weights and their products the greater
abbrev pub better : Bool → ℕ → ℕ → Bool
better false a b = ltb a b
better true a b = ltb b a

-- costs are added, weights are multiplied
abbrev pub join : Bool → ℕ → ℕ → ℕ
join false a b = a + b
join true a b = a * b

-- the cost of no variables, and their product
abbrev pub unit : Bool → ℕ
unit false = 0
unit true = 1

-- the figure of a full assignment, with a row of figures for each variable
abbrev pub figure_of : Bool → List (List ℕ) → List ℕ → ℕ
figure_of weighed [] f = unit weighed
figure_of weighed (r ∷ rs) [] = unit weighed
figure_of weighed (r ∷ rs) (x ∷ f) = join weighed (get_or r x 0) (figure_of weighed rs f)

-- its cost: the sum of its costs
abbrev pub cost : List (List ℕ) → List ℕ → ℕ
cost = figure_of false

-- in edition 2 the product of its weights
abbrev pub chance : List (List ℕ) → List ℕ → ℕ
chance = figure_of true

-- the best of the first n values of a row: the cheapest, or the one of greatest weight; the lowest on a tie
abbrev pub lower : Bool → ℕ → ℕ → ℕ
lower true new old = new
lower false new old = old

abbrev pub best_of : Bool → List ℕ → ℕ → ℕ
best_of weighed row zero = 0
best_of weighed row (suc n) = lower (better weighed (get_or row n 0) (get_or row (best_of weighed row n) 0)) n (best_of weighed row n)

-- a variable's best value
abbrev pub best_value : Bool → List ℕ → ℕ
best_value weighed row = best_of weighed row (length row)

-- its cheapest value
abbrev pub cheapest : List ℕ → ℕ
cheapest = best_value false

-- ---- an order of full assignments

-- what a listing asks of an order: each decision variable's best value, the figure listed beside a code, and whether it is a product of weights
pub record Order : Type 0 where
  pub preferred : List ℕ
  pub figure : List ℕ → ℕ
  pub weighed : Bool

-- the departures of a full assignment: how many decision variables are out of their value 0
abbrev pub departs : ℕ → ℕ
departs zero = 0
departs (suc x) = 1

abbrev pub departures : List ℕ → ℕ
departures [] = 0
departures (x ∷ f) = departs x + departures f

-- whether the one of two full assignments has fewer departures, or as many and the lower code as a number; `before` does not ask for departures
abbrev pub first_of_equal : List ℕ → List ℕ → Bool
first_of_equal f g = ltb (departures f) (departures g) || (eqb (departures f) (departures g) && ltb (code f) (code g))

-- which of two full assignments comes first: the better figure, then the lower code as a number
unfoldable pub before : Order → List ℕ → List ℕ → Bool
before o f g = better o.weighed (o.figure f) (o.figure g) || (eqb (o.figure f) (o.figure g) && ltb (code f) (code g))

-- the order of a plant's full assignments: of edition 1 cost, then code; of edition 2 the greatest product, then code
unfoldable pub order_of : Edition → Plant → Order
order_of e p = record { preferred = map (best_value e.weighed) p.costs; figure = figure_of e.weighed p.costs; weighed = e.weighed }

-- f comes before g
abbrev pub Before : Order → List ℕ → List ℕ → Type 0
Before o f g = T (before o f g)

-- ---- best state

-- the variable's value, or else the given one
abbrev pub value_or : ℕ → Option ℕ → ℕ
value_or x none = x
value_or x (some y) = y

-- the best state of a node: each unassigned variable at its preferred value
abbrev pub best : List ℕ → Assignment → List ℕ
best [] a = []
best (x ∷ xs) [] = []
best (x ∷ xs) (o ∷ a) = value_or x o ∷ best xs a

-- ---- the whole set

-- the product of the sizes: how many full assignments there are
abbrev pub product : List ℕ → ℕ
product [] = 1
product (s ∷ ss) = s * product ss

-- each list with a head of the first and a tail of the second
abbrev pub combine : List ℕ → List (List ℕ) → List (List ℕ)
combine [] fs = []
combine (x ∷ xs) fs = map (λ f. x ∷ f) fs ++ combine xs fs

-- every list of values within domains of these sizes, each once
abbrev pub every : List ℕ → List (List ℕ)
every [] = [] ∷ []
every (s ∷ ss) = combine (values_from 0 s) (every ss)

-- whether the values f extend an assignment
abbrev pub takes : ℕ → Option ℕ → Bool
takes x none = true
takes x (some y) = eqb x y

abbrev pub agrees : List ℕ → Assignment → Bool
agrees [] [] = true
agrees [] (o ∷ a) = false
agrees (x ∷ f) [] = false
agrees (x ∷ f) (o ∷ a) = takes x o && agrees f a

-- whether an assignment is consistent, by trying all values of all variables
unfoldable pub is_consistent : Plant → Assignment → Bool
is_consistent p a = any_of (λ f. agrees f (over_all p a) && all_hold f p.clauses) (every (sizes p))

-- all full consistent assignments, each once, in the order
unfoldable pub leading_states : Plant → Order → List (List ℕ)
leading_states p o = place_all (before o) (keep (λ f. is_consistent p (full f)) (every (decision_sizes p))) []

-- an entry of a list: a code with its cost, or with its product
pub record Entry : Type 0 where
  pub code : ℕ
  pub figure : ℕ

abbrev pub entry_of : Order → List ℕ → Entry
entry_of o f = record { code = code f; figure = o.figure f }

-- the whole set: the codes and costs of all full consistent assignments, each once, in the order
unfoldable pub whole_set : Plant → Order → List Entry
whole_set p o = map (entry_of o) (leading_states p o)
