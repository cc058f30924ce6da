-- Specification, "Listing": its steps 1 to 7 and the run. Assumes nothing: these are definitions.
use Rattle.std.specs.Prelude.{Bool, true, false, not, ◌&&◌, ◌||◌, List, [], ◌∷◌, ◌++◌, map, ℕ, zero, suc, ◌+◌, ◌*◌, ltb, eqb, length}
use Rattle.std.proofs.Math.Option.{Option, none, some}
use Rattle.model.specs.Lists.{keep_if, keep, any_of, place, place_all, values_from}
use Rattle.model.specs.Sheet.{Plant, decision_sizes}
use Rattle.model.specs.Assignment.{Assignment, well_formed, assignment_of, is_full, value_list}
use Rattle.model.specs.Consistency.{Tested, consistent, inconsistent, test}
use Rattle.model.specs.Conflict.{manifests, resolves, Reduced, conflict, reduce}
use Rattle.model.specs.Order.{Order, before, best}

-- ---- the state of a run

pub record State : Type 0 where
  -- the nodes that are queued, in the order of their best states
  pub queue : List Assignment
  -- the stored conflicts, of which none contains another: survivors of step 1 that were not pushed out, then those learned
  pub store : List Assignment
  -- the states listed, in the order of listing
  pub listed : List (List ℕ)
  -- the value of every variable, for each of them, as its test found them
  pub shown : List (List ℕ)
  pub tested : ℕ
  pub learned : ℕ
  pub unkept : ℕ
  pub trials : ℕ
  -- whether the limit struck inside a reduction
  pub struck : Bool

pub data Ending : Type 0 where
  enough all full spent : Ending

-- after a step: the run has ended, or goes on
pub data Next : Type 0 where
  ended : Ending → State → Next
  more : State → Next

-- ---- the store

-- whether a node manifests a stored conflict
abbrev pub manifests_any : List Assignment → Assignment → Bool
manifests_any store n = any_of (manifests n) store

-- a learned conflict is put into the store: it first removes those that contain it, and is appended
abbrev pub stored : List Assignment → Assignment → List Assignment
stored store c = keep (λ d. not (manifests d c)) store ++ (c ∷ [])

-- a conflict contains another that is not equal to it
abbrev pub exceeds : Assignment → Assignment → Bool
exceeds c d = manifests c d && not (manifests d c)

-- of conflicts in their order, behind earlier ones: one that contains another is dropped, wherever the other stands, and of equal ones the first remains
abbrev pub shortest : List Assignment → List Assignment → List Assignment
shortest earlier [] = []
shortest earlier (c ∷ later) = keep_if (not (manifests_any earlier c || any_of (exceeds c) later)) c (shortest (earlier ++ (c ∷ [])) later)

-- of the offered entries found inconsistent those that survive
abbrev pub survivors_of : List Assignment → List Assignment
survivors_of found = shortest [] found

-- the first stored conflict that a node does not resolve
abbrev pub first_unresolved : List Assignment → Assignment → Option Assignment
first_unresolved [] n = none
first_unresolved (c ∷ store) n = elim (resolves n c) [ true ↦ first_unresolved store n | false ↦ some c ]

-- step 1: how the check of the offered entries ends: the survivors and the trials, or the limit struck before the last
pub data Checked : Type 0 where
  checked : List Assignment → ℕ → Checked
  broken_off : List Assignment → ℕ → Checked

-- an offered entry: its mask and its values
pub record Offer : Type 0 where
  pub mask : ℕ
  pub values : ℕ

module _ (p : Plant) (limit : ℕ) where
  -- each offered entry is checked in order: well formed, and found inconsistent by a test; others are dropped, and of those found the ones that contain another
  unfoldable pub check_offers : List Assignment → List Offer → ℕ → Checked
  check_offers found [] used = checked (survivors_of found) used
  check_offers found (o ∷ offers) used =
      elim (well_formed (decision_sizes p) o.mask o.values) [
        | false ↦ check_offers found offers used
        | true ↦ let c : Assignment = assignment_of (length p.costs) o.mask o.values in
            elim (test p limit c used) [
              | consistent f t ↦ check_offers found offers t
              | inconsistent t ↦ check_offers (found ++ (c ∷ [])) offers t
              | Tested.spent t ↦ broken_off (survivors_of found) t
            ]
      ]

-- ---- the children of a node

-- the values of a domain but one
abbrev pub other_values : ℕ → ℕ → List ℕ
other_values y s = keep (λ x. not (eqb x y)) (values_from 0 s)

-- step 4: for each unassigned member of the conflict in turn, the members before it at the conflict's values and it at each other value
abbrev pub resolving : List ℕ → Assignment → Assignment → List Assignment
resolving [] n c = []
resolving (s ∷ ss) [] c = []
resolving (s ∷ ss) (o ∷ n) [] = []
resolving (s ∷ ss) (some x ∷ n) (d ∷ c) = map (λ m. some x ∷ m) (resolving ss n c)
resolving (s ∷ ss) (none ∷ n) (none ∷ c) = map (λ m. none ∷ m) (resolving ss n c)
resolving (s ∷ ss) (none ∷ n) (some y ∷ c) = map (λ x. some x ∷ n) (other_values y s) ++ map (λ m. some y ∷ m) (resolving ss n c)

-- step 5: the lowest unassigned variable is given each value
abbrev pub branching : List ℕ → Assignment → List Assignment
branching [] n = []
branching (s ∷ ss) [] = []
branching (s ∷ ss) (none ∷ n) = map (λ x. some x ∷ n) (values_from 0 s)
branching (s ∷ ss) (some x ∷ n) = map (λ m. some x ∷ m) (branching ss n)

-- ---- the queue

module _ (o : Order) where
  -- a node's best state comes before another's
  abbrev pub ahead : Assignment → Assignment → Bool
  ahead n m = before o (best o.preferred n) (best o.preferred m)

  -- nodes are put into the queue, each at its place in the order of best states
  abbrev pub enqueue : Assignment → List Assignment → List Assignment
  enqueue n queue = place ahead n queue

  abbrev pub enqueue_all : List Assignment → List Assignment → List Assignment
  enqueue_all ns queue = place_all ahead ns queue

-- the nodes that manifest none of these conflicts
abbrev pub leave_off : List Assignment → List Assignment → List Assignment
leave_off store nodes = keep (λ n. not (manifests_any store n)) nodes

-- ---- what a step makes of the state; `rest` is the queue without the node removed

abbrev pub queued : State → List Assignment → State
queued s queue = record {
  queue = queue;
  store = s.store;
  listed = s.listed;
  shown = s.shown;
  tested = s.tested;
  learned = s.learned;
  unkept = s.unkept;
  trials = s.trials;
  struck = s.struck;
}

-- the test was consistent: the state f is listed, with the values g of all variables that the test found
abbrev pub listed_one : State → List Assignment → List ℕ → List ℕ → ℕ → State
listed_one s rest f g t = record {
  queue = rest;
  store = s.store;
  listed = s.listed ++ (f ∷ []);
  shown = s.shown ++ (g ∷ []);
  tested = s.tested + 1;
  learned = s.learned;
  unkept = s.unkept;
  trials = t;
  struck = s.struck;
}

-- the test was inconsistent and the store is full
abbrev pub unkept_one : State → List Assignment → ℕ → State
unkept_one s rest t = record {
  queue = rest;
  store = s.store;
  listed = s.listed;
  shown = s.shown;
  tested = s.tested + 1;
  learned = s.learned;
  unkept = s.unkept + 1;
  trials = t;
  struck = s.struck;
}

-- a conflict is learned, and the queue nodes that manifest it are removed
abbrev pub learned_one : State → List Assignment → Assignment → ℕ → State
learned_one s rest c t = record {
  queue = leave_off (c ∷ []) rest;
  store = stored s.store c;
  listed = s.listed;
  shown = s.shown;
  tested = s.tested + 1;
  learned = s.learned + 1;
  unkept = s.unkept;
  trials = t;
  struck = s.struck;
}

-- the limit struck in the test itself
abbrev pub spent_in_test : State → ℕ → State
spent_in_test s t = record {
  queue = s.queue;
  store = s.store;
  listed = s.listed;
  shown = s.shown;
  tested = s.tested;
  learned = s.learned;
  unkept = s.unkept;
  trials = t;
  struck = s.struck;
}

-- the limit struck inside the reduction: one test is counted whose conflict was not learned
abbrev pub spent_in_reduction : State → ℕ → State
spent_in_reduction s t = record {
  queue = s.queue;
  store = s.store;
  listed = s.listed;
  shown = s.shown;
  tested = s.tested + 1;
  learned = s.learned;
  unkept = s.unkept;
  trials = t;
  struck = true;
}

-- the greatest count of tests
abbrev pub most_tested : ℕ
most_tested = 4294967295

-- ---- steps 3 to 7, with a queue of so many entries and a store of so many

module _ (p : Plant) (o : Order) (k entries places limit : ℕ) where
  -- step 6: children that manifest a stored conflict are left off; if the others outnumber the free entries, counting the one just freed: 'full'
  unfoldable pub put_children : State → List Assignment → List Assignment → Next
  put_children s rest children =
      let others : List Assignment = leave_off s.store children in
      elim (ltb entries (length rest + length others)) [
        | true ↦ ended full s
        | false ↦ more (queued s (enqueue_all o others rest))
      ]

  -- step 7, the test was inconsistent with t trials: unkept, or reduced and learned
  unfoldable pub learn : State → List Assignment → Assignment → ℕ → Next
  learn s rest n t =
      elim (ltb (length s.store) places) [
        | false ↦ more (unkept_one s rest t)
        | true ↦ elim (reduce p limit n t) [
          | conflict c t' ↦ more (learned_one s rest c t')
          | Reduced.spent t' ↦ ended Ending.spent (spent_in_reduction s t')
        ]
      ]

  -- step 7: test, unless tested is already at its greatest
  unfoldable pub judge : State → List Assignment → Assignment → Next
  judge s rest n =
      elim (ltb s.tested most_tested) [
        | false ↦ ended Ending.spent s
        | true ↦ elim (test p limit n s.trials) [
          | consistent g t ↦ more (listed_one s rest (value_list n) g t)
          | inconsistent t ↦ learn s rest n t
          | Tested.spent t ↦ ended Ending.spent (spent_in_test s t)
        ]
      ]

  -- steps 4 to 7 with the node removed
  unfoldable pub expand : State → List Assignment → Assignment → Next
  expand s rest n =
      elim (first_unresolved s.store n) [
        | some c ↦ put_children s rest (resolving (decision_sizes p) n c)
        | none ↦ elim (is_full n) [
          | true ↦ judge s rest n
          | false ↦ put_children s rest (branching (decision_sizes p) n)
        ]
      ]

  -- step 3 with this queue: if it is empty 'all'; otherwise if k are listed 'enough'; otherwise the node whose best state comes first is removed
  unfoldable pub remove : State → List Assignment → Next
  remove s [] = ended all s
  remove s (n ∷ rest) = elim (ltb (length s.listed) k) [ false ↦ ended enough s | true ↦ expand s rest n ]

  -- step 3 looks at the queue first
  unfoldable pub step : State → Next
  step s = remove s s.queue

  -- so many steps at most
  unfoldable pub run : ℕ → State → Next
  run zero s = more s
  run (suc fuel) s = elim (step s) [ ended e t ↦ ended e t | more t ↦ run fuel t ]

-- ---- the listing whole

-- a bound on the steps that a queued node can cause: the product of size + 1 over its unassigned variables
abbrev pub weight : List ℕ → Assignment → ℕ
weight [] n = 1
weight (s ∷ ss) [] = 1
weight (s ∷ ss) (none ∷ n) = suc s * weight ss n
weight (s ∷ ss) (some x ∷ n) = weight ss n

-- the empty assignment
abbrev pub unassigned : List ℕ → Assignment
unassigned [] = []
unassigned (s ∷ ss) = none ∷ unassigned ss

-- step 2: the queue holds the empty assignment; every count starts at 0
unfoldable pub start : List ℕ → List Assignment → ℕ → State
start domains survivors used = record {
  queue = unassigned domains ∷ [];
  store = survivors;
  listed = [];
  shown = [];
  tested = 0;
  learned = 0;
  unkept = 0;
  trials = used;
  struck = false;
}

-- the steps that a sheet allows: the weight of the empty assignment, and one to end
unfoldable pub enough_steps : List ℕ → ℕ
enough_steps domains = suc (weight domains (unassigned domains))

-- steps 1 to 7
unfoldable pub listing : Plant → Order → ℕ → ℕ → ℕ → List Offer → ℕ → Next
listing p o k entries places offers limit =
    elim (check_offers p limit [] offers 0) [
      | checked survivors used ↦ run p o k entries places limit (enough_steps (decision_sizes p)) (start (decision_sizes p) survivors used)
      | broken_off survivors used ↦ ended Ending.spent (start (decision_sizes p) survivors used)
    ]
