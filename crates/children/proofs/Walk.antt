-- What the words and the tables tell of one variable, and step 5: the children at the lowest that is unassigned. Assumes nothing.
use mathlib.Core.Path.{◌≡◌, refl, sym, ap, ◌∙◌}
use mathlib.Core.Bool.{Bool, true, false, not, ◌||◌, false≢true}
use mathlib.Core.Option.{Option as Maybe, none, some}
use mathlib.Core.List.{List, []}
use Prim.Native.Nat.{ℕ, zero, suc, ◌+◌, ◌≤◌, ◌<◌}
use native.Mathlib.Omega.{arith}
use native.Mathlib.Numerals.{add-one}
use lib.ListN.{length, get_or, length-map}
use lib.Seq.{get_or-take, length-take-le}
use Rattle.std.proofs.Common.{None, Result, Ok}
use Rattle.model.specs.Lists.{values_from}
use Rattle.model.specs.Digits.{digits}
use Rattle.model.specs.Sheet.{Plant, decision_sizes}
use Rattle.model.specs.Assignment.{Assignment, Valid, is_some, optional, assignment_of}
use Rattle.model.specs.Listing.{branching}
use Rattle.theory.specs.Words.{Words}
use Rattle.theory.specs.Nodes.{Filled}
use Rattle.theory.proofs.Agreement.{valid_length, filled_more}
use Rattle.theory.proofs.Words.{words_hold, assignment_at}
use Rattle.theory.proofs.Children.{branching-at, branching-full}
use Rattle.children.specs.Children.{Tables, Free, Step, Puts, variants, member}
use Rattle.children.specs.declared.Node.{Node}
use Rattle.children.specs.declared.Choices.{Choices}
use Rattle.children.specs.declared.Full.{Full}
use Rattle.children.proofs.Numbers.{words_are}
use Rattle.children.proofs.Putting.{put-nothing}

-- ---- one variable

-- an optional value that is not there
pub is_none : (o : Maybe ℕ) → is_some o ≡ false → o ≡ none
is_none none e = refl
is_none (some x) e = absurd (false≢true (sym e))

module _ {n : Assignment} {mask values v : ℕ} (w : Words n mask values) (l : v < length n) where
  -- whether a variable is assigned
  pub assigned-is : (r : Bool) → ((d values : ℕ) → d ≤ 16 → v < d → r ≡ is_some (get_or (assignment_of d mask values) v none)) → r ≡ is_some (get_or n v none)
  assigned-is r answer = answer (length n) values w.short l ∙ ap (λ (a : Assignment). is_some (get_or a v none)) (words_hold n mask values w)

-- where its bit is set a variable's value is its nibble
optional-is : (b x : ℕ) → is_some (optional b x) ≡ true → optional b x ≡ some x
optional-is zero x e = absurd (false≢true e)
optional-is (suc b) x e = refl

-- so of words of an assignment the nibble is the value of a variable that is assigned
pub nibble-is : {c : Assignment} {mask values v : ℕ} → Words c mask values → v < length c → is_some (get_or c v none) ≡ true → get_or c v none ≡ some (get_or (digits 16 16 values) v 0)
nibble-is {c} {mask} {values} {v} w l e =
    let at = sym (ap (λ (a : Assignment). get_or a v none) (words_hold c mask values w)) ∙ assignment_at (length c) mask values v w.short l in
    at ∙ optional-is (get_or (digits 2 64 mask) v 0) (get_or (digits 16 16 values) v 0) (ap is_some (sym at) ∙ e)

-- a variable more is assigned
pub filled_next : (n : Assignment) (v : ℕ) → Filled v n → is_some (get_or n v none) ≡ true → Filled (v + 1) n
filled_next n v h e = rw (add-one v) (go (get_or n v none) refl e)
  where
    go : (o : Maybe ℕ) → get_or n v none ≡ o → is_some o ≡ true → Filled (suc v) n
    go none f e = absurd (false≢true e)
    go (some x) f e = filled_more v n x f h

-- no value is wanted for a variable that the node has assigned, or the conflict has not
pub member-unwanted : (o q : Maybe ℕ) → (is_some o || not (is_some q)) ≡ true → member o q ≡ none
member-unwanted none none e = refl
member-unwanted none (some y) e = absurd (false≢true e)
member-unwanted (some x) q e = refl

-- for any other it is the conflict's
pub member-wanted : (o q : Maybe ℕ) → (is_some o || not (is_some q)) ≡ false → (member o q ≡ q) × (is_some q ≡ true)
member-wanted none none e = absurd (false≢true (sym e))
member-wanted none (some y) e = (refl, refl)
member-wanted (some x) q e = absurd (false≢true (sym e))

-- ---- step 5

module _ {p : Plant} {choices : Choices} (t : Tables p choices) where
  -- there are d decision variables
  pub count-is : length p.costs ≡ choices.decisions
  count-is = sym (length-map p.costs length) ∙ ap length t.sizes-are ∙ length-take-le choices.decisions choices.sizes.now t.decisions

  -- a size is the table's
  pub size_is : (v : ℕ) → v < choices.decisions → get_or choices.sizes.now v 0 ≡ get_or (decision_sizes p) v 0
  size_is v h = sym (ap (λ (ss : List ℕ). get_or ss v 0) t.sizes-are ∙ get_or-take choices.decisions choices.sizes.now v 0 h)

  -- the table has the costs of an unassigned variable
  pub free_of : {n : Assignment} (v : ℕ) → v < choices.decisions → get_or n v none ≡ none → Free p n v choices
  free_of v h e = record { table = t.table; within = omega (arith, count-is); free = e }

  module _ (n : Assignment) (valid : Valid (decision_sizes p) n) where
    -- and as many in an assignment
    pub long-is : length n ≡ choices.decisions
    long-is = valid_length (decision_sizes p) n valid ∙ length-map p.costs length ∙ count-is

    -- no child where all variables are assigned
    branching-none : (v : ℕ) → v ≡ choices.decisions → Filled v n → branching (decision_sizes p) n ≡ []
    branching-none v e f = branching-full (decision_sizes p) n (valid_length (decision_sizes p) n valid) (rw (long-is, ← e) f)

    -- the children at the lowest unassigned variable
    branching-is : (v : ℕ) → v < choices.decisions → Filled v n → get_or n v none ≡ none → variants n v None (values_from 0 (get_or (decision_sizes p) v 0)) ≡ branching (decision_sizes p) n
    branching-is v h f e = sym (branching-at (decision_sizes p) n v (valid_length (decision_sizes p) n valid) (omega (arith, length-map p.costs length, count-is)) f e)

-- the lowest unassigned variable of a step's node, as `lowest_free` tells it
module _ {weighed : Bool} {node : Node} {queue : List ℕ} {k : ℕ} {store : List ℕ} {m : ℕ} (s : Step weighed node queue k store m) {choices : Choices} (t : Tables s.plant choices) where
  -- there is none
  pub branch_none : ((n : Assignment) (values : ℕ) → Words n node.mask values → length n ≡ choices.decisions → Filled choices.decisions n) → Puts s (branching (decision_sizes s.plant) s.parent) queue (Ok k)
  branch_none told = rw (branching-none t s.parent s.is.valid choices.decisions refl (told s.parent _ (words_are s.is) (long-is t s.parent s.is.valid))) (put-nothing s)

  module _ (v : ℕ) (inside : v < choices.decisions) (told : (n : Assignment) (values : ℕ) → Words n node.mask values → length n ≡ choices.decisions → Filled v n × (get_or n v none ≡ none)) where
    -- all before it are assigned, and it is not
    pub lowest : Filled v s.parent × (get_or s.parent v none ≡ none)
    lowest = told s.parent _ (words_are s.is) (long-is t s.parent s.is.valid)

    -- its variants are the children
    pub branch_puts : (after : List ℕ) (r : Result ℕ Full) → Puts s (variants s.parent v None (values_from 0 (get_or (decision_sizes s.plant) v 0))) after r → Puts s (branching (decision_sizes s.plant) s.parent) after r
    branch_puts after r p = rw (← branching-is t s.parent s.is.valid v inside lowest.0 lowest.1) p
