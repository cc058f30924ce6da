-- Specification, "Consistency test": what consistent means, and the test with its trials. Assumes nothing: these are definitions.
use Rattle.std.specs.Prelude.{◌≡◌, Bool, true, false, not, List, ◌++◌, ℕ, zero, suc, ◌+◌, eqb, ltb, length, get_or, set, replicate}
use Rattle.std.proofs.Math.Option.{none, some}
use Rattle.model.specs.Lists.{any_of, all_of}
use Rattle.model.specs.Sheet.{Literal, Plant, sizes}
use Rattle.model.specs.Assignment.{Assignment, Fits, Agree, value_list}

-- ---- the meaning

-- whether a literal holds where its variable has the value x
unfoldable pub holds_at : ℕ → ℕ → ℕ → Bool
holds_at x sign value = elim (eqb sign 0) [ true ↦ eqb x value | false ↦ not (eqb x value) ]

unfoldable pub literal_holds : List ℕ → Literal → Bool
literal_holds f l = holds_at (get_or f l.variable 0) l.sign l.value

-- a clause holds if one of its literals holds; an empty clause never does
unfoldable pub clause_holds : List ℕ → List Literal → Bool
clause_holds f ls = any_of (literal_holds f) ls

-- whether values of all variables make every clause hold
unfoldable pub all_hold : List ℕ → List (List Literal) → Bool
all_hold f cs = all_of (clause_holds f) cs

-- an assignment to the decision variables as one to all variables: no state variable is assigned
abbrev pub over_all : Plant → Assignment → Assignment
over_all p a = a ++ replicate (length p.states) none

-- consistent: values of all other variables, decision and state, make every clause hold
pub record Satisfies (p : Plant) (a : Assignment) (f : List ℕ) : Type 0 where
  pub fits : Fits (sizes p) f
  pub extends : Agree f (over_all p a)
  pub holds : all_hold f p.clauses ≡ true

abbrev pub Consistent : Plant → Assignment → Type 0
Consistent p a = (f : List ℕ) × Satisfies p a f

-- ---- the test

-- whether a literal fails: its variable is assigned a value at which it does not hold
unfoldable pub literal_fails : Assignment → Literal → Bool
literal_fails a l = elim (get_or a l.variable none) [ none ↦ false | some x ↦ not (holds_at x l.sign l.value) ]

-- a clause is false if every literal is assigned and failing
unfoldable pub clause_false : Assignment → List Literal → Bool
clause_false a ls = all_of (literal_fails a) ls

-- whether some clause is false
unfoldable pub any_false : Assignment → List (List Literal) → Bool
any_false a cs = any_of (clause_false a) cs

-- how a test ends: with the trials made so far, and where it is consistent the value of every variable, the first complete success
pub data Tested : Type 0 where
  consistent : List ℕ → ℕ → Tested
  inconsistent : ℕ → Tested
  spent : ℕ → Tested

-- where one attempt is inconsistent, the next goes on from its trials
unfoldable pub or_else : Tested → (ℕ → Tested) → Tested
or_else (consistent f t) next = consistent f t
or_else (inconsistent t) next = next t
or_else (spent t) next = spent t

module _ (clauses : List (List Literal)) (limit : ℕ) where
  -- the n values x, x + 1, .. of the variable v in turn, with `used` trials made; `deeper` goes on with the variables after v
  unfoldable pub try_values : (ℕ → Assignment → Tested) → ℕ → Assignment → ℕ → ℕ → ℕ → Tested
  try_values deeper v a zero x used = inconsistent used
  try_values deeper v a (suc n) x used =
      elim (ltb used limit) [
        | true ↦ or_else
            (elim (any_false (set a v (some x)) clauses) [ true ↦ inconsistent (used + 1) | false ↦ deeper (used + 1) (set a v (some x)) ])
            (λ t. try_values deeper v a n (x + 1) t)
        | false ↦ spent used
      ]

  -- the n variables v, v + 1, .. in turn, over domains of these sizes
  unfoldable pub explore : List ℕ → ℕ → ℕ → ℕ → Assignment → Tested
  explore domains zero v used a = consistent (value_list a) used
  explore domains (suc n) v used a =
      elim (get_or a v none) [
        | none ↦ try_values (explore domains n (v + 1)) v a (get_or domains v 0) 0 used
        | some x ↦ explore domains n (v + 1) used a
      ]

-- the test of an assignment to the decision variables, with `used` trials made before; the limit covers all
unfoldable pub test : Plant → ℕ → Assignment → ℕ → Tested
test p limit a used =
    elim (any_false (over_all p a) p.clauses) [
      | true ↦ inconsistent used
      | false ↦ explore p.clauses limit (sizes p) (length (sizes p)) 0 used (over_all p a)
    ]
