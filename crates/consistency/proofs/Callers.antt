-- For callers: an accepted plant's tables are what the test asks for, and what it answers is the model's test of the plant. Assumes nothing.
use mathlib.Core.Path.{◌≡◌, refl, ap, ◌∙◌}
use mathlib.Core.List.{List, [], ◌∷◌, map}
use Prim.Native.Nat.{ℕ, suc, ◌*◌, ◌≤◌}
use native.Mathlib.Omega.{arith}
use lib.ListN.{length, length-append}
use Rattle.model.specs.Sheet.{Plant, edition1, decision_sizes, sizes}
use Rattle.model.specs.Consistency.{test, over_all}
use Rattle.model.specs.Lists.{All}
use Rattle.model.specs.Assignment.{Assignment, Under, Valid}
use Rattle.model.specs.Tables.{clauses, total}
use Rattle.theory.specs.Words.{byte}
use Rattle.theory.specs.Plant.{Accepted}
use Rattle.theory.proofs.Lists.{all_map, all_join, all_image}
use Rattle.theory.proofs.TableClauses.{clauses_length}
use Rattle.theory.proofs.Agreement.{valid-over}
use Rattle.theory.proofs.Words.{valid-small}
use Rattle.theory.proofs.Test.{accepted-present}
use Rattle.clauses.specs.Bytes.{given}
use Rattle.clauses.specs.Numbers.{variables, values}
use Rattle.clauses.specs.Tables.{Tables}
use Rattle.trials.specs.declared.Answer.{Answer}
use Rattle.trials.specs.Answers.{test_over, Ended}
use Rattle.trials.proofs.Bytes.{given-bytes}
use Rattle.trials.proofs.Endings.{moved}

-- ---- the test of an assignment to the decision variables

-- is the test over all variables with no state variable assigned
pub test-over : (p : Plant) (limit : ℕ) (a : Assignment) (used : ℕ) → test p limit a used ≡ test_over p.clauses (sizes p) limit used (over_all p a)
unfolding test test_over
test-over p limit a used = refl

map_length : {A B : Type 0} (f : A → B) (xs : List A) → length (map f xs) ≡ length xs
map_length f [] = refl
map_length f (x ∷ xs) = ap suc (map_length f xs)

-- ---- an accepted plant, whose sizes and clauses the tables hold

module _ (p : Plant) (ok : Accepted edition1 p) where
  -- its domains are small
  sizes-small : All (λ s. s ≤ values) (sizes p)
  sizes-small =
      all_join (λ s. s ≤ values) (decision_sizes p) p.states
      (all_image length (λ s. s ≤ values) p.costs (all_map (λ row h. h.1) p.costs ok.decision_sizes_lem))
      (all_map (λ s h. h.1) p.states ok.state-sizes)

  few : length (sizes p) ≤ variables
  unfolding edition1
  few = omega (arith, length-append (decision_sizes p) p.states, map_length length p.costs, ok.decisions, ok.states)

  module _ (a : Assignment) (valid : Valid (decision_sizes p) a) where
    all_valid : Valid (sizes p) (over_all p a)
    all_valid = valid-over (decision_sizes p) p.states a valid

    all_small : All (Under values) (over_all p a)
    all_small = valid-small (sizes p) (over_all p a) sizes-small all_valid

    -- what the bytes of an assignment give is the assignment
    pub bytes_give : map given (map byte (over_all p a)) ≡ over_all p a
    bytes_give = given-bytes (over_all p a) all_small

  module _ (ss counts lits : List ℕ) (sizes-are : sizes p ≡ ss) (clauses-are : p.clauses ≡ clauses counts lits) (room : 3 * total counts ≤ length lits) where
    -- the tables are those that the test and its preparation ask for
    pub plant-tables : Tables (length ss) counts lits
    plant-tables = record {
      most = omega (arith, ok.clauses, ap length clauses-are, clauses_length counts lits);
      room = room;
      below = rw (sizes-are, clauses-are) at (accepted-present edition1 p ok);
    }

    module _ (a : Assignment) (valid : Valid (decision_sizes p) a) (vals : List ℕ) (vals_are : vals ≡ map byte (over_all p a)) where
      -- with the bytes of an assignment to the decision variables the test is the model's
      pub plant-test : (limit used : ℕ) → test p limit a used ≡ test_over (clauses counts lits) ss limit used (map given vals)
      plant-test limit used = test-over p limit a used ∙ rw (vals_are, bytes_give a valid, sizes-are, clauses-are)

      pub plant-ended : (limit used : ℕ) (after : List ℕ) (r : Answer)
          → Ended (test_over (clauses counts lits) ss limit used (map given vals)) vals after r → Ended (test p limit a used) vals after r
      plant-ended limit used after r h = moved (test p limit a used) (test_over (clauses counts lits) ss limit used (map given vals)) vals after r (plant-test limit used) h
