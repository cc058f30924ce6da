-- What the calls on a sheet and two words answer, as the model's. Assumes nothing: these are definitions.
use Rattle.std.specs.Prelude.{◌≡◌, Bool, true, false, List, [], ℕ, length, replicate, Result, Ok, Err}
use Rattle.std.proofs.Math.Option.{none, some}
use Rattle.model.specs.Sheet.{Plant, got, read_either, decision_sizes}
use Rattle.model.specs.Assignment.{Assignment, mask_of, values_of, assignment_of}
use Rattle.model.specs.Consistency.{Tested, consistent, inconsistent, Consistent}
use Rattle.model.specs.Conflict.{Reduced, ReducedAlone, reduced, Minimal, manifests}
use Rattle.model.specs.Calls.{by_host, first_given, word_grounds, Answered, refused, answered, state_bytes, shown_by}
use Rattle.theory.specs.Words.{Words}
use Rattle.theory.specs.Shown.{Shows}
use Rattle.trials.specs.declared.Answer.{Answer as Ended}
use Rattle.refusal.specs.declared.Refusal.{Refusal as Whose}
use Rattle.refusal.specs.Refusal.{refusal_of}
use Rattle.conflict_call.specs.declared.TestShown.{TestShown}
use Rattle.conflict_call.specs.declared.Reduction.{Reduction}
use Rattle.conflict_call.specs.declared.Asked.{Asked}

-- ---- both calls

-- what is answered, in other words
abbrev pub on_answer : {A B : Type 0} → (A → B) → Answered A → Answered B
on_answer f (refused r) = refused r
on_answer f (answered a) = answered (f a)

-- a call on a plant and two words: what refuses the words, or what the assignment answers
unfoldable pub on_plant : {A : Type 0} → Plant → ℕ → ℕ → (Assignment → A) → Answered A
on_plant p mask values ask =
    elim (first_given (word_grounds (decision_sizes p) mask values)) [
      | some n ↦ refused (by_host n)
      | none ↦ answered (ask (assignment_of (length p.costs) mask values))
    ]

-- ---- the test

-- how a test ends, without the values found
abbrev pub without_values : Tested → Tested
without_values (consistent f t) = consistent [] t
without_values (inconsistent t) = inconsistent t
without_values (Tested.spent t) = Tested.spent t

-- the bytes shown in an answer by value: those of the test, and zeros in a refusal
abbrev pub shown_in : Answered Tested → List ℕ
shown_in (refused r) = replicate state_bytes 0
shown_in (answered e) = shown_by e

-- how the code's test ended, without the values found
abbrev pub tested_of : Ended → Tested
tested_of (Ended.Consistent t) = consistent [] t
tested_of (Ended.Inconsistent t) = inconsistent t
tested_of (Ended.Spent t) = Tested.spent t

-- what the test call answers
abbrev pub test_of : Result Ended Whose → Answered Tested
test_of (Err r) = refused (refusal_of r)
test_of (Ok e) = answered (tested_of e)

-- what that says of the assignment: unless refused or spent, 'consistent' exactly where it is consistent, and then the bytes show it
abbrev pub TestSays : Plant → Assignment → List ℕ → Answered Tested → Type 0
TestSays p a bytes (refused r) = Unit {0}
TestSays p a bytes (answered (consistent f t)) = Consistent p a × Shows p a bytes
TestSays p a bytes (answered (inconsistent t)) = Consistent p a → ⊥
TestSays p a bytes (answered (Tested.spent t)) = Unit {0}

-- it is right about the assignment that the words hold to the decision variables of the sheet's plant, of either edition
abbrev pub TestRight : List ℕ → ℕ → ℕ → TestShown → Type 0
TestRight sheet mask values r = (p : Plant) (end : ℕ) → read_either sheet ≡ got p end → TestSays p (assignment_of (length p.costs) mask values) r.values (test_of r.answer)

-- ---- the reduction

-- how a reduction called alone ends, with a conflict by its two words
pub data Worded : Type 0 where
  nothing : ℕ → Worded
  conflict : ℕ → ℕ → ℕ → Worded
  spent : ℕ → Worded

abbrev pub worded : ReducedAlone → Worded
worded (ReducedAlone.nothing t) = nothing t
worded (reduced (Reduced.conflict c t)) = conflict (mask_of c) (values_of c) t
worded (reduced (Reduced.spent t)) = Worded.spent t

-- how the code's reduction ended
abbrev pub reduction_of : Reduction → Worded
reduction_of (Reduction.None t) = nothing t
reduction_of (Reduction.Conflict mask values t) = conflict mask values t
reduction_of (Reduction.Spent t) = Worded.spent t

-- what the reduce call answers
abbrev pub reduce_of : Result Reduction Whose → Answered Worded
reduce_of (Err r) = refused (refusal_of r)
reduce_of (Ok e) = answered (reduction_of e)

-- what that says of the assignment: 'none' that it is consistent, a conflict that it is not, and that the two words hold a minimal conflict contained in it
abbrev pub ReduceSays : Plant → Assignment → Answered Worded → Type 0
ReduceSays p a (refused r) = Unit {0}
ReduceSays p a (answered (nothing t)) = Consistent p a
ReduceSays p a (answered (conflict mask values t)) = (Consistent p a → ⊥) × ((c : Assignment) × Words c mask values × Minimal p c × (manifests a c ≡ true))
ReduceSays p a (answered (Worded.spent t)) = Unit {0}

abbrev pub ReduceRight : List ℕ → ℕ → ℕ → Result Reduction Whose → Type 0
ReduceRight sheet mask values r = (p : Plant) (end : ℕ) → read_either sheet ≡ got p end → ReduceSays p (assignment_of (length p.costs) mask values) (reduce_of r)

-- ---- both by one function

-- how the test ended, where the conflict is the whole
abbrev pub ending_of : Reduction → Tested
ending_of (Reduction.None t) = consistent [] t
ending_of (Reduction.Conflict mask values t) = inconsistent t
ending_of (Reduction.Spent t) = Tested.spent t

-- it answers as the test does, or as the reduction where a minimal conflict is asked for, and has the bytes that the test shows
pub record AnswersOk (minimal : Bool) (r : Asked) (e : Answered Tested) (o : Answered ReducedAlone) : Type 0 where
  pub test : minimal ≡ false → answered (ending_of r.answer) ≡ on_answer without_values e
  pub reduction : minimal ≡ true → answered (reduction_of r.answer) ≡ on_answer worded o
  pub shows : r.values ≡ shown_in e

-- a refusal is the test's and the reduction's
abbrev pub Answers : Bool → Result Asked Whose → Answered Tested → Answered ReducedAlone → Type 0
Answers minimal (Ok r) e o = AnswersOk minimal r e o
Answers minimal (Err r) e o = (e ≡ refused (refusal_of r)) × (o ≡ refused (refusal_of r))
