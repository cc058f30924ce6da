-- What the test answers, and what it leaves in the lent bytes. Assumes nothing: these are definitions.
use Rattle.std.specs.Prelude.{◌≡◌, true, false, List, ℕ, ◌+◌, ◌-◌, length}
use Rattle.model.specs.Sheet.{Literal}
use Rattle.model.specs.Assignment.{Assignment}
use Rattle.model.specs.Consistency.{Tested, consistent, inconsistent, spent, any_false, explore}
use Rattle.trials.specs.declared.Answer.{Answer}
use Rattle.trials.specs.declared.Answer.TheVariants.{Consistent, Inconsistent, Spent}

-- the model's test over an assignment to all variables
unfoldable pub test_over : List (List Literal) → List ℕ → ℕ → ℕ → Assignment → Tested
test_over clauses sizes limit used a =
    elim (any_false a clauses) [
      | true ↦ inconsistent used
      | false ↦ explore clauses limit sizes (length sizes) 0 used a
    ]

-- the answer that the code gives
unfoldable pub answer_of : Tested → Answer
answer_of (consistent f t) = Consistent t
answer_of (inconsistent t) = Inconsistent t
answer_of (spent t) = Spent t

-- what it leaves in the lent bytes: the values found, or what was there before
unfoldable pub leaves : List ℕ → Tested → List ℕ
leaves before (consistent f t) = f
leaves before (inconsistent t) = before
leaves before (spent t) = before

-- the code ended as the model does
pub record Ended (e : Tested) (before after : List ℕ) (r : Answer) : Type 0 where
  pub answer : r ≡ answer_of e
  pub left : after ≡ leaves before e

-- the trials of a test are fewer
abbrev pub trials_below : ℕ
trials_below = 4294967296

-- ---- a search that counts the trials left

-- the answer with the trials made in place of those left, of `left` after `used`
unfoldable pub told : ℕ → ℕ → Answer → Answer
told used left (Answer.Consistent t) = Consistent (used + (left - t))
told used left (Answer.Inconsistent t) = Inconsistent (used + (left - t))
told used left (Answer.Spent t) = Spent (used + (left - t))

-- no more are left than there were
unfoldable pub trials_in : Answer → ℕ
trials_in (Answer.Consistent t) = t
trials_in (Answer.Inconsistent t) = t
trials_in (Answer.Spent t) = t
