-- `reduce::without` meets its contract: each way out is one way that the model's reduction goes at the variable v. Assumes nothing.
use mathlib.Core.Path.{◌≡◌, ◌∙◌}
use mathlib.Core.Bool.{true}
use mathlib.Core.Option.{none}
use native.Mathlib.Omega.{arith}
use lib.ListN.{get_or, set}
use Rattle.model.specs.Assignment.{is_some}
use Rattle.model.specs.Consistency.{test}
use Rattle.theory.specs.Words.{Words}
use Rattle.trials.specs.Answers.{answer_of}
use Rattle.conflict.specs.Given.{ForWordsOf}
use Rattle.conflict.proofs.Turns.{members, member, rest-valid, turn-free, turn-keep, turn_lose, turn-stop}
use Rattle.conflict.proofs.reduce.without.Goals.{After-tested}
use Rattle.conflict.proofs.reduce.without.Goals as goal

-- v is a member, and the rest without it was tested
rest-tested : (c : After-tested)
    → let s = c.args in let r = c.remove-rest.result in
    ForWordsOf s.plant.now s.now.mask s.now.values (λ p a.
    (is_some (get_or a s.v none) ≡ true) × Words (set a s.v none) r.mask r.values × (c.tested.result ≡ answer_of (test p s.limit (set a s.v none) s.now.trials)))
rest-tested c p costs t a w valid =
    let rest = c.remove-rest.ensures a w (omega (arith, members t a valid, c.requires.1)) in (
      member t a valid w c.args.v c.requires.1 c.is_assigned.ensures ∙ c.if-not-is_assigned.false,
      rest,
      c.tested.ensures.answer p costs t (set a c.args.v none) rest (rest-valid t a valid w c.args.v c.requires.1),
    )

pub returns-then-not-is_assigned : goal.returns-then-not-is_assigned
returns-then-not-is_assigned c =
    record {
      answer = λ p costs t a w valid.
          let e = member t a valid w c.args.v c.requires.1 c.is_assigned.ensures in
          turn-free t a valid w c.args.v c.requires.1 c.args.limit c.args.now.trials (e ∙ c.if-not-is_assigned.true);
      long = c.requires.0.planned;
    }

pub returns-in-Consistent : goal.returns-in-Consistent
returns-in-Consistent c =
    record {
      answer = λ p costs t a w valid.
          let k = rest-tested (goal.at.returns-in-Consistent c).After-tested p costs t a w valid in
          turn-keep t a valid w c.args.v c.requires.1 c.args.limit c.args.now.trials k.0 k.2 c.in-Consistent.is;
      long = c.tested.ensures.long;
    }

pub returns-in-Inconsistent : goal.returns-in-Inconsistent
returns-in-Inconsistent c =
    record {
      answer = λ p costs t a w valid.
          let k = rest-tested (goal.at.returns-in-Inconsistent c).After-tested p costs t a w valid in
          turn_lose t a valid w c.args.v c.requires.1 c.args.limit c.args.now.trials k.0 k.2 k.1 c.in-Inconsistent.is;
      long = c.tested.ensures.long;
    }

pub returns-in-Spent : goal.returns-in-Spent
returns-in-Spent c =
    record {
      answer = λ p costs t a w valid.
          let k = rest-tested (goal.at.returns-in-Spent c).After-tested p costs t a w valid in
          turn-stop t a valid w c.args.v c.requires.1 c.args.limit c.args.now.trials k.0 k.2 c.in-Spent.is;
      long = c.tested.ensures.long;
    }
