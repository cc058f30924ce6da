-- `tests::test_shown` meets its contract: the filled bytes give the assignment to all variables, so the consistency test on them is the model's test, and what it leaves in them with zeros behind is what that test shows. Assumes nothing.
use mathlib.Core.Path.{sym}
use lib.Seq.{length-take-le}
use Rattle.conflict.proofs.Given.{filled-room, ready-given, ready-ended}
use Rattle.conflict.proofs.tests.test_shown.Goals as goal

pub slice_bounds-fill-end : goal.slice_bounds-fill-end
slice_bounds-fill-end c = sym (length-take-le _ _ c.requires.limits.few)

pub fill-requires : goal.fill-requires
fill-requires c =
    let g = c.requires.limits in
    (g.decisions, rw (length-take-le _ _ g.few) g.present)

pub slice_bounds-vals-end-2 : goal.slice_bounds-vals-end-2
slice_bounds-vals-end-2 c =
    filled-room c.requires c.args.mask c.args.values c.fill.ensures

pub slice_bounds-test-end : goal.slice_bounds-test-end
slice_bounds-test-end c =
    sym (ready-given c.requires c.args.mask c.args.values c.fill.ensures).0.same

pub test-answer-requires : goal.test-answer-requires
test-answer-requires c =
    ready-given c.requires c.args.mask c.args.values c.fill.ensures

pub returns : goal.returns
returns c =
    record {
      answer = λ p costs t a w v. rw c.shown_of.ensures
          (ready-ended c.requires c.args.mask c.args.values c.fill.ensures t a w v c.args.limit c.args.used _ _
          c.test-answer.ensures.ended c.test-answer.auto.vals);
      long = c.test-answer.ensures.long;
    }
