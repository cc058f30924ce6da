-- `tests::tested` meets its contract: it is the test without what it shows. Assumes nothing.
use Rattle.conflict.proofs.tests.tested.Goals as goal

pub returns : goal.returns
returns c = record {
  answer = (λ p costs t a w v. (c.test_shown-shown.ensures.answer p costs t a w v).0);
  long = c.test_shown-shown.ensures.long;
}
