-- `words::widened` meets its contract: each line of its code is a step of the law. Assumes nothing.
use Rattle.theory.proofs.WordsWide.{wide_word}
use Rattle.words.proofs.widened.Goals as goal

pub returns : goal.returns
returns c = wide_word c.args.mask c.ranges.mask.fits
