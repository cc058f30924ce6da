-- `words::narrowed` meets its contract: its code is that of the law. Assumes nothing.
use Rattle.theory.proofs.WordsWide.{narrow-words}
use Rattle.words.proofs.narrowed.Goals as goal

pub returns : goal.returns
returns c a values w = narrow-words a c.args.wide values w
