-- `words::WidePair::narrowed` meets its contract: the mask is narrowed, and the values stay. Assumes nothing.
use Rattle.words.proofs.WidePair.narrowed.Goals as goal

pub returns : goal.returns
returns c a w = c.narrowed.ensures a c.args.self.values w
