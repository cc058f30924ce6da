-- `words::WidePair::related` meets its contract: one contains the other exactly when the two are the same wherever the other is assigned. Assumes nothing.
use Rattle.theory.proofs.WordsParallel.{related-word}
use Rattle.words.proofs.WidePair.related.Goals as goal

pub returns : goal.returns
returns c n other p q e = related-word n other c.args.self.mask c.args.self.values c.args.other.mask c.args.other.values p q e
