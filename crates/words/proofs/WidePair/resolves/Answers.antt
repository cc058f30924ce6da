-- `words::WidePair::resolves` meets its contract: each nibble of the word tested is other than zero exactly where the node differs from the conflict. Assumes nothing.
use Rattle.theory.proofs.WordsParallel.{resolves-word}
use Rattle.words.proofs.WidePair.resolves.Goals as goal

pub returns : goal.returns
returns c node conflict p q e = resolves-word node conflict c.args.self.mask c.args.self.values c.args.conflict.mask c.args.conflict.values p q e
