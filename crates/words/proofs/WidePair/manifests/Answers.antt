-- `words::WidePair::manifests` meets its contract: each nibble of the word tested is zero exactly where the node contains the conflict. Assumes nothing.
use Rattle.theory.proofs.WordsParallel.{manifests-word}
use Rattle.words.proofs.WidePair.manifests.Goals as goal

pub returns : goal.returns
returns c node conflict p q e = manifests-word node conflict c.args.self.mask c.args.self.values c.args.conflict.mask c.args.conflict.values p q e
