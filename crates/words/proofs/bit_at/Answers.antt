-- `words::bit_at` meets its contract: a shift and a conjunction are a division and a remainder. Assumes nothing.
use Rattle.theory.proofs.WordsSet.{bit-read, bit_below}
use Rattle.words.proofs.bit_at.Goals as goal

pub returns : goal.returns
returns c = let e = bit-read c.args.mask c.args.v c.requires in (e, rw e (bit_below c.args.mask c.args.v))
