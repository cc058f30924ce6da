-- `words::remove` meets its contract: to clear a field subtracts its value at its place. Assumes nothing.
use Rattle.theory.proofs.WordsSet.{remove-words}
use Rattle.words.proofs.remove.Goals as goal

pub returns : goal.returns
returns c a w h =
    let s = c.args in
    rw (c.bit_at.ensures.0, c.nibble_at.ensures.0) (remove-words a s.mask s.values w s.v h)
