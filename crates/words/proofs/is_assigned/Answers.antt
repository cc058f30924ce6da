-- `words::is_assigned` meets its contract: the bit at a place says whether the variable there has a value. Assumes nothing.
use lib.ListN.{get_or}
use Rattle.model.specs.Digits.{digits}
use Rattle.theory.proofs.Words.{assignment_at}
use Rattle.words.proofs.Loops.{bit_some}
use Rattle.words.proofs.is_assigned.Goals as goal

pub returns : goal.returns
returns c d values l h =
    let s = c.args in
    rw (assignment_at d s.mask values s.v l h, ← c.bit_at.ensures.0) (bit_some c.bit_at.result (get_or (digits 16 16 values) s.v 0) c.bit_at.ensures.1)
