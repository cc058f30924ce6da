-- `words::value` meets its contract: where the bit is zero the variable has no value, and otherwise its nibble is the value. Assumes nothing.
use Rattle.theory.proofs.Words.{assignment_at}
use Rattle.words.proofs.Loops.{optional_some}
use Rattle.words.proofs.value.Goals as goal

pub returns-then-bit_at-eq0 : goal.returns-then-bit_at-eq0
returns-then-bit_at-eq0 c d l h =
    let s = c.args in
    rw (assignment_at d s.mask s.values s.v l h, ← c.bit_at.ensures.0, c.if-bit_at-eq0.true)

pub returns : goal.returns
returns c d l h =
    let s = c.args in
    let b = c.bit_at in
    rw (assignment_at d s.mask s.values s.v l h, ← b.ensures.0, ← c.nibble_at.ensures.0, optional_some b.result c.nibble_at.result c.if-bit_at-eq0.false)
