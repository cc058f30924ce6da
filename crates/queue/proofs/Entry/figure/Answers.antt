-- `queue::Entry::figure` meets its contract: its text is the definition's. Assumes nothing.
use mathlib.Core.Path.{refl}
use Rattle.queue.proofs.Entry.figure.Goals as goal

pub returns-then-weighed : goal.returns-then-weighed
returns-then-weighed c = rw c.if-weighed.true refl

pub returns : goal.returns
returns c = rw c.if-weighed.false refl
