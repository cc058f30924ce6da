-- `queue::entry_of` meets its contract: its words are the definition's. Assumes nothing.
use mathlib.Core.Path.{sym, ◌∙◌}
use Prim.Native.Nat.{◌/◌, ◌^◌}
use native.Mathlib.Omega.{arith}
use Rattle.queue.specs.Order.{entry_of}
use Rattle.queue.proofs.EntryLaws.{shifted-room, cost-words, product-words, state-fits}
use Rattle.queue.proofs.entry_of.Goals as goal

pub returns-then-weighed : goal.returns-then-weighed
unfolding entry_of
returns-then-weighed c ss o n s w v m b f = rw (← w, c.if-weighed.true, ← m, ← b, ← f) (product-words c.args.figure c.args.best_code c.args.mask (omega arith))

pub overflow_add-result-2 : goal.overflow_add-result-2
overflow_add-result-2 c = record { fits = shifted-room c.args.figure (2 ^ 20) (2 ^ 44) (c.args.best_code / 2 ^ 25) (omega arith) (omega arith) (omega arith) }

pub overflow_add-result-3 : goal.overflow_add-result-3
overflow_add-result-3 c = record { fits = shifted-room c.args.best_code (2 ^ 25) (2 ^ 39) (c.args.mask / 2 ^ 48) (omega arith) (omega arith) (omega arith) }

pub returns : goal.returns
unfolding entry_of
returns c ss o n s w v m b f =
    rw (← w, c.if-weighed.false, ← m, ← b, ← f) (cost-words c.args.figure c.args.best_code c.args.mask (rw f (state-fits ss o n s v (sym w ∙ c.if-weighed.false))))
