-- `queue::Entry::code` meets its contract: its text is the definition's. Assumes nothing.
use mathlib.Core.Path.{refl}
use Prim.Native.Nat.{◌/◌, ◌^◌}
use native.Mathlib.Omega.{arith}
use Rattle.queue.proofs.EntryLaws.{shifted-room}
use Rattle.queue.proofs.Entry.code.Goals as goal

pub returns-then-weighed : goal.returns-then-weighed
returns-then-weighed c = rw c.if-weighed.true refl

pub overflow_add-result : goal.overflow_add-result
overflow_add-result c = record { fits = shifted-room c.args.self.a (2 ^ 39) (2 ^ 25) (c.args.self.b / 2 ^ 39) (omega arith) (omega arith) (omega arith) }

pub returns : goal.returns
returns c = rw c.if-weighed.false refl
