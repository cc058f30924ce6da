-- `queue::put` meets its contract: its two writes are the write of an entry. Assumes nothing.
use Rattle.queue.proofs.PairLaws.{write-pair}
use Rattle.queue.proofs.put.Goals as goal

pub returns : goal.returns
returns c = write-pair c.args.queue.now c.args.i c.args.e.a c.args.e.b c.requires
