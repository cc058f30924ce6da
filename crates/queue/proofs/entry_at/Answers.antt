-- `queue::entry_at` meets its contract: its two reads are the read of an entry. Assumes nothing.
use Rattle.queue.proofs.PairLaws.{read-pair}
use Rattle.queue.proofs.entry_at.Goals as goal

pub returns : goal.returns
returns c = read-pair c.args.queue.now c.args.i c.requires
