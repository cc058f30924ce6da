-- `queue::node_of` meets its contract: a node's entry has its mask and, masked, its values. Assumes nothing.
use Rattle.queue.proofs.EntryLaws.{node-words}
use Rattle.queue.proofs.node_of.Goals as goal

pub returns : goal.returns
returns c ss o n s w v e =
    record {
      mask = c.mask.result;
      words = rw (c.widened-wide.ensures, c.code.ensures, c.mask.ensures, w) (rw (← e) at (node-words ss o n s v));
      wide_is = c.widened-wide.ensures;
    }
