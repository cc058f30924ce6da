-- `queue::stays` meets its contract: the node's words are compared with the conflict's. Assumes nothing.
use mathlib.Core.Path.{sym, ap, ◌∙◌}
use mathlib.Core.Bool.{not}
use Rattle.theory.proofs.Agreement.{valid_length}
use Rattle.queue.proofs.stays.Goals as goal

pub returns : goal.returns
returns c ss o n d s is v e w l =
    ap not (c.manifests.ensures n d (c.node_of.ensures ss o n s is v e) w (valid_length ss n v ∙ sym l))
