-- `children::values` meets its contract: the best state's code under the widened mask is the values word. Assumes nothing.
use Rattle.children.proofs.Numbers.{words_are}
use Rattle.children.proofs.values.Goals as goal

pub returns : goal.returns
returns c w p n i = rw c.widened.ensures (words_are i)
