-- `children::widened` meets its contract: the best state's code under the widened mask is the values word. Assumes nothing.
use Rattle.children.proofs.Numbers.{words_are}
use Rattle.children.proofs.widened.Goals as goal

pub returns : goal.returns
returns c w p n i = record {
  mask = c.args.node.mask;
  words = rw c.widened-wide.ensures (words_are i);
  wide_is = c.widened-wide.ensures;
}
