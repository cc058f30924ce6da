-- A place more than the logarithm says. Assumes nothing.
use Rattle.text.proofs.Putting.{fewest-from_power}
use Rattle.text.proofs.decimal_places.Goals as goal

pub returns : goal.returns
returns c = fewest-from_power c.args.n c.ilog10.result (rw c.max.ensures at c.ilog10.ensures.power_le) (rw c.max.ensures at c.ilog10.ensures.next_power_gt)
