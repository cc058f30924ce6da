-- `put` meets its contract: two stores fill the first two places. Assumes nothing.
use Rattle.export.proofs.Testing.{two-written}
use Rattle.export.proofs.put.Goals as goal

pub returns : goal.returns
returns c = two-written c.args.mask c.args.values c.args.conflict.now c.requires
