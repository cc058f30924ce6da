-- `root` meets its contract. Assumes nothing.
use Rattle.listing.proofs.Starting.{root_is}
use Rattle.listing.proofs.root.Goals as goal

pub returns : goal.returns
returns c p t ok e = root_is c.args.query.now.weighed t ok _ _ c.figure.ensures e
