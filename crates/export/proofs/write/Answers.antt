-- `write` meets its contract: six stores fill the first six places. Assumes nothing.
use Rattle.export.proofs.Listing.{six_written}
use Rattle.export.proofs.write.Goals as goal

pub returns : goal.returns
returns c =
    rw (← c.ending_number.ensures) (six_written _ _ _ _ _ _ c.args.res.now c.requires)
