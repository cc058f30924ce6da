-- `words::mask_fits` meets its contract: a shift past the first variables leaves the bits beyond them. Assumes nothing.
use Rattle.words.proofs.Loops.{mask-shift}
use Rattle.words.proofs.mask_fits.Goals as goal

pub returns : goal.returns
returns c domains e = mask-shift domains c.args.mask c.args.d c.requires e
