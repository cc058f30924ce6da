-- `words::well_formed` meets its contract: both tests together are the definition. Assumes nothing.
use mathlib.Core.Bool.{◌&&◌}
use mathlib.Core.Path.{ap₂}
use lib.ListN.{take}
use lib.Seq.{length-take-le}
use Rattle.model.specs.Assignment.{well_formed}
use Rattle.words.proofs.well_formed.Goals as goal

pub returns : goal.returns
unfolding well_formed
returns c =
    let s = c.args in
    ap₂ ◌&&◌ (c.mask_fits.ensures (take s.d s.sizes.now) (length-take-le s.d s.sizes.now c.requires.1)) c.values_fit.ensures
