-- `words::departures` meets its contract: its text is the law's. Assumes nothing.
use native.Mathlib.Omega.{arith}
use Rattle.theory.proofs.Departures.{departures-word, departures-few}
use Rattle.words.proofs.departures.Goals as goal

pub returns : goal.returns
returns c =
    let is = departures-word c.args.code c.ranges.code.fits in
    (is, omega (arith, is, departures-few c.args.code))
