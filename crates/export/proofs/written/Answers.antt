-- `written` meets its contract: two stores fill the first two places. Assumes nothing.
use mathlib.Core.Path.{refl}
use Rattle.export.proofs.Testing.{two-written}
use Rattle.export.proofs.written.Goals as goal

pub returns : goal.returns
returns c = (refl, two-written c.args.answer c.args.trials c.args.res.now c.requires)
