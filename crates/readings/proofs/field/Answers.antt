-- `readings::field` meets its contract: a field of w bits is below 2 ^ w. Assumes nothing.
use Rattle.readings.proofs.Laws.{below}
use Rattle.readings.proofs.field.Goals as goal

pub returns-clause-fits : goal.returns-clause-fits
returns-clause-fits c = below _ _ _ _ _ c.take.result c.ok_or.result c.ok_or.ensures.value c.take.ensures.2
