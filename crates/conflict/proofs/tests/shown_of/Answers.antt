-- `tests::shown_of` meets its contract, by the cases of the answer. Assumes nothing.
use mathlib.Core.Path.{refl}
use Rattle.conflict.proofs.tests.shown_of.Goals as goal

pub returns-in-Consistent : goal.returns-in-Consistent
returns-in-Consistent c = rw c.in-Consistent.is refl

pub returns-in-Inconsistent : goal.returns-in-Inconsistent
returns-in-Inconsistent c = rw c.in-Inconsistent.is refl

pub returns-in-Spent : goal.returns-in-Spent
returns-in-Spent c = rw c.in-Spent.is refl
