-- `with_trials_made` meets its contract, ending by ending. Assumes nothing.
use mathlib.Core.Path.{sym}
use Rattle.trials.proofs.Endings.{found-few, failed_few, stopped-few, told-consistent, told-inconsistent, told-spent}
use Rattle.trials.proofs.with_trials_made.Goals as goal

pub overflow_sub-result : goal.overflow_sub-result
overflow_sub-result c = found-few _ _ _ c.requires.0 c.in-Consistent.is

pub overflow_sub-result-in-Inconsistent : goal.overflow_sub-result-in-Inconsistent
overflow_sub-result-in-Inconsistent c = failed_few _ _ _ c.requires.0 c.in-Inconsistent.is

pub overflow_sub-result-in-Spent : goal.overflow_sub-result-in-Spent
overflow_sub-result-in-Spent c = stopped-few _ _ _ c.requires.0 c.in-Spent.is

pub returns-in-Consistent : goal.returns-in-Consistent
returns-in-Consistent c = sym (told-consistent _ _ _ _ c.in-Consistent.is)

pub returns-in-Inconsistent : goal.returns-in-Inconsistent
returns-in-Inconsistent c = sym (told-inconsistent _ _ _ _ c.in-Inconsistent.is)

pub returns-in-Spent : goal.returns-in-Spent
returns-in-Spent c = sym (told-spent _ _ _ _ c.in-Spent.is)
