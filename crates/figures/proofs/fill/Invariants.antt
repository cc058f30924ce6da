-- `figures::fill` meets its contract. The loop's invariant: whatever function says what the calls answer, the list is filled with its values at the first i codes. Assumes nothing.
use Rattle.std.proofs.Common.{◌≡◌, ℕ, map, take}
use Rattle.model.specs.Lists.{filled}
use Rattle.figures.specs.Answers.{Answers}
use Rattle.figures.proofs.fill.Given as goal

abbrev pub invariant-loop-i : goal.invariant-loop-i
invariant-loop-i g l = (give : ℕ → _) → Answers give (goal.F-post g l.figure) l.codes → l.figures ≡ filled (map give (take l.i l.codes)) l.initial.figures
