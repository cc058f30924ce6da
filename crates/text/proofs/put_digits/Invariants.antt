-- `text::put_digits` meets its contract. The loop's invariant: the digits at the places from i on are put, and what is left holds those before them. Assumes nothing.
use Rattle.text.proofs.Putting.{DigitsFrom}
use Rattle.text.proofs.put_digits.Given as goal

abbrev pub invariant-loop-i : goal.invariant-loop-i
invariant-loop-i l = DigitsFrom l.at l.n l.base l.places l.initial.out l.i l.rest l.out
