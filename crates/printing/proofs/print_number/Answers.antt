-- The line's front is the number.
use Rattle.std.proofs.Common.{arith}
use Rattle.theory.proofs.Decimal.{decimal-most}
use Rattle.printing.proofs.Front.{number-front}
use Rattle.printing.proofs.print_number.Goals as goal

pub put_decimal-at-requires : goal.put_decimal-at-requires
put_decimal-at-requires g c = omega (arith, decimal-most)

pub print_front-requires : goal.print_front-requires
print_front-requires g c = omega (arith, decimal-most, c.put_decimal-at.ensures.ends, c.put_decimal-at.auto.out)

pub returns-clause-ok : goal.returns-clause-ok
returns-clause-ok g c = rw (number-front c.put_decimal-at.ensures) at c.print_front.ensures.ok

pub returns-clause-err : goal.returns-clause-err
returns-clause-err g c = rw (number-front c.put_decimal-at.ensures) at c.print_front.ensures.err
