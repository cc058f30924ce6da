-- The line's front is the number.
use Rattle.std.proofs.Common.{arith}
use Rattle.theory.proofs.Decimal.{hexadecimal_length}
use Rattle.printing.proofs.Front.{number-front}
use Rattle.printing.proofs.print_hex.Goals as goal

pub print_front-requires : goal.print_front-requires
print_front-requires g c = omega (arith, hexadecimal_length, c.put_hexadecimal-at.ensures.ends, c.put_hexadecimal-at.auto.out)

pub returns-clause-ok : goal.returns-clause-ok
returns-clause-ok g c = rw (number-front c.put_hexadecimal-at.ensures) at c.print_front.ensures.ok

pub returns-clause-err : goal.returns-clause-err
returns-clause-err g c = rw (number-front c.put_hexadecimal-at.ensures) at c.print_front.ensures.err
