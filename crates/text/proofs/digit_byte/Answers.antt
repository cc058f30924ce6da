-- `text::digit_byte` meets its contract: the byte is that of the branch taken. Assumes nothing.
use Rattle.text.proofs.Putting.{digit_low, digit_high}
use Rattle.text.proofs.digit_byte.Goals as goal

pub returns-then-d-lt-DECIMAL : goal.returns-then-d-lt-DECIMAL
returns-then-d-lt-DECIMAL c = digit_low c.args.d c.if-d-lt-DECIMAL.true

pub returns-else-d-lt-DECIMAL : goal.returns-else-d-lt-DECIMAL
returns-else-d-lt-DECIMAL c = digit_high c.args.d c.if-d-lt-DECIMAL.false
