-- `text::put_hexadecimal` meets its contract: its digits are put. Assumes nothing.
use Rattle.model.specs.Text.{hexadecimal}
use Rattle.text.proofs.put_hexadecimal.Goals as goal

pub returns : goal.returns
unfolding hexadecimal
returns c = c.put_digits.ensures
