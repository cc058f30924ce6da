-- `text::put_decimal` meets its contract: the digits at the fewest places are those without leading zeros. Assumes nothing.
use native.Mathlib.Omega.{arith}
use Rattle.model.specs.Text.{most_decimals}
use Rattle.theory.proofs.Decimal.{decimal-digits, decimal_length}
use Rattle.text.proofs.put_decimal.Goals as goal

pub put_digits-requires : goal.put_digits-requires
put_digits-requires c =
    let n = c.args.n in
    let f = c.decimal_places-places.ensures in
    (omega arith, omega arith, omega (arith, decimal_length c.decimal_places-places.result n f (f.least most_decimals (omega arith) (omega arith))))

pub returns : goal.returns
returns c =
    let f = c.decimal_places-places.ensures in
    rw (decimal-digits c.decimal_places-places.result c.args.n f (f.least most_decimals (omega arith) (omega arith)))
    c.put_digits.ensures
