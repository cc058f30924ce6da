-- `lines::put_state` meets its contract: its five parts are put one after another. Assumes nothing.
use native.Mathlib.Omega.{arith}
use Rattle.model.specs.Text.{space, code_digits, decimal, state_line}
use Rattle.theory.proofs.Decimal.{hexadecimal_length}
use Rattle.theory.proofs.Puts.{puts_then, puts-pair}
use Rattle.lines.proofs.Lines.{line_length}
use Rattle.lines.proofs.put_state.Goals as goal

pub put_decimal-ranked-requires : goal.put_decimal-ranked-requires
put_decimal-ranked-requires c = let s = c.args in omega (arith, line_length s.rank s.cost s.code)

pub put_named-priced-requires : goal.put_named-priced-requires
put_named-priced-requires c = let s = c.args in omega (arith, line_length s.rank s.cost s.code)

pub put_bytes-spaced-requires : goal.put_bytes-spaced-requires
put_bytes-spaced-requires c = let s = c.args in omega (arith, line_length s.rank s.cost s.code)

pub put_hexadecimal-coded-requires : goal.put_hexadecimal-coded-requires
put_hexadecimal-coded-requires c = let s = c.args in omega (arith, line_length s.rank s.cost s.code)

pub put_bytes-requires : goal.put_bytes-requires
put_bytes-requires c = let s = c.args in omega (arith, line_length s.rank s.cost s.code, hexadecimal_length code_digits s.code)

pub returns : goal.returns
unfolding state_line
returns c =
    let s = c.args in
    puts_then
    (omega arith)
    (puts_then
    (omega arith)
    (puts_then
    (omega arith)
    (puts-pair (omega arith) space (decimal s.cost) c.put_decimal-ranked.ensures c.put_named-priced.ensures)
    c.put_bytes-spaced.ensures)
    c.put_hexadecimal-coded.ensures)
    c.put_bytes.ensures
