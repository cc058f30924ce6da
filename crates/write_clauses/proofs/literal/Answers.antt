-- `write_clauses::literal` meets its contract: the field's digits are those of the literal's three numbers. Assumes nothing.
use lib.ListN.{get_or}
use Rattle.write_clauses.proofs.Literals.{literal-field}
use Rattle.write_clauses.proofs.literal.Goals as goal

pub returns : goal.returns
returns c =
    let t = c.args.triple in
    let put = rw (c.from.ensures, c.from-2.ensures, c.from-3.ensures) at c.put.ensures in
    rw (← literal-field (get_or t 0 0) (get_or t 1 0) (get_or t 2 0) c.requires.0.sign c.requires.0.value) put
