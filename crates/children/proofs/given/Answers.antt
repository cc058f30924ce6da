-- `children::given` meets its contract: by the law of a child's numbers. Assumes nothing.
use Rattle.children.proofs.Numbers.{child-is}
use Rattle.children.proofs.given.Goals as goal

pub returns : goal.returns
returns c p n i f h =
    let old = c.digit_at-old.ensures.0 in
    let was = c.price in
    let will = c.price-2 in
    rw old (child-is i f _ _ _ _ h (rw old at was.ensures) will.ensures c.exchanged.ensures)
