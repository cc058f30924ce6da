-- `figures::exchanged` meets its contract. Assumes nothing.
use Rattle.figures.proofs.exchanged.Goals as goal

pub returns-then-weighed : goal.returns-then-weighed
returns-then-weighed c rest e z b =
    let w = c.if-weighed.true in
    rw w (c.exchanged_product.ensures rest (rw w at e) (z w).0 (z w).1 b)

pub returns : goal.returns
returns c rest e z b =
    let w = c.if-weighed.false in
    rw w (c.exchanged_cost.ensures rest (rw w at e) b)
