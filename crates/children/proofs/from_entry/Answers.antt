-- `children::from_entry` meets its contract: an entry's words tell the mask, the code and the figure. Assumes nothing.
use Rattle.children.proofs.Numbers.{entry-is}
use Rattle.children.proofs.from_entry.Goals as goal

pub returns : goal.returns
returns c p n ok v e =
    let a = c.args in
    rw (c.mask.ensures, c.code.ensures, c.figure.ensures) (entry-is a.weighed p ok a.entry.a a.entry.b n v e)
