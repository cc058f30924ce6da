-- `tell` meets its contract: a refusal leaves the result words, and a run fills them. Assumes nothing.
use Rattle.model.specs.Calls.{exported_of}
use Rattle.export.proofs.tell.Goals as goal

pub write-requires : goal.write-requires
write-requires c = c.requires _ c.in-Ok.is

pub returns-in-Err : goal.returns-in-Err
unfolding exported_of
returns-in-Err c after = rw (c.in-Err.is, c.number.ensures)

pub returns-in-Ok : goal.returns-in-Ok
unfolding exported_of
returns-in-Ok c after = rw (c.in-Ok.is, c.write.ensures)
