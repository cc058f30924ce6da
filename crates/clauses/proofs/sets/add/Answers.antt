-- `sets::add` meets its contract: the word that it stores has one bit more. Assumes nothing.
use Rattle.clauses.proofs.Marks.{add_marked}
use Rattle.clauses.proofs.sets.add.Goals as goal

pub returns : goal.returns
returns c =
    add_marked c.args.table.now c.args.row c.args.c c.requires.0 c.requires.1
