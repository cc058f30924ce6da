-- `expand` meets its contract: what the store's scan found says which step it goes on with. Assumes nothing.
use Rattle.expand.proofs.Expanding.{removed-room, found-one, found_none, removed-full, judged-is, choices-tables, children_given, judge-given}
use Rattle.expand.proofs.expand.Goals as goal

pub first_unresolved-requires : goal.first_unresolved-requires
first_unresolved-requires c = removed-room c.requires.taken

pub resolve-requires : goal.resolve-requires
resolve-requires c = children_given c.requires

pub judge-requires : goal.judge-requires
judge-requires c = judge-given c.requires

pub branch-choices-requires : goal.branch-choices-requires
branch-choices-requires c = children_given c.requires

pub returns-in-Some-clause-answer : goal.returns-in-Some-clause-answer
returns-in-Some-clause-answer c t =
    let found = found-one t.taken _ c.widened.ensures c.first_unresolved.ensures c.in-Some.is in
    c.resolve.ensures t.question _ _ _ t.taken (choices-tables t) found.0 found.1 found.2

pub returns-then-is_full-clause-answer : goal.returns-then-is_full-clause-answer
returns-then-is_full-clause-answer c t =
    let full = removed-full t.taken t.tables.tabled c.is_full.ensures c.if-is_full.true in
    let none = found_none t.taken _ c.widened.ensures c.first_unresolved.ensures c.in-None.is in
    rw (judged-is t.taken none full) at (c.judge.ensures.answer t.question _ t.tables.tabled t.taken full)

pub returns-else-is_full-clause-answer : goal.returns-else-is_full-clause-answer
returns-else-is_full-clause-answer c t =
    let full = removed-full t.taken t.tables.tabled c.is_full.ensures c.if-is_full.false in
    let none = found_none t.taken _ c.widened.ensures c.first_unresolved.ensures c.in-None.is in
    c.branch-choices.ensures t.question _ _ _ t.taken (choices-tables t) none full
