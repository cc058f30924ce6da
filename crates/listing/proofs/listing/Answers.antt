-- `listing` meets its contract. Assumes nothing.
use Rattle.conflict.proofs.Given.{tabled-ready}
use Rattle.listing.proofs.Starting.{lists-again, checked-survivors, checked-ends, broken_ends}
use Rattle.listing.proofs.listing.Goals as goal

pub check_all-requires : goal.check_all-requires
check_all-requires c = let t = c.requires in (tabled-ready t.tables.tabled t.tables.prepared t.tables.planned, t.room.store-room)

pub from_root-requires : goal.from_root-requires
from_root-requires c =
    let t = c.requires in
    let o = c.in-Ok.ensures.answer t.plant _ t.tables.tabled in
    (lists-again t c.check_all.ensures.long, o.0, checked-survivors t o)

pub returns-in-Err : goal.returns-in-Err
returns-in-Err c t = broken_ends t c.first.ensures (c.in-Err.ensures.answer t.plant _ t.tables.tabled)

pub returns-in-Ok : goal.returns-in-Ok
returns-in-Ok c t =
    let o = c.in-Ok.ensures.answer t.plant _ t.tables.tabled in
    checked-ends t _ _ _ o _ c.check_all.auto.store (c.from_root.ensures (lists-again t c.check_all.ensures.long) o.0 (checked-survivors t o))
