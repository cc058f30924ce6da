-- `leading_list` meets its contract: the equation with the model's export, and what is promised of every call. Assumes nothing.
use mathlib.Core.Bool.{false}
use Rattle.listing.specs.Listing.{buffers}
use Rattle.export.proofs.Listing.{ran-long, export_answered}
use Rattle.export.proofs.leading_list.Goals as goal

pub tell-requires : goal.tell-requires
tell-requires c ran q =
    let s = c.args in
    ran-long false s.sheet.now s.k (buffers s.codes.now s.costs.now s.values.now s.queue.now s.store.now) s.held s.limit s.res.now c.list_with-answer.ensures q

pub returns : goal.returns
returns c =
    let s = c.args in
    export_answered false s.sheet.now s.k (buffers s.codes.now s.costs.now s.values.now s.queue.now s.store.now) s.held s.limit s.res.now c.list_with-answer.ensures (c.tell.ensures _)
