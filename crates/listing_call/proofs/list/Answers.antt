-- `list` meets its contract: the equation with the model's call, and what is promised of every call. Assumes nothing.
use Rattle.listing.specs.Listing.{buffers}
use Rattle.listing_call.proofs.Answering.{called-shown, called-promised}
use Rattle.listing_call.proofs.list.Goals as goal

pub returns : goal.returns
returns c =
    let s = c.args in
    let b = buffers s.codes.now s.costs.now s.values.now s.queue.now s.store.now in
    let h = c.list_with.ensures in
    (called-shown s.sheet.now s.k b s.held s.limit h, called-promised s.sheet.now s.k b s.held s.limit h)
