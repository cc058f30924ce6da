-- `list_weights` meets its contract: the equation with the model's call, and what is promised of every call. Assumes nothing.
use Rattle.listing.specs.Listing.{buffers}
use mathlib.Core.Bool.{true, false}
use Rattle.model.specs.Calls.{weights_call}
use Rattle.listing_call.proofs.Answering.{kept}
use Rattle.weights_call.proofs.list_weights.Goals as goal

pub returns : goal.returns
unfolding weights_call
returns c =
    let s = c.args in
    let b = buffers s.codes.now s.products.now s.values.now s.queue.now s.store.now in
    let h = c.list_weights_with.ensures in
    (rw (h.answer-is, h.after_is), kept true s.sheet.now s.k b s.held s.limit false h)
