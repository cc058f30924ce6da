-- `fit` meets its contract: its tests are the model's grounds, in their order. Assumes nothing.
use mathlib.Core.Path.{ap}
use borrow.Author.Tests.{lt-ltb, le-ltb}
use mathlib.Core.Bool.{not}
use Rattle.listing_call.proofs.Refusing.{first-ground, second-ground, values-ground, third-ground, fourth_ground, no_ground}
use Rattle.listing_call.proofs.fit.Goals as goal

pub returns-then-not-k : goal.returns-then-not-k
returns-then-not-k c b ec ed ev eq es = first-ground _ _ _ _ _ _ _ _ b ec ed ev eq es (ap not c.if-not-k.true)

pub returns-then-short_list : goal.returns-then-short_list
returns-then-short_list c b ec ed ev eq es = second-ground _ _ _ _ _ _ _ _ b ec ed ev eq es (ap not c.if-not-k.false) c.if-short_list.true

pub returns-then-short_values : goal.returns-then-short_values
returns-then-short_values c b ec ed ev eq es = values-ground _ _ _ _ _ _ _ _ b ec ed ev eq es (ap not c.if-not-k.false) c.if-short_list.false (lt-ltb _ _ c.if-short_values.true)

pub returns-then-wrong_queue : goal.returns-then-wrong_queue
returns-then-wrong_queue c b ec ed ev eq es = third-ground _ _ _ _ _ _ _ _ b ec ed ev eq es (ap not c.if-not-k.false) c.if-short_list.false (le-ltb _ _ c.if-short_values.false) c.if-wrong_queue.true

pub returns-then-store-held : goal.returns-then-store-held
returns-then-store-held c b ec ed ev eq es =
    fourth_ground _ _ _ _ _ _ _ _ b ec ed ev eq es (ap not c.if-not-k.false) c.if-short_list.false (le-ltb _ _ c.if-short_values.false) c.if-wrong_queue.false c.if-store-held.true

pub returns : goal.returns
returns c b ec ed ev eq es =
    no_ground _ _ _ _ _ _ _ _ b ec ed ev eq es (ap not c.if-not-k.false) c.if-short_list.false (le-ltb _ _ c.if-short_values.false) c.if-wrong_queue.false c.if-store-held.false
