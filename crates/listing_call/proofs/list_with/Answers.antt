-- `list_with` meets its contract: the codes are listed, and their costs filled in. Assumes nothing.
use mathlib.Core.Path.{refl}
use Rattle.std.proofs.lemmas.Result.{err_from_is_err_and}
use Rattle.listing_call.proofs.Answering.{refused-called, codes-places, costs-places, few-decisions, prices_room, figures-called}
use Rattle.listing_call.proofs.list_with.Goals as goal

pub fill_costs-requires : goal.fill_costs-requires
fill_costs-requires c =
    let costs = c.args.costs.now in
    let t = c.in_ok-listed.ensures in
    (codes-places t costs refl, costs-places t costs refl, few-decisions t costs refl, prices_room t costs refl)

pub returns : goal.returns
returns c =
    let costs = c.args.costs.now in
    let t = c.in_ok-listed.ensures in
    figures-called t costs refl _ c.fill_costs.ensures

pub returns-in_err-listed : goal.returns-in_err-listed
returns-in_err-listed c =
    let e = err_from_is_err_and c.from_residual.result c.from_residual.ensures.1 in
    rw (e.1, e.2) (refused-called c.args.costs.now refl c.in_err-listed.ensures)
