-- `list_weights_with` meets its contract: the codes are listed, and their products filled in. Assumes nothing.
use mathlib.Core.Path.{refl}
use Rattle.std.proofs.lemmas.Result.{err_from_is_err_and}
use Rattle.listing_call.proofs.Answering.{refused-called, codes-places, costs-places, few_with_weights, listed-reads, prices_room, figures-called}
use Rattle.weights_call.proofs.list_weights_with.Goals as goal

pub fill_products-requires : goal.fill_products-requires
fill_products-requires c =
    let products = c.args.products.now in
    let t = c.in_ok-listed.ensures in
    (codes-places t products refl, costs-places t products refl, few_with_weights t products refl refl, prices_room t products refl)

pub returns : goal.returns
returns c =
    let products = c.args.products.now in
    let t = c.in_ok-listed.ensures in
    figures-called t products refl _ (c.fill_products.ensures (listed-reads t products refl refl))

pub returns-in_err-listed : goal.returns-in_err-listed
returns-in_err-listed c =
    let e = err_from_is_err_and c.from_residual.result c.from_residual.ensures.1 in
    rw (e.1, e.2) (refused-called c.args.products.now refl c.in_err-listed.ensures)
