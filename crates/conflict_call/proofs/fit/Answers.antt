-- `fit` meets its contract: the two grounds in their order. Assumes nothing.
use mathlib.Core.Path.{sym, ◌∙◌}
use lib.ListN.{take}
use lib.Seq.{length-take-le}
use Rattle.conflict_call.proofs.Asking.{ground-mask, ground-values, ground-none}
use Rattle.conflict_call.proofs.fit.Goals as goal

pub returns-then-not-mask_fits : goal.returns-then-not-mask_fits
returns-then-not-mask_fits c =
    let domains = take c.args.d c.args.sizes.now in
    let m = c.mask_fits.ensures domains (length-take-le c.args.d c.args.sizes.now c.requires.1) in
    sym (ground-mask domains c.args.mask c.args.values (sym m ∙ c.if-not-mask_fits.true))

pub returns-then-not-values_fit : goal.returns-then-not-values_fit
returns-then-not-values_fit c =
    let domains = take c.args.d c.args.sizes.now in
    let m = c.mask_fits.ensures domains (length-take-le c.args.d c.args.sizes.now c.requires.1) in
    sym (ground-values domains c.args.mask c.args.values (sym m ∙ c.if-not-mask_fits.false) (sym c.values_fit.ensures ∙ c.if-not-values_fit.true))

pub returns : goal.returns
returns c =
    let domains = take c.args.d c.args.sizes.now in
    let m = c.mask_fits.ensures domains (length-take-le c.args.d c.args.sizes.now c.requires.1) in
    sym (ground-none domains c.args.mask c.args.values (sym m ∙ c.if-not-mask_fits.false) (sym c.values_fit.ensures ∙ c.if-not-values_fit.false))
