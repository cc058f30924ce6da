-- `list_codes` meets its contract: the host's numbers are refused, or the sheet is, or its tables are listed. Assumes nothing.
use mathlib.Core.Path.{refl, sym, ◌∙◌}
use mathlib.Core.List.{List}
use Prim.Native.Nat.{ℕ}
use native.Mathlib.Omega.{arith}
use lib.ListN.{replicate, length-replicate}
use lib.Seq.{length-take-le}
use Rattle.std.proofs.lemmas.Result.{err_from_is_err_and}
use Rattle.theory.proofs.Tables.{tabled-count, tabled-rows}
use Rattle.sheet.proofs.Held.{refused-by}
use Rattle.sheet.proofs.Reading.{opened}
use Rattle.listing.specs.Listing.{buffers}
use Rattle.listing_call.proofs.Refusing.{fit, room_of}
use Rattle.listing_call.proofs.Answering.{host_refused, author-refused}
use Rattle.listing_call.proofs.list_codes.Goals as goal

pub returns-in_err-fit : goal.returns-in_err-fit
returns-in_err-fit c =
    let s = c.args in
    let r = err_from_is_err_and c.from_residual.result c.from_residual.ensures.1 in
    rw (r.1, r.2) record {
      codes-kept = refl;
      values-kept = refl;
      queue-kept = refl;
      store_kept = refl;
      refuses = λ costs e.
          let b = buffers s.codes.now costs s.values.now s.queue.now s.store.now in
          host_refused s.weighed s.sheet.now s.k b s.held s.limit s.short (c.in_err-fit.ensures b refl e refl refl refl);
    }

pub returns-in_err-numbers : goal.returns-in_err-numbers
returns-in_err-numbers c =
    let s = c.args in
    let r = err_from_is_err_and c.from_residual-in_err-numbers.result c.from_residual-in_err-numbers.ensures.1 in
    rw (r.1, r.2) record {
      codes-kept = refl;
      values-kept = refl;
      queue-kept = refl;
      store_kept = refl;
      refuses = λ costs e.
          let b = buffers s.codes.now costs s.values.now s.queue.now s.store.now in
          author-refused s.weighed s.sheet.now s.k b s.held s.limit s.short (c.in_ok-fit.ensures b refl e refl refl refl)
          (refused-by _ _ _ _ _ _ c.in_err-numbers.was c.read.ensures.0);
    }

pub overflow_add-variables : goal.overflow_add-variables
overflow_add-variables c = let o = let r = c.read in
    opened _ _ _ _ _ _ _ r.ensures c.in_ok-numbers.was r.auto.sizes (r.auto.costs ∙ c.requires) r.auto.counts r.auto.lits in record { fits = omega (arith, o.variables, c.read.auto.sizes) }

pub slice_bounds-sizes-end : goal.slice_bounds-sizes-end
slice_bounds-sizes-end c = (let r = c.read in
    opened _ _ _ _ _ _ _ r.ensures c.in_ok-numbers.was r.auto.sizes (r.auto.costs ∙ c.requires) r.auto.counts r.auto.lits).variables

pub slice_bounds-list_tables-end : goal.slice_bounds-list_tables-end
slice_bounds-list_tables-end c = sym (length-take-le _ _ (let r = c.read in
    opened _ _ _ _ _ _ _ r.ensures c.in_ok-numbers.was r.auto.sizes (r.auto.costs ∙ c.requires) r.auto.counts r.auto.lits).variables)

pub slice_bounds-counts-end : goal.slice_bounds-counts-end
slice_bounds-counts-end c = (let r = c.read in
    opened _ _ _ _ _ _ _ r.ensures c.in_ok-numbers.was r.auto.sizes (r.auto.costs ∙ c.requires) r.auto.counts r.auto.lits).clauses

pub slice_bounds-list_tables-end-2 : goal.slice_bounds-list_tables-end-2
slice_bounds-list_tables-end-2 c = sym (length-take-le _ _ (let r = c.read in
    opened _ _ _ _ _ _ _ r.ensures c.in_ok-numbers.was r.auto.sizes (r.auto.costs ∙ c.requires) r.auto.counts r.auto.lits).clauses)

pub list_tables-ran-requires : goal.list_tables-ran-requires
list_tables-ran-requires c =
    let s = c.args in
    let costs : List ℕ = replicate s.figures 0 in
    let b = buffers s.codes.now costs s.values.now s.queue.now s.store.now in
    let o = let r = c.read in
    opened _ _ _ _ _ _ _ r.ensures c.in_ok-numbers.was r.auto.sizes (r.auto.costs ∙ c.requires) r.auto.counts r.auto.lits in
    ((o.plant, o.tabled, o.accepted), room_of s.k b s.held s.short (c.in_ok-fit.ensures b refl (length-replicate s.figures 0) refl refl refl))

pub returns : goal.returns
returns c =
    let s = c.args in
    let o = let r = c.read in
    opened _ _ _ _ _ _ _ r.ensures c.in_ok-numbers.was r.auto.sizes (r.auto.costs ∙ c.requires) r.auto.counts r.auto.lits in
    record {
      plant = o.plant;
      end = _;
      says = o.read;
      fit = λ costs e.
          let b = buffers s.codes.now costs s.values.now s.queue.now s.store.now in
          fit s.k b s.held s.short (c.in_ok-fit.ensures b refl e refl refl refl);
      has-rows = tabled-rows o.tabled;
      count = tabled-count o.tabled;
      long = c.read.auto.costs ∙ c.requires;
      ran = c.list_tables-ran.ensures o.plant o.tabled o.accepted;
    }
