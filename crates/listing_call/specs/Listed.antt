-- What the listing calls of both editions share: the run of an accepted sheet, with its figures yet to be filled in, or a refusal. Assumes nothing: these are definitions.
use Rattle.std.specs.Prelude.{◌≡◌, Bool, List, ℕ, ◌/◌, length, Result, Ok, Err}
use Rattle.std.proofs.Math.Option.{none}
use Rattle.model.specs.Sheet.{Plant, got, edition_of, read_sheet}
use Rattle.model.specs.Order.{order_of}
use Rattle.model.specs.Listing.{listing}
use Rattle.model.specs.Calls.{first_given, host_grounds, offers_of, refusing, listing_with}
use Rattle.theory.specs.Words.{HasRows}
use Rattle.readings.specs.Lengths.{cost_entries}
use Rattle.refusal.specs.declared.Refusal.{Refusal}
use Rattle.refusal.specs.Refusal.{refusal_of}
use Rattle.listing.specs.declared.Ran.{Ran}
use Rattle.listing.specs.Listing.{buffers, RanAs}
use Rattle.listing_call.specs.declared.Listed.{Listed}

-- the call is refused, whatever the buffer of so many figures holds, and no lent word is changed
pub record RefusedOn (w : Bool) (sheet : List ℕ) (k held limit : ℕ) (short : Bool) (figures : ℕ) (codes values queue store codes' values' queue' store' : List ℕ) (r : Refusal) : Type 0 where
  pub codes-kept : codes' ≡ codes
  pub values-kept : values' ≡ values
  pub queue-kept : queue' ≡ queue
  pub store_kept : store' ≡ store
  pub refuses : (costs : List ℕ) → length costs ≡ figures
      → listing_with (edition_of w) sheet k (buffers codes costs values queue store) held limit short ≡ refusing (buffers codes costs values queue store) (refusal_of r)

-- nothing is refused, and the run of the sheet's plant has told and left what the model's does; the table has the plant's costs or weights
pub record RanOn (w : Bool) (sheet : List ℕ) (k held limit : ℕ) (short : Bool) (figures : ℕ) (codes values queue store codes' values' queue' store' prices : List ℕ) (d : ℕ) (r : Ran) : Type 0 where
  pub plant : Plant
  pub end : ℕ
  pub says : read_sheet (edition_of w) sheet ≡ got plant end
  pub fit : (costs : List ℕ) → length costs ≡ figures → first_given (host_grounds k (buffers codes costs values queue store) held short) ≡ none
  pub has-rows : HasRows plant.costs prices
  pub count : length plant.costs ≡ d
  pub long : length prices ≡ cost_entries
  pub ran : RanAs r codes values queue store codes' values' queue' store'
      (listing plant (order_of (edition_of w) plant) k (length queue / 2) (length store / 2) (offers_of held store) limit)

-- what `list_codes` answers
abbrev pub ListedOn : (w : Bool) (sheet : List ℕ) (k held limit : ℕ) (short : Bool) (figures : ℕ) (codes values queue store codes' values' queue' store' prices : List ℕ) → Result Listed Refusal → Type 0
ListedOn w sheet k held limit short figures codes values queue store codes' values' queue' store' prices (Err r) = RefusedOn w sheet k held limit short figures codes values queue store codes' values' queue' store' r
ListedOn w sheet k held limit short figures codes values queue store codes' values' queue' store' prices (Ok l) = RanOn w sheet k held limit short figures codes values queue store codes' values' queue' store' prices l.decisions l.ran
