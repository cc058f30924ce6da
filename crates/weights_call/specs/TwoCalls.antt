-- A call of `list_weights` that ran, by its contract, and its list. Assumes nothing: these are definitions.
use Rattle.std.specs.Prelude.{◌≡◌, List, ℕ, Result}
use Rattle.model.specs.Order.{Entry}
use Rattle.model.specs.Listing.{Ending}
use Rattle.model.specs.Calls.{answered, Buffers, Counts, ran, run_list, weights_call}
use Rattle.refusal.specs.declared.Refusal.{Refusal}
use Rattle.listing.specs.declared.Ran.{Ran}
use Rattle.listing.specs.Listing.{answer_of}
use Rattle.listing_call.specs.Calls.{shown}
use Rattle.weights_call.specs.Calls.{Promises}

-- any call on this sheet whose answer is a run: what it was given, what it answered and left, and its `ensures`
pub record WeightsCall (sheet : List ℕ) : Type 0 where
  pub k : ℕ
  pub before : Buffers
  pub held : ℕ
  pub limit : ℕ
  pub answer : Result Ran Refusal
  pub after : Buffers
  pub ensures : (shown (weights_call sheet k before held limit) ≡ (answer_of answer, after)) × Promises sheet k before held limit answer after
  pub ending : Ending
  pub counts : Counts
  pub run : answer_of answer ≡ answered (ran ending counts)

-- its list: the first codes with their products, as many as listed says
abbrev pub list_of : {sheet : List ℕ} → WeightsCall sheet → List Entry
list_of c = run_list c.counts.listed c.after
