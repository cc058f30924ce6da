-- What the listing call of edition 2 promises, as the model's call. Assumes nothing: these are definitions.
use Rattle.std.specs.Prelude.{List, ℕ, Result}
use Rattle.model.specs.Sheet.{edition2}
use Rattle.model.specs.Calls.{Buffers, weights_call}
use Rattle.theory.specs.Demand3.{PromisedBy}
use Rattle.refusal.specs.declared.Refusal.{Refusal}
use Rattle.listing.specs.declared.Ran.{Ran}
use Rattle.listing.specs.Listing.{answer_of}

-- what is promised of the call, said of this very answer and these buffers: demand 3 in the order of products
abbrev pub Promises : (sheet : List ℕ) (k : ℕ) (before : Buffers) (held limit : ℕ) → Result Ran Refusal → Buffers → Type 0
Promises sheet k before held limit r after = PromisedBy edition2 sheet k before held limit (answer_of r) after (weights_call sheet k before held limit).struck
