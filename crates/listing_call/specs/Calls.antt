-- What the listing call shows and promises, as the model's call. Assumes nothing: these are definitions.
use Rattle.std.specs.Prelude.{List, ℕ, Result}
use Rattle.model.specs.Sheet.{edition1}
use Rattle.model.specs.Calls.{Buffers, Answer, Called, listing_call}
use Rattle.theory.specs.Demand3.{PromisedBy}
use Rattle.refusal.specs.declared.Refusal.{Refusal}
use Rattle.listing.specs.declared.Ran.{Ran}
use Rattle.listing.specs.Listing.{answer_of}

-- what a call shows of itself: its answer and every lent word afterwards
abbrev pub shown : Called → Answer × Buffers
shown c = (c.answer, c.after)

-- what is promised of a listing call, said of this very answer and these buffers
abbrev pub Promises : (sheet : List ℕ) (k : ℕ) (before : Buffers) (held limit : ℕ) → Result Ran Refusal → Buffers → Type 0
Promises sheet k before held limit r after = PromisedBy edition1 sheet k before held limit (answer_of r) after (listing_call sheet k before held limit).struck
