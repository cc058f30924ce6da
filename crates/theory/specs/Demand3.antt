-- Demand 3: one statement about a run's whole result, and what every call promises. Assumes nothing: these are definitions.
use Rattle.std.specs.Prelude.{◌≡◌, ◌⊎◌, Bool, true, false, List, [], ◌++◌, map, ℕ, ◌+◌, ◌*◌, ◌/◌, ◌≤◌, ◌<◌, length, get_or, drop, replicate}
use Rattle.model.specs.Lists.{All, Begins, filled}
use Rattle.model.specs.Sheet.{Plant, got, Edition, read_sheet, decision_sizes}
use Rattle.model.specs.Assignment.{Assignment, code}
use Rattle.model.specs.Conflict.{Conflict, Minimal, manifests}
use Rattle.model.specs.Order.{Order, Before, order_of, product, entry_of, whole_set}
use Rattle.model.specs.Listing.{Ending, enough, all, most_tested}
use Rattle.model.specs.Calls.{refused, answered, Buffers, Counts, ran, unfinished, Answer, Called, offers_of, state_bytes, entry_words, run_list}
use Rattle.theory.specs.Store.{Among, offered_in, Remembered}
use Rattle.theory.specs.Run.{strikes, Good, Overfull}
use Rattle.theory.specs.Shown.{ShownAt}

-- the store after a run to which so many entries were offered: conflicts that survived step 1 and were not pushed out, then all that were learned, which are minimal, then zeros
pub record StoreAfter (p : Plant) (held learned : ℕ) (before after : List ℕ) : Type 0 where
  pub survivors : List Assignment
  pub since : List Assignment
  pub words : after ≡ filled (entry_words (survivors ++ since)) (replicate (length before) 0)
  pub counted : length since ≡ learned
  pub conflicts : All (Conflict p) survivors
  pub minimal : All (Minimal p) since
  -- no entry contains another: for any two places
  pub apart : (i j : ℕ) → i < length (survivors ++ since) → j < length (survivors ++ since) → (i ≡ j → ⊥)
      → manifests (get_or (survivors ++ since) i []) (get_or (survivors ++ since) j []) ≡ false
  -- every survivor was offered, and they stand in the order of the offers
  pub offered : Among survivors (offered_in p (offers_of held before))

-- what holds of a run with so many states wanted, the lent buffers before, so many entries offered, a trial limit, its ending, its counts, the buffers after, and whether the limit struck inside a reduction
pub record Demand3 (p : Plant) (o : Order) (k : ℕ) (before : Buffers) (held limit : ℕ) (e : Ending) (c : Counts) (after : Buffers) (struck : Bool) : Type 0 where
  -- the list begins the whole set
  pub begins : Begins (run_list c.listed after) (whole_set p o)
  -- it is as long as listed says, which is at most k
  pub as_counted : length (run_list c.listed after) ≡ c.listed
  pub at-most-k : c.listed ≤ k
  -- 'all' gives the whole set, 'enough' exactly k
  pub all_whole : e ≡ all → run_list c.listed after ≡ whole_set p o
  pub enough-k : e ≡ enough → c.listed ≡ k
  -- the sum of the tallies: one more exactly when the limit struck inside a reduction, which ends the run 'spent'
  pub sum : c.tested ≡ c.listed + c.learned + c.unkept + strikes struck
  pub struck-spent : struck ≡ true → e ≡ Ending.spent
  -- 'spent' only where the next trial would be beyond the limit, or tested is at its greatest
  pub spent_why : e ≡ Ending.spent → (c.trials ≡ limit) ⊎ (c.tested ≡ most_tested)
  -- each place holds the code of a full consistent assignment with its cost, or with its product
  pub states : (i : ℕ) → i < c.listed → (f : List ℕ) × Good p f × (get_or after.codes i 0 ≡ code f) × (get_or after.costs i 0 ≡ o.figure f)
  -- no full consistent assignment stands before the first or between neighbours: one that comes before the state at a place stands at an earlier place
  pub gapless : (i : ℕ) → i < c.listed → (f g : List ℕ) → Good p f → Good p g → get_or after.codes i 0 ≡ code g → Before o f g
      → (j : ℕ) × (j < i) × (get_or after.codes j 0 ≡ code f)
  -- the 48 bytes of each place show the state: values within the domains that satisfy every clause and agree with the code, zero beyond D + S, and the first such values in trial order
  pub shown : (i : ℕ) → i < c.listed → ShownAt p after i
  -- survivors and learned are conflicts, and the learned ones minimal; none contains another, and the survivors were offered
  pub stored : StoreAfter p held c.learned before.store after.store
  -- no offered conflict is forgotten in substance: unless the run is 'spent', each contains a stored one, or is it
  pub remembered : (e ≡ Ending.spent → ⊥) → Remembered p (offers_of held before.store) (stored.survivors ++ stored.since)
  -- the counts' bounds
  pub tested-most : c.tested ≤ most_tested
  pub trials-most : c.trials ≤ limit
  -- 'full' only where the queue's entries and the states listed are together fewer than the product of the sizes
  pub full-small : e ≡ Ending.full → length before.queue / 2 + c.listed < product (decision_sizes p)
  -- and only where the children of a node outnumber the free entries, with the conflicts that are stored and the states that are listed
  pub full_why : e ≡ Ending.full → (fs : List (List ℕ)) × (run_list c.listed after ≡ map (entry_of o) fs) × Overfull p o (length before.queue / 2) (stored.survivors ++ stored.since) fs
  -- codes, costs and values beyond listed are unchanged, and the queue is zero
  pub codes-kept : drop c.listed after.codes ≡ drop c.listed before.codes
  pub costs-kept : drop c.listed after.costs ≡ drop c.listed before.costs
  pub values-kept : drop (state_bytes * c.listed) after.values ≡ drop (state_bytes * c.listed) before.values
  pub queue-zero : after.queue ≡ replicate (length before.queue) 0

-- what the listing call that takes an edition promises of any input: a refusal changes no lent buffer; any other answer is a run with one of the four endings, of the plant that the sheet says, and demand 3 holds of it
abbrev pub PromisedBy : Edition → List ℕ → ℕ → Buffers → (held limit : ℕ) → Answer → Buffers → Bool → Type 0
PromisedBy edition sheet k before held limit (refused r) after struck = after ≡ before
PromisedBy edition sheet k before held limit (answered (ran e c)) after struck =
    (p : Plant) × (end : ℕ) × (read_sheet edition sheet ≡ got p end) × Demand3 p (order_of edition p) k before held limit e c after struck
PromisedBy edition sheet k before held limit (answered unfinished) after struck = ⊥

abbrev pub Promised : Edition → List ℕ → ℕ → Buffers → (held limit : ℕ) → Called → Type 0
Promised edition sheet k before held limit called = PromisedBy edition sheet k before held limit called.answer called.after called.struck
