-- What the check of offered entries leaves in the store, as the model's step 1. Assumes nothing: these are definitions.
use Rattle.std.specs.Prelude.{◌≡◌, List, ℕ, ◌+◌, ◌-◌, ◌*◌, ◌≤◌, length, drop, Result, Ok, Err}
use Rattle.model.specs.Sheet.{Plant}
use Rattle.model.specs.Assignment.{Assignment}
use Rattle.model.specs.Listing.{Offer, Checked, checked, broken_off, survivors_of, check_offers}
use Rattle.model.specs.Calls.{offers_of}
use Rattle.theory.specs.Store.{Long}
use Rattle.store.specs.Store.{Keeps}
use Rattle.offers.specs.declared.Offered.{Offered}

-- the offers from place i on, of so many held
abbrev pub offers_from : ℕ → List ℕ → ℕ → List Offer
offers_from held words i = offers_of (held - i) (drop (2 * i) words)

-- the entry at place i has been checked, with these conflicts found before, of which the store keeps the survivors: the check goes on behind it, or it is broken off
abbrev pub CheckedOne : (p : Plant) (limit held i : ℕ) (found : List Assignment) (used : ℕ) (before after : List ℕ) → Result Offered Offered → Type 0
CheckedOne p limit held i found used before after (Ok o) =
    (next : List Assignment) × Long (length p.costs) next × Keeps (length p.costs) after o.survivors (survivors_of next)
    × (check_offers p limit found (offers_from held before i) used ≡ check_offers p limit next (offers_from held after (i + 1)) o.trials)
CheckedOne p limit held i found used before after (Err o) =
    Keeps (length p.costs) after o.survivors (survivors_of found) × (check_offers p limit found (offers_from held before i) used ≡ broken_off (survivors_of found) o.trials)

-- there is at most one survivor more
abbrev pub OneMore : ℕ → Result Offered Offered → Type 0
OneMore m (Ok o) = o.survivors ≤ m + 1
OneMore m (Err o) = o.survivors ≤ m

-- the store keeps the survivors, and the check ended as the model's does
abbrev pub OfferedAs : Plant → List ℕ → Result Offered Offered → Checked → Type 0
OfferedAs p store (Ok o) e = (survivors : List Assignment) × Keeps (length p.costs) store o.survivors survivors × (e ≡ checked survivors o.trials)
OfferedAs p store (Err o) e = (survivors : List Assignment) × Keeps (length p.costs) store o.survivors survivors × (e ≡ broken_off survivors o.trials)
