-- What the store keeps: conflicts of which none contains another. Assumes nothing: these are definitions.
use Rattle.std.specs.Prelude.{◌≡◌, ◌⊎◌, Bool, true, false, ◌||◌, List, [], ◌∷◌, map, ℕ, length}
use Rattle.model.specs.Lists.{Some, All, Pairs, keep}
use Rattle.model.specs.Sheet.{Plant, decision_sizes}
use Rattle.model.specs.Assignment.{Assignment, well_formed, assignment_of}
use Rattle.model.specs.Conflict.{Conflict, manifests}
use Rattle.model.specs.Listing.{Ending, Offer, manifests_any, stored}

-- the members of one list are members of another, in the same order
abbrev pub Among : {A : Type 0} → List A → List A → Type 0
Among [] ys = Unit {0}
Among (x ∷ xs) [] = ⊥
Among (x ∷ xs) (y ∷ ys) = ((x ≡ y) × Among xs ys) ⊎ Among (x ∷ xs) ys

-- of two conflicts neither contains the other
abbrev pub Neither : Assignment → Assignment → Type 0
Neither c d = (manifests c d ≡ false) × (manifests d c ≡ false)

-- an assignment contains one of these conflicts, or is one of them
abbrev pub ContainsOne : List Assignment → Assignment → Type 0
ContainsOne store c = Some (λ d. manifests c d ≡ true) store

-- conflicts over d variables
abbrev pub Long : ℕ → List Assignment → Type 0
Long d store = All (λ c. length c ≡ d) store

-- of the conflicts found these are kept: no others, in the same order, none contains another, and each that was found contains one of them
pub record Shortest (found kept : List Assignment) : Type 0 where
  pub among : Among kept found
  pub apart : Pairs Neither kept
  pub covers : All (ContainsOne kept) found

-- whether of two conflicts one contains the other
abbrev pub related : Assignment → Assignment → Bool
related c d = manifests c d || manifests d c

-- what a conflict that comes in makes of those that are kept: nothing, if it contains one of them; otherwise those that contain it give way to it
abbrev pub admitted : List Assignment → Assignment → List Assignment
admitted kept c = elim (manifests_any kept c) [ true ↦ kept | false ↦ stored kept c ]

-- the assignments of the offered entries that are well formed
abbrev pub offered_in : Plant → List Offer → List Assignment
offered_in p offers = map (λ o. assignment_of (length p.costs) o.mask o.values) (keep (λ o. well_formed (decision_sizes p) o.mask o.values) offers)

-- no offered conflict is forgotten in substance: each contains one of these
abbrev pub Remembered : Plant → List Offer → List Assignment → Type 0
Remembered p offers store = All (λ c. Conflict p c → ContainsOne store c) (offered_in p offers)

-- what step 1 leaves of the entries that it has checked: conflicts, of which none contains another, that were offered, in the same order; and what it drops it remembers
pub record Survivors (p : Plant) (offers : List Offer) (survivors : List Assignment) : Type 0 where
  pub conflicts : All (Conflict p) survivors
  pub apart : Pairs Neither survivors
  pub offered : Among survivors (offered_in p offers)
  pub remembered : Remembered p offers survivors

-- where a run came to its ending with these survivors of step 1: they were offered, and unless it is 'spent' no offer was left unchecked
pub record FromOffers (p : Plant) (offers : List Offer) (e : Ending) (survivors : List Assignment) : Type 0 where
  pub offered : Among survivors (offered_in p offers)
  pub remembered : (e ≡ Ending.spent → ⊥) → Remembered p offers survivors
