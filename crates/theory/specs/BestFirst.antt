-- A best-first enumeration: what holds between its moves. Assumes nothing.
use Rattle.std.specs.Prelude.{◌≡◌, ◌⊎◌, List}
use Rattle.model.specs.Lists.{Some, Mem, All, Pairs}

-- no f is in both nodes
abbrev pub Apart : {F N : Type 0} → (F → N → Type 0) → N → N → Type 0
Apart {F} In m n = (f : F) → In f m → In f n → ⊥

module _ {F : Type 0} (◌≺◌ : F → F → Type 0) where
  infix 4 ◌≺◌
  -- equal or before
  abbrev pub Weak : F → F → Type 0
  Weak a b = (a ≡ b) ⊎ (a ≺ b)

  module _ {N : Type 0} (In : F → N → Type 0) (Good : F → Type 0) where
    -- between two moves of a run: what is queued, and what has been listed
    pub record Inv (queue : List N) (listed : List F) : Type 0 where
      pub apart : Pairs (Apart In) queue
      pub ascending : Pairs ◌≺◌ listed
      pub good : All Good listed
      pub before : (f : F) → Some (In f) queue → All (λ g. g ≺ f) listed
      pub complete : (f : F) → Good f → Mem f listed ⊎ Some (In f) queue
