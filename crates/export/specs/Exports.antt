-- What the exports promise beyond their equations with the model. Assumes nothing: these are definitions.
use Rattle.std.specs.Prelude.{◌≡◌, Bool, true, false, List, ℕ, ◌+◌, ◌*◌, ltb, length, get_or}
use Rattle.model.specs.Sheet.{Plant, got, Edition, edition1, read_either}
use Rattle.model.specs.Assignment.{Assignment, assignment_of}
use Rattle.model.specs.Consistency.{Consistent}
use Rattle.model.specs.Conflict.{Minimal, manifests}
use Rattle.model.specs.Calls.{Buffers, Called, listing_with, Exported, exported_of, export_call, weights_export}
use Rattle.theory.specs.Demand3.{PromisedBy}
use Rattle.theory.specs.Shown.{Shows}
use Rattle.theory.specs.Words.{Words}

-- the version of the exports: its three numbers, each but the first below 256
abbrev pub version : ℕ
version = 1 * 65536 + 2 * 256 + 0

-- ---- the listing

-- the model's export of the call that takes costs, or of the one that takes weights
abbrev pub export_of : Bool → List ℕ → ℕ → Buffers → ℕ → ℕ → List ℕ → Exported
export_of false = export_call
export_of true = weights_export

abbrev pub exported : ℕ → Buffers → List ℕ → Exported
exported returned after result = record { returned = returned; after = after; result = result }

-- what is promised of the export of an edition's call: what it returns and leaves tells the answer of the model's call, and that answer keeps the call's promise with these very buffers
abbrev pub ExportKeeps : Edition → (sheet : List ℕ) (k : ℕ) (before : Buffers) (held limit : ℕ) (result : List ℕ) → ℕ → Buffers → List ℕ → Type 0
ExportKeeps e sheet k before held limit result returned after words =
    let called : Called = listing_with e sheet k before held limit (ltb (length result) 6) in
    (exported_of result after called.answer ≡ exported returned after words) × PromisedBy e sheet k before held limit called.answer after called.struck

abbrev pub ExportPromises : (sheet : List ℕ) (k : ℕ) (before : Buffers) (held limit : ℕ) (result : List ℕ) → ℕ → Buffers → List ℕ → Type 0
ExportPromises = ExportKeeps edition1

-- ---- the test and the reduction

-- S holds of the plant of a sheet of either edition and of the assignment to its decision variables that the words hold
abbrev pub OfSheet : List ℕ → ℕ → ℕ → (Plant → Assignment → Type 0) → Type 0
OfSheet sheet mask values S = (p : Plant) (end : ℕ) → read_either sheet ≡ got p end → S p (assignment_of (length p.costs) mask values)

-- where the test was not refused, its first result word tells the truth: 1 that the assignment is consistent, and then the bytes show it, 2 that it is not
pub record TestTells (sheet : List ℕ) (mask values returned : ℕ) (shown result : List ℕ) : Type 0 where
  pub consistent : returned ≡ 0 → get_or result 0 0 ≡ 1 → OfSheet sheet mask values (λ p a. Consistent p a × Shows p a shown)
  pub inconsistent : returned ≡ 0 → get_or result 0 0 ≡ 2 → OfSheet sheet mask values (λ p a. Consistent p a → ⊥)

-- two words hold a minimal conflict contained in the assignment
abbrev pub ReducedTo : (mask values : ℕ) → Plant → Assignment → Type 0
ReducedTo mask values p a = (c : Assignment) × Words c mask values × Minimal p c × (manifests a c ≡ true)

-- and so does that of the reduction: 1 that the assignment is consistent, 2 that it is not, and that the words of the conflict are those of a minimal one that it contains
pub record ReduceTells (sheet : List ℕ) (mask values returned : ℕ) (conflict result : List ℕ) : Type 0 where
  pub consistent : returned ≡ 0 → get_or result 0 0 ≡ 1 → OfSheet sheet mask values Consistent
  pub inconsistent : returned ≡ 0 → get_or result 0 0 ≡ 2 → OfSheet sheet mask values (λ p a. Consistent p a → ⊥)
  pub minimal : returned ≡ 0 → get_or result 0 0 ≡ 2 → OfSheet sheet mask values (ReducedTo (get_or conflict 0 0) (get_or conflict 1 0))
