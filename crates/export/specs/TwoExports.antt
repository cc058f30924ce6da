-- A call of `leading_list` or `leading_list_weights` that returned 0, by its contract, and its list as a C program reads it. Assumes nothing: these are definitions.
use Rattle.std.specs.Prelude.{◌≡◌, Bool, false, List, ℕ, get_or}
use Rattle.model.specs.Order.{Entry}
use Rattle.model.specs.Sheet.{edition_of}
use Rattle.model.specs.Calls.{Buffers, run_list}
use Rattle.export.specs.Exports.{exported, export_of, ExportKeeps}

-- any call on this sheet that returned 0, of the export that takes costs or of the one that takes weights: what it was given, what it left, and its `ensures`
pub record CallOf (weighed : Bool) (sheet : List ℕ) : Type 0 where
  pub k : ℕ
  pub before : Buffers
  pub held : ℕ
  pub limit : ℕ
  pub result : List ℕ
  pub returned : ℕ
  pub after : Buffers
  pub words : List ℕ
  pub ensures : (export_of weighed sheet k before held limit result ≡ exported returned after words) × ExportKeeps (edition_of weighed) sheet k before held limit result returned after words
  pub accepted : returned ≡ 0

abbrev pub ExportCall : List ℕ → Type 0
ExportCall = CallOf false

-- result word 1
abbrev pub listed : {weighed : Bool} {sheet : List ℕ} → CallOf weighed sheet → ℕ
listed c = get_or c.words 1 0

-- the first codes with their costs, as many as result word 1 says
abbrev pub list_of : {weighed : Bool} {sheet : List ℕ} → CallOf weighed sheet → List Entry
list_of c = run_list (listed c) c.after
