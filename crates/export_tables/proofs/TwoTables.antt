-- A plant editor that saves and opens: reading what a call of `leading_write` wrote returns the tables, and writing what a call of `leading_read` gave returns the sheet's bytes, whatever else the calls were lent. Assumes nothing.
use mathlib.Core.Path.{◌≡◌, sym, ap, ◌∙◌}
use mathlib.Core.List.{List}
use Prim.Native.Nat.{ℕ, ◌≤◌}
use lib.ListN.{length, take}
use Rattle.model.specs.Lists.{filled}
use Rattle.model.specs.Calls.{answered}
use Rattle.model.specs.Tables.{Tables}
use Rattle.model.specs.TableCalls.{wrote, write_call, read_tables, filled_tables, front_tables, write_export, read_export}
use Rattle.theory.proofs.PlantTables.{front-back}
use Rattle.theory.proofs.WriteRead.{read-agree, room-writes}
use Rattle.export_tables.specs.Exports.{WriteCall, ReadCall}

-- a reading that was not refused: what it returns, and the tables at the front of those that were lent
read_back : (sheet : List ℕ) (t : Tables) (r : ReadCall sheet) → read_tables sheet ≡ answered t → (r.returned ≡ 0) × (front_tables r.after ≡ t)
unfolding read_export
read_back sheet t r h =
    let e : ◌≡◌ {A = ℕ × Tables} (0, filled_tables t r.lent) (r.returned, r.after) = rw (read_export, h) at r.equation in
    (sym (ap (λ (x : ℕ × Tables). x.0) e), ap (λ (x : ℕ × Tables). front_tables x.1) (sym e) ∙ front-back t r.lent (read-agree sheet t h))

-- what a call of `leading_write` wrote, any call of `leading_read` returns
pub written_opens : (t : Tables) (w : WriteCall t) → w.returned ≡ 0 → (r : ReadCall (take w.bytes w.after)) → (r.returned ≡ 0) × (front_tables r.after ≡ t)
written_opens t w ok r = read_back (take w.bytes w.after) t r (w.right.written ok).reads

-- what a call of `leading_read` gave, any call of `leading_write` with room for it writes as it was
pub opened-writes : (sheet : List ℕ) (r : ReadCall sheet) → r.returned ≡ 0 → (w : WriteCall (front_tables r.after)) → length sheet ≤ length w.buffer
    → (w.returned ≡ 0) × (w.bytes ≡ length sheet) × (w.after ≡ filled sheet w.buffer)
unfolding write_export
opened-writes sheet r ok w room =
    let e : write_call (front_tables r.after) w.buffer ≡ wrote sheet w.buffer = (r.right.opened ok).writes w.buffer ∙ room-writes sheet w.buffer room in
    let f : ◌≡◌ {A = ℕ × List ℕ × ℕ} (0, filled sheet w.buffer, length sheet) (w.returned, w.after, w.bytes) = rw (write_export, e) at w.equation in
    (sym (ap (λ (x : ℕ × List ℕ × ℕ). x.0) f), sym (ap (λ (x : ℕ × List ℕ × ℕ). x.2) f), sym (ap (λ (x : ℕ × List ℕ × ℕ). x.1) f))
