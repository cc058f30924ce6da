-- The exports of the writing and the reading, from the answers of the calls. Assumes nothing.
use mathlib.Core.Path.{◌≡◌, refl, sym, ap}
use mathlib.Core.Logic.{inl, inr}
use mathlib.Core.List.{List, [], ◌∷◌}
use Prim.Native.Nat.{ℕ, ◌≤◌}
use native.Mathlib.Omega.{arith}
use lib.ListN.{length, set}
use Rattle.model.specs.Lists.{filled}
use Rattle.model.specs.Sheet.{Plant, Read, got, edition1, read_sheet}
use Rattle.model.specs.Calls.{Refusal, by_host, by_author, refusal_number, Answered, refused, answered}
use Rattle.model.specs.Tables.{Tables}
use Rattle.model.specs.TableCalls.{Wrote, write_call, read_tables, tables_after, returned_by, written_word, write_export, read_export}
use Rattle.theory.specs.Refusals.{TableNumber}
use Rattle.theory.specs.WriteRead.{WritePromises, ReadPromises}
use Rattle.theory.proofs.Refusals.{author_number1, table-refusal}
use Rattle.refusal.specs.declared.Refusal.{Refusal as Whose}
use Rattle.refusal.specs.Refusal.{refusal_of, written_of}
use Rattle.std.specs.Prelude.{Result, Ok, Err}
use Rattle.read_call.specs.Lent.{Answers}
use Rattle.export_tables.specs.Exports.{WriteTells, ReadTells}

-- one store fills the first place
pub one_written : (n : ℕ) (l : List ℕ) → 1 ≤ length l → set l 0 n ≡ filled (n ∷ []) l
one_written n [] h = absurd (omega arith)
one_written n (x ∷ l) h = refl

-- no refusal of a writing has the number 0
numbered : (r : Refusal) → TableNumber r → refusal_number r ≡ 0 → ⊥
numbered (by_host n) (inl h) e = omega arith
numbered (by_host n) (inr h) e = omega arith
numbered (by_author n) (inl h) e = omega arith
numbered (by_author n) (inr h) e = omega (arith, h.0)

module _ (t : Tables) (buffer : List ℕ) (word : ℕ) (after : List ℕ) where
  write-tells : (a : Answered ℕ) → (write_call t buffer).answer ≡ a → WritePromises t a after → WriteTells t (returned_by a) after (written_word word a)
  write-tells (refused r) e h = record { written = λ z. absurd (numbered r (table-refusal t buffer r e) z) }
  write-tells (answered n) e h = record { written = λ z. h }

  -- what the writing call answered, as the export tells it
  pub write-exported : (r q : Result ℕ Whose) → r ≡ q → write_call t buffer ≡ record { answer = written_of r; after = after } → WritePromises t (written_of r) after
      → {n w : ℕ} → n ≡ returned_by (written_of q) → w ≡ written_word word (written_of q) → (write_export t buffer word ≡ (n, after, w)) × WriteTells t n after w
  unfolding write_export
  write-exported r q f e h {n} {w} g k =
      let e : write_call t buffer ≡ record { answer = written_of q; after = after } = rw f at e in
      let h : WritePromises t (written_of q) after = rw f at h in
      (rw (write_export, e, g, k), rw (g, k) (write-tells (written_of q) (ap (λ (x : Wrote). x.answer) e) h))

module _ (sheet : List ℕ) (lent after : Tables) where
  -- no refusal of a reading has the number 0
  read-refused : (r : Refusal) → read_tables sheet ≡ refused r → refusal_number r ≡ 0 → ⊥
  unfolding read_tables
  read-refused r h z = go (read_sheet edition1 sheet) refl
    where
      go : (x : Read Plant) → read_sheet edition1 sheet ≡ x → ⊥
      go (Read.refused n) e =
          let f : by_author n ≡ r = let a = rw (read_tables, e) at h in cc a in
          let m : refusal_number r ≡ n = sym (ap refusal_number f) in
          omega (arith, (author_number1 sheet n e).0)
      go (got p end) e = let a = rw (read_tables, e) at h in let z : ◌≡◌ {A = ℕ} 0 1 = cc a in omega arith

  read-tells : (a : Answered Tables) → read_tables sheet ≡ a → ReadPromises sheet a after → ReadTells sheet (returned_by a) after
  read-tells (refused r) e h = record { opened = λ z. absurd (read-refused r e z) }
  read-tells (answered t) e h = record { opened = λ z. h }

  -- what the reading call answered, as the export tells it
  pub read-exported : (n : ℕ) → n ≡ returned_by (read_tables sheet) → after ≡ tables_after lent (read_tables sheet) → ReadPromises sheet (read_tables sheet) after
      → (read_export sheet lent ≡ (n, after)) × ReadTells sheet n after
  unfolding read_export
  read-exported n g k h = (rw (read_export, g, k), rw g (read-tells (read_tables sheet) refl h))

-- the number that is returned for an answer
pub refused_returns : (sheet : List ℕ) (q : Result (Unit {0}) Whose) → Answers q (read_tables sheet) → {r : Whose} → q ≡ Err r → refusal_number (refusal_of r) ≡ returned_by (read_tables sheet)
refused_returns sheet q h {r} f = let h : read_tables sheet ≡ refused (refusal_of r) = rw f at h in rw h

pub tables_returns : (sheet : List ℕ) (q : Result (Unit {0}) Whose) → Answers q (read_tables sheet) → {u : Unit {0}} → q ≡ Ok u → 0 ≡ returned_by (read_tables sheet)
tables_returns sheet q h f = let h : (t : Tables) × (read_tables sheet ≡ answered t) = rw f at h in rw h.1
