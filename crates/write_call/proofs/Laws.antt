-- The writing call by what its tests find: a refusal, or the sheet at the buffer's front. Assumes nothing.
use mathlib.Core.Path.{◌≡◌, refl, sym, ◌∙◌}
use mathlib.Core.Bool.{not}
use mathlib.Core.Option.{none, some}
use mathlib.Core.List.{List, [], ◌∷◌, ◌++◌}
use Prim.Native.Nat.{ℕ, zero, suc, ◌+◌, ◌*◌, ◌/◌, ◌^◌, ◌≤◌, ◌<◌}
use native.Mathlib.Omega.{arith}
use native.Mathlib.Nat.{suc-mul}
use lib.ListN.{length, take, drop}
use lib.Seq.{take-length}
use borrow.Author.Tests.{lt-ltb, le-ltb, not-false}
use Rattle.model.specs.Lists.{All}
use Rattle.model.specs.Sheet.{edition1}
use Rattle.model.specs.Calls.{by_host, by_author, first_given, Answered, answered}
use Rattle.model.specs.Tables.{Tables, total, plant_of, sheet_of}
use Rattle.model.specs.TableCalls.{unwritten, lengths_agree, length_grounds, table_grounds, room_grounds, write_sheet, write_call}
use Rattle.theory.specs.Digits.{Below}
use Rattle.theory.specs.WriteRead.{WritePromises}
use Rattle.theory.proofs.Lists.{all_map}
use Rattle.theory.proofs.PlantTables.{none-given, tables-bits}
use Rattle.theory.proofs.WriteRead.{call-writes, write_promises}
use Rattle.theory.proofs.Written.{sheet_length}
use Rattle.write_sheet.specs.Ruled.{Ruled}
use Rattle.write_sheet.proofs.Laws.{ready}

-- no rule refuses the tables
pub ruled : (t : Tables) → none ≡ first_given (length_grounds t) → none ≡ first_given (table_grounds edition1 t) → Ruled t
unfolding length_grounds
ruled t l r = record { lengths = not-false _ (none-given (not (lengths_agree t)) 16 _ (sym l)).0; author = sym r }

-- ---- how long tables are that no rule refuses

-- numbers that are at most m add up to at most m for each
total-most : (m i : ℕ) (l : List ℕ) → All (λ n. n ≤ m) l → total (take i l) ≤ i * m
unfolding total
total-most m zero l a = omega arith
total-most m (suc i) [] a = omega arith
total-most m (suc i) (n ∷ l) a = omega (arith, suc-mul i m, total-most m i l a.1)

-- the most entries of each table: 48 variables, 16 costs for each of 16 decision variables, 512 clauses, three bytes for each of 15 literals
pub record Most (t : Tables) : Type 0 where
  pub sizes : length t.sizes ≤ 48
  pub costs : length t.costs ≤ 256
  pub counts : length t.counts ≤ 512
  pub literals : length t.literals ≤ 23040

module _ (t : Tables) (r : Ruled t) where
  pub most : Most t
  most =
      let (fits, room, few) = ready t r _ refl in
      let a = fits.lengths in
      let costs = total-most 16 t.decisions t.sizes (all_map (λ n b. b.1) t.sizes fits.sizes) in
      let clauses : total t.counts ≤ length t.counts * 15 = rw take-length at (total-most 15 (length t.counts) t.counts fits.counts) in
      record {
        sizes = omega (arith, a.sizes, fits.decisions, fits.states);
        costs = omega (arith, a.costs, costs, fits.decisions);
        counts = omega (arith, a.counts, fits.clauses);
        literals = omega (arith, a.counts, a.literals, clauses, fits.clauses);
      }

  -- the bytes of their sheet, by the lengths of the tables
  pub bytes : {n : ℕ} → n ≡ (29 + 4 * length t.sizes + 16 * length t.costs + 4 * length t.counts + 11 * (length t.literals / 3) + 7) / 8 → n ≡ length (sheet_of edition1 (plant_of t))
  unfolding edition1
  bytes e = e ∙ omega (arith, tables-bits edition1 t r.lengths, sheet_length edition1 (plant_of t))

-- ---- the call

module _ (t : Tables) (buffer : List ℕ) where
  pub lengths-refused : {n : ℕ} → some n ≡ first_given (length_grounds t) → write_call t buffer ≡ unwritten buffer (by_host n)
  unfolding write_call
  lengths-refused e = rw (write_call, ← e)

  pub rules_refused : none ≡ first_given (length_grounds t) → {n : ℕ} → some n ≡ first_given (table_grounds edition1 t) → write_call t buffer ≡ unwritten buffer (by_author n)
  unfolding write_call
  rules_refused l e = rw (write_call, ← l, ← e)

  module _ (r : Ruled t) {n : ℕ} (e : n ≡ length (sheet_of edition1 (plant_of t))) where
    pub short-refused : length buffer < n → write_call t buffer ≡ unwritten buffer (by_host 18)
    unfolding write_sheet first_given room_grounds
    short-refused h = call-writes t r.lengths r.author buffer ∙ rw (write_sheet, room_grounds, lt-ltb (length buffer) (length (sheet_of edition1 (plant_of t))) (omega arith))

    -- what is lent at the front is the sheet afterwards
    pub sheet-wrote : n ≤ length buffer → {part : List ℕ} → part ≡ sheet_of edition1 (plant_of t) → write_call t buffer ≡ record { answer = answered n; after = part ++ drop n buffer }
    unfolding write_sheet first_given room_grounds
    sheet-wrote h p = call-writes t r.lengths r.author buffer ∙ rw (write_sheet, room_grounds, le-ltb (length buffer) (length (sheet_of edition1 (plant_of t))) (omega arith), e, p)

  -- what the call answers and leaves behind keeps its promise
  pub promised : Below (2 ^ 16) t.costs → {a : Answered ℕ} {after : List ℕ} → write_call t buffer ≡ record { answer = a; after = after } → WritePromises t a after
  promised b e = rw e at (write_promises t buffer b)
