-- Laws of a sheet that is written: its head and its filler, what tables that no rule refuses are, and the whole of its bits. Assumes nothing.
use mathlib.Core.Path.{◌≡◌, refl, sym, ap, subst, ◌∙◌}
use mathlib.Core.List.{List, ◌++◌, map, append_assoc}
use Prim.Native.Nat.{ℕ, zero, suc, ◌+◌, ◌-◌, ◌*◌, ◌/◌, ◌%◌, ◌^◌, ◌≤◌, ◌<◌}
use native.Mathlib.Omega.{arith}
use lib.ListN.{length, replicate, length-append, length-replicate}
use Rattle.model.specs.Lists.{All, in_turn}
use Rattle.model.specs.Digits.{digits}
use Rattle.model.specs.Sheet.{Literal, Plant, sizes, edition1}
use Rattle.model.specs.Tables.{Tables, literals, plant_of, tables_of, decision_written, state_written, clause_written, plant_written, packed, sheet_of}
use Rattle.model.specs.TableCalls.{lengths_agree, fields_fit, table_grounds}
use Rattle.theory.specs.Digits.{Below}
use Rattle.theory.specs.Plant.{Sized, Present, Accepted}
use Rattle.theory.specs.Puts.{Puts, bits_of}
use Rattle.theory.proofs.Bits.{packed-whole, packed-filler}
use Rattle.theory.proofs.Lists.{all_map, all_join, all_image, all-at}
use Rattle.theory.proofs.Longest.{longest-edition1, no_longer}
use Rattle.theory.proofs.PlantTables.{Agreed, agreed, all-turns, literals-turns, tables-back, tables-accepted, tables-bits}
use Rattle.theory.proofs.Puts.{puts_then}
use Rattle.theory.proofs.Sheet.{no_weights}
use Rattle.theory.proofs.Written.{sheet_length, written}
use Rattle.write_clauses.specs.Narrow.{Narrow}
use Rattle.write_sheet.specs.Ruled.{Ruled}

-- ---- the parts of a sheet's bits

-- the edition and the three numbers
abbrev pub head_of : (d s c : ℕ) → List ℕ
head_of d s c = digits 2 8 1 ++ (digits 2 5 d ++ (digits 2 6 s ++ digits 2 10 c))

abbrev pub variables_of : Plant → List ℕ
variables_of p = in_turn (decision_written edition1) p.costs ++ in_turn state_written p.states

abbrev pub clauses_of : Plant → List ℕ
clauses_of p = in_turn clause_written p.clauses

-- zero bits up to the byte's end
abbrev pub filler_at : ℕ → List ℕ
filler_at place = replicate ((8 - place % 8) % 8) 0

pub head_length : (d s c : ℕ) → length (head_of d s c) ≡ 29
unfolding digits
head_length d s c = refl

-- a sheet is its bits with the filler behind them, where they fill its bytes
pub sheet-put : (p : Plant) (before : List ℕ) {place next : ℕ} {between after : List ℕ} → length before ≡ length (sheet_of edition1 p) → Below 256 after
    → Puts 0 (plant_written edition1 p) (bits_of before) place between → Puts place (filler_at place) between next (bits_of after) → after ≡ sheet_of edition1 p
unfolding sheet_of
sheet-put p before {place} {after = after} e bytes a b =
    let bits : List ℕ = plant_written edition1 p in
    let n : length before ≡ (length bits + 7) / 8 = e ∙ sheet_length edition1 p in
    let zeros : ℕ = (8 - place % 8) % 8 in
    let full : length (bits ++ filler_at place) ≡ 8 * length before = omega (arith, length-append bits (filler_at place), length-replicate {A = ℕ} zeros 0, a.ends) in
    packed-whole (bits ++ filler_at place) before after (puts_then (omega arith) a b).buffer full bytes
    ∙ ap (λ (k : ℕ). packed k (bits ++ filler_at place)) n
    ∙ packed-filler ((length bits + 7) / 8) zeros bits

-- ---- tables that no rule refuses

-- a literal within the rules fits its fields
narrow : (domains : List ℕ) → length domains ≤ 48 → All Sized domains → (l : Literal) → Present domains l → Narrow l
narrow domains few sized l p = record { variable = omega (arith, p.variable); sign = omega (arith, p.sign); value = omega (arith, p.value, (all-at 0 Sized domains sized l.variable p.variable).1) }

-- what they are
pub record Fitting (t : Tables) : Type 0 where
  pub lengths : Agreed t
  pub decisions : t.decisions ≤ 16
  pub states : t.states ≤ 32
  pub clauses : t.clauses ≤ 512
  pub sizes : All Sized t.sizes
  pub counts : All (λ n. n ≤ 15) t.counts
  pub literals : All Narrow (literals t.literals)

-- of a plant's tables
plant_fitting : (p : Plant) → Accepted edition1 p → Agreed (tables_of p) → Fitting (tables_of p)
unfolding edition1
plant_fitting p ok lengths =
    let sized : All Sized (sizes p) = all_join Sized (map length p.costs) p.states (all_image length Sized p.costs ok.decision_sizes_lem) ok.state-sizes in
    let few : length (sizes p) ≤ 48 = omega (arith, lengths.sizes, ok.decisions, ok.states) in
    record {
      lengths = lengths;
      decisions = ok.decisions;
      states = ok.states;
      clauses = ok.clauses;
      sizes = sized;
      counts = all_image length (λ n. n ≤ 15) p.clauses (all_map (λ c b. b.0) p.clauses ok.literals);
      literals = rw (literals-turns p.clauses) (all-turns Narrow p.clauses (all_map (λ c b. all_map (narrow (sizes p) few sized) c b.1) p.clauses ok.literals));
    }

zeros_below : (n : ℕ) → Below (2 ^ 16) (replicate n 0)
zeros_below zero = tt
zeros_below (suc n) = (omega arith, zeros_below n)

module _ (t : Tables) (r : Ruled t) where
  same : tables_of (plant_of t) ≡ t
  same = tables-back t r.lengths

  -- the sheet's bits are its head's, its variables' and its clauses'
  pub bits-parts : head_of t.decisions t.states t.clauses ++ variables_of (plant_of t) ++ clauses_of (plant_of t) ≡ plant_written edition1 (plant_of t)
  unfolding plant_written edition1
  bits-parts =
      let d : length (plant_of t).costs ≡ t.decisions = ap (λ (u : Tables). u.decisions) same in
      let s : length (plant_of t).states ≡ t.states = ap (λ (u : Tables). u.states) same in
      let c : length (plant_of t).clauses ≡ t.clauses = ap (λ (u : Tables). u.clauses) same in
      rw (plant_written, d, s, c) (simp append_assoc)

  parts_length : length (plant_written edition1 (plant_of t)) ≡ 29 + length (variables_of (plant_of t)) + length (clauses_of (plant_of t))
  parts_length = omega (
    arith,
    ap length bits-parts,
    length-append (head_of t.decisions t.states t.clauses ++ variables_of (plant_of t)) (clauses_of (plant_of t)),
    length-append (head_of t.decisions t.states t.clauses) (variables_of (plant_of t)),
    head_length t.decisions t.states t.clauses,
  )

  -- what the tables are, and that their sheet is short, where each cost fits its sixteen bits
  fitting : Below (2 ^ 16) t.costs → Fitting t × (length (sheet_of edition1 (plant_of t)) ≤ 11356)
  unfolding edition1
  fitting small =
      let (ok, allowed) = tables-accepted edition1 t small no_weights r.lengths r.author in
      let sheet : List ℕ = sheet_of edition1 (plant_of t) in
      let fits : Fitting t = subst (λ (u : Tables). Fitting u) same (plant_fitting (plant_of t) ok (subst (λ (u : Tables). Agreed u) (sym same) (agreed t r.lengths))) in
      (fits, rw (← longest-edition1) (no_longer edition1 sheet (plant_of t) (8 * length sheet) (written edition1 (plant_of t) (omega arith) (omega arith) ok allowed)))

-- no rule of tables looks at what the costs are
module _ (t : Tables) (r : Ruled t) where
  -- the same tables with each cost 0
  abbrev free : Tables
  free = record { decisions = t.decisions; states = t.states; clauses = t.clauses; sizes = t.sizes; costs = replicate (length t.costs) 0; counts = t.counts; literals = t.literals }

  ruled_free : Ruled free
  unfolding lengths_agree table_grounds fields_fit
  ruled_free = record { lengths = rw (lengths_agree, length-replicate {A = ℕ} (length t.costs) 0) r.lengths; author = r.author }

  -- what the tables are, and that the parts find room in as many bytes as the sheet has
  pub ready : (n : ℕ) → n ≡ length (sheet_of edition1 (plant_of t)) → Fitting t × (29 + length (variables_of (plant_of t)) + length (clauses_of (plant_of t)) ≤ 8 * n) × (8 * n < 2 ^ 64)
  unfolding edition1
  ready n e =
      let (fits, short) = fitting free ruled_free (zeros_below (length t.costs)) in
      let as_long = length-replicate {A = ℕ} (length t.costs) 0 in
      let all : Fitting t = record { lengths = agreed t r.lengths; decisions = fits.decisions; states = fits.states; clauses = fits.clauses; sizes = fits.sizes; counts = fits.counts; literals = fits.literals } in
      (all, omega (arith, sheet_length edition1 (plant_of t), parts_length t r), omega (arith, short, as_long, tables-bits edition1 t r.lengths, tables-bits edition1 free ruled_free.lengths, sheet_length edition1 (plant_of t), sheet_length edition1 (plant_of free)))
