-- The parts of the sheet put together: what the reading of the whole is, once the variables have been read, and once the clauses have. Assumes nothing.
use mathlib.Core.Path.{◌≡◌, refl, sym, ◌∙◌}
use mathlib.Core.List.{List, ◌++◌, map}
use Prim.Native.Nat.{ℕ, ◌+◌, ◌*◌, ◌≤◌}
use lib.ListN.{length, take, drop}
use lib.Seq.{take-add}
use Rattle.model.specs.Sheet.{Read, refused, got, many, read_clause, read_end, Plant}
use Rattle.model.specs.Tables.{clauses, total}
use Rattle.theory.specs.Tables.{rows, plant_in}
use Rattle.readings.specs.Lengths.{clause_bytes}
use Rattle.readings.proofs.Ways.{on, halt}
use Rattle.sheet_variables.specs.Rest.{read_rest}

-- the variables stand in the tables, and what follows them is to be read
pub record VariablesRead (sheet sizes costs : List ℕ) (d s c place : ℕ) (whole : Read Plant) : Type 0 where
  pub rest : read_rest sheet c (rows (take d sizes) costs) (take s (drop d sizes)) place ≡ whole
  pub lengths : map length (rows (take d sizes) costs) ≡ take d sizes

-- and so do the clauses
pub record ClausesRead {sheet sizes costs : List ℕ} {d s c place : ℕ} {whole : Read Plant} (v : VariablesRead sheet sizes costs d s c place whole) (counts lits : List ℕ) (after : ℕ) : Type 0 where
  pub are : many (read_clause sheet (take (d + s) sizes)) c place ≡ got (clauses (take c counts) lits) after
  pub room : 3 * total (take c counts) ≤ clause_bytes * c

module _ {sheet sizes costs : List ℕ} {d s c place : ℕ} {whole : Read Plant} where
  domains : VariablesRead sheet sizes costs d s c place whole → map length (rows (take d sizes) costs) ++ take s (drop d sizes) ≡ take (d + s) sizes
  domains v = rw v.lengths (sym (take-add d s sizes))

  pub no_clauses : {n : ℕ} → VariablesRead sheet sizes costs d s c place whole → many (read_clause sheet (take (d + s) sizes)) c place ≡ refused n → refused n ≡ whole
  unfolding read_rest
  no_clauses v h = sym (halt _ (rw (domains v) h)) ∙ v.rest

  module _ {v : VariablesRead sheet sizes costs d s c place whole} {counts lits : List ℕ} {after : ℕ} (r : ClausesRead v counts lits after) where
    rest-is : read_end sheet (plant_in d s c sizes costs counts lits) after ≡ whole
    unfolding read_rest
    rest-is = sym (on _ (rw (domains v) r.are) refl) ∙ v.rest

    pub no_end : {n : ℕ} → read_end sheet (plant_in d s c sizes costs counts lits) after ≡ refused n → refused n ≡ whole
    no_end h = sym h ∙ rest-is

    pub whole-read : read_end sheet (plant_in d s c sizes costs counts lits) after ≡ got (plant_in d s c sizes costs counts lits) (8 * length sheet)
        → got (plant_in d s c sizes costs counts lits) (8 * length sheet) ≡ whole
    whole-read h = sym h ∙ rest-is
