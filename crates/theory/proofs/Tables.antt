-- What the tables of a plant say of it. Assumes nothing.
use mathlib.Core.Path.{◌≡◌, refl, sym, ap, ◌∙◌}
use mathlib.Core.List.{List, [], ◌∷◌, ◌++◌}
use Prim.Native.Nat.{ℕ, zero, suc, ◌+◌, ◌*◌, ◌≤◌, ◌<◌}
use native.Mathlib.Omega.{arith}
use lib.ListN.{length, get_or, take, drop, length-map, take-append-drop}
use lib.Seq.{length-take-le, take-take, take-add, drop_at, drop-drop}
use Rattle.model.specs.Lists.{All}
use Rattle.model.specs.Sheet.{Plant, edition1, decision_sizes, sizes}
use Rattle.theory.specs.Plant.{Sized}
use Rattle.model.specs.Tables.{clauses}
use Rattle.theory.specs.Tables.{rows, plant_from, plant_in, Tabled}
use Rattle.theory.specs.Words.{HasRows}
use Rattle.theory.proofs.Lists.{all_image}

-- tables with room to spare hold the plant of their first parts
pub plant-from : (d s c : ℕ) (sizes costs counts lits : List ℕ) → d + s ≤ length sizes → plant_in d s c sizes costs counts lits ≡ plant_from d (take (d + s) sizes) costs (take c counts) lits
plant-from d s c sizes costs counts lits h =
    let a : take d (take (d + s) sizes) ≡ take d sizes = take-take d (d + s) sizes (omega arith) in
    let b : drop d (take (d + s) sizes) ≡ take s (drop d sizes) = rw (take-add d s sizes) (drop_at (take d sizes) (take s (drop d sizes)) d (length-take-le d sizes (omega arith))) in
    rw (a, b)

-- a row of the table at its place
pub rows_at : (domains costs : List ℕ) (v : ℕ) → v < length domains → get_or (rows domains costs) v [] ≡ take (get_or domains v 0) (take 16 (drop (16 * v) costs))
unfolding rows
rows_at [] costs v l = absurd (omega arith)
rows_at (n ∷ domains) costs zero l = refl
rows_at (n ∷ domains) costs (suc v) l =
    let e : 16 + 16 * v ≡ 16 * suc v = omega arith in
    rw (drop-drop (16 * v) 16 costs, e) at (rows_at domains (drop 16 costs) v (omega arith))

-- a table has as many rows as there are domains
pub rows_length : (domains costs : List ℕ) → length (rows domains costs) ≡ length domains
unfolding rows
rows_length [] costs = refl
rows_length (n ∷ domains) costs = rw (rows_length domains (drop 16 costs))

-- a table has the rows that are read from it
has-rows : (domains costs : List ℕ) → HasRows (rows domains costs) costs
unfolding rows
has-rows [] costs = tt
has-rows (n ∷ domains) costs = ((drop n (take 16 costs), sym (take-append-drop n (take 16 costs))), has-rows domains (drop 16 costs))

module _ {p : Plant} {d : ℕ} {domains costs counts lits : List ℕ} (t : Tabled p d domains costs counts lits) where
  -- the decision variables' sizes are the first d
  pub tabled-decisions : decision_sizes p ≡ take d domains
  tabled-decisions = ap decision_sizes t.plant ∙ t.lengths

  -- there are d decision variables, at most sixteen
  pub tabled-count : length p.costs ≡ d
  tabled-count = sym (length-map p.costs length) ∙ ap length tabled-decisions ∙ length-take-le d domains t.decisions

  pub tabled-few : d ≤ 16
  unfolding edition1
  tabled-few = omega (arith, tabled-count, t.accepted.decisions)

  -- all sizes are those of the table
  pub tabled-sizes : sizes p ≡ domains
  tabled-sizes = ap (λ (ss : List ℕ). ss ++ p.states) tabled-decisions ∙ ap (λ (q : Plant). take d domains ++ q.states) t.plant ∙ take-append-drop d domains

  pub tabled-clauses : p.clauses ≡ clauses counts lits
  tabled-clauses = ap (λ (q : Plant). q.clauses) t.plant

  -- the costs of the plant are rows of the table
  pub tabled-rows : HasRows p.costs costs
  tabled-rows = rw t.plant (has-rows (take d domains) costs)

  -- each domain has from 1 to 16 values
  pub tabled-sized : All Sized (decision_sizes p)
  tabled-sized = all_image length Sized p.costs t.accepted.decision_sizes_lem
