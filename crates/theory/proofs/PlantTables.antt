-- A plant and its tables: each gives back the other, tables within the rules are those of a plant within them, and how many bits their sheet has. Assumes nothing.
use mathlib.Core.Path.{◌≡◌, refl, sym, ap, ap₂, subst, ◌∙◌}
use mathlib.Core.List.{List, [], ◌∷◌, ◌++◌, map, append-nil}
use mathlib.Core.Bool.{Bool, true, false, not, ◌&&◌}
use mathlib.Core.Option.{none}
use Prim.Native.Nat.{ℕ, suc, ◌+◌, ◌-◌, ◌*◌, ◌/◌, ◌%◌, ◌^◌, ◌≤◌, ◌<◌}
use native.Mathlib.Omega.{arith}
use native.Mathlib.Nat.{mul-zero, mul-suc, mul-add}
use lib.Dec.{ltb, leb, eqb}
use lib.ListN.{length, get_or, take, drop, length-append, length-drop, length-map, take-append-drop}
use lib.Seq.{length-take-le, take-length, take-add, take_at, drop_at, take-append-le}
use borrow.Author.Tests.{ltb-true, leb-true, eqb-true, lt-ltb, le-leb, eq-eqb, not-false}
use Rattle.model.specs.Lists.{All, all_of, in_turn, filled}
use Rattle.model.specs.Digits.{digits}
use Rattle.model.specs.Sheet.{Literal, Plant, sizes, Edition, decisions_allowed}
use Rattle.model.specs.Calls.{Ground, ground_if, first_given}
use Rattle.model.specs.Tables.{Tables, total, cost_rows, literals, clauses, plant_of, literal_bytes, tables_of, decision_written, state_written, literal_written, clause_written, plant_written}
use Rattle.model.specs.TableCalls.{lengths_agree, fields_fit, literal_grounds, table_grounds, filled_tables, front_tables}
use Rattle.theory.specs.Digits.{Below}
use Rattle.theory.specs.Longest.{head_bits, literal_bits}
use Rattle.theory.specs.Plant.{Sized, Present, Accepted}
use Rattle.theory.specs.Tables.{tables_given}
use Rattle.theory.proofs.Digits.{digits_length}
use Rattle.theory.proofs.Lists.{all_map, all_join, all_left, all_right, all-zip, all_any, all_image, and_both, in_turn_length}
use Rattle.theory.proofs.Sheet.{allowed-most}
use Rattle.theory.proofs.TableClauses.{clauses_length}
use Rattle.theory.proofs.Written.{written_length}

-- ---- lists in turn

module _ {A B : Type 0} where
  -- each member gives w
  turn_length : (give : A → List B) (w : ℕ) → ((x : A) → length (give x) ≡ w) → (xs : List A) → length (in_turn give xs) ≡ w * length xs
  turn_length give w h xs = in_turn_length give w xs (all_any h xs)

  -- each list gives n, and w for each of its members
  turns_length : (give : List A → List B) (n w : ℕ) → ((xs : List A) → length (give xs) ≡ n + w * length xs)
      → (xss : List (List A)) → length (in_turn give xss) ≡ n * length xss + w * length (in_turn (λ xs. xs) xss)
  turns_length give n w h [] = omega (arith, mul-zero n, mul-zero w)
  turns_length give n w h (xs ∷ xss) =
      let rest : List A = in_turn (λ xs. xs) xss in
      let sum : w * length (xs ++ rest) ≡ w * length xs + w * length rest = rw (length-append xs rest) (mul-add w (length xs) (length rest)) in
      omega (arith, h xs, turns_length give n w h xss, length-append (give xs) (in_turn give xss), mul-suc n (length xss))

module _ {A : Type 0} where
  -- the lengths of lists add up to that of the lists in turn
  turns-total : (xss : List (List A)) → total (map length xss) ≡ length (in_turn (λ xs. xs) xss)
  unfolding total
  turns-total [] = refl
  turns-total (xs ∷ xss) = omega (arith, turns-total xss, length-append xs (in_turn (λ xs. xs) xss))

  -- what holds of all members of all lists holds of those of the lists in turn, and the other way round
  pub all-turns : (P : A → Type 0) (xss : List (List A)) → All (All P) xss → All P (in_turn (λ xs. xs) xss)
  all-turns P [] a = tt
  all-turns P (xs ∷ xss) a = all_join P xs (in_turn (λ xs. xs) xss) a.0 (all-turns P xss a.1)

  turns-all : (P : A → Type 0) (xss : List (List A)) → All P (in_turn (λ xs. xs) xss) → All (All P) xss
  turns-all P [] a = tt
  turns-all P (xs ∷ xss) a = (all_left P xs (in_turn (λ xs. xs) xss) a, turns-all P xss (all_right P xs (in_turn (λ xs. xs) xss) a))

-- what holds of all images holds of what they are images of
image_all : {A B : Type 0} (g : A → B) (P : B → Type 0) (xs : List A) → All P (map g xs) → All (λ x. P (g x)) xs
image_all g P [] a = tt
image_all g P (x ∷ xs) a = (a.0, image_all g P xs a.1)

-- ---- costs

-- there is a row for each size
rows_length : (sizes costs : List ℕ) → length (cost_rows sizes costs) ≡ length sizes
unfolding cost_rows
rows_length [] costs = refl
rows_length (n ∷ sizes) costs = ap suc (rows_length sizes (drop n costs))

-- with as many costs as the size says
pub rows-lengths : (sizes costs : List ℕ) → total sizes ≤ length costs → map length (cost_rows sizes costs) ≡ sizes
unfolding total cost_rows
rows-lengths [] costs h = refl
rows-lengths (n ∷ sizes) costs h = ap₂ (λ (m : ℕ) (ms : List ℕ). m ∷ ms) (length-take-le n costs (omega arith)) (rows-lengths sizes (drop n costs) (omega (arith, length-drop n costs)))

-- the rows in turn are the costs
pub rows-turns : (sizes costs : List ℕ) → in_turn (λ row. row) (cost_rows sizes costs) ≡ take (total sizes) costs
unfolding total cost_rows
rows-turns [] costs = refl
rows-turns (n ∷ sizes) costs = rw (rows-turns sizes (drop n costs), take-add n (total sizes) costs)

-- and rows in turn give the rows back
rows_back : (rows : List (List ℕ)) → cost_rows (map length rows) (in_turn (λ row. row) rows) ≡ rows
unfolding cost_rows
rows_back [] = refl
rows_back (row ∷ rows) =
    let rest : List ℕ = in_turn (λ row. row) rows in
    rw (take_at row rest (length row) refl, drop_at row rest (length row) refl, rows_back rows)

-- ---- literals

-- three bytes are a literal
pub literals_length : (bytes : List ℕ) → length (literals bytes) ≡ length bytes / 3
unfolding literals
literals_length [] = refl
literals_length (v ∷ []) = refl
literals_length (v ∷ s ∷ []) = refl
literals_length (v ∷ s ∷ x ∷ bytes) = omega (arith, literals_length bytes)

bytes_length : (ls : List Literal) → length (in_turn literal_bytes ls) ≡ 3 * length ls
bytes_length = turn_length literal_bytes 3 (λ l. refl)

turns-bytes : (cs : List (List Literal)) → length (in_turn (in_turn literal_bytes) cs) ≡ 3 * length (in_turn (λ c. c) cs)
turns-bytes cs = omega (arith, turns_length (in_turn literal_bytes) 0 3 (λ c. omega (arith, bytes_length c)) cs)

-- where no byte is left over, the literals give the bytes back
bytes_back : (bytes : List ℕ) → length bytes % 3 ≡ 0 → in_turn literal_bytes (literals bytes) ≡ bytes
unfolding literals
bytes_back [] h = refl
bytes_back (v ∷ []) h = absurd (omega arith)
bytes_back (v ∷ s ∷ []) h = absurd (omega arith)
bytes_back (v ∷ s ∷ x ∷ bytes) h = ap (λ (rest : List ℕ). v ∷ s ∷ x ∷ rest) (bytes_back bytes (omega arith))

-- and the bytes give the literals back
literals-front : (ls : List Literal) (bytes : List ℕ) → literals (in_turn literal_bytes ls ++ bytes) ≡ ls ++ literals bytes
unfolding literals
literals-front [] bytes = refl
literals-front (l ∷ ls) bytes = ap (λ (rest : List Literal). l ∷ rest) (literals-front ls bytes)

literals-back : (ls : List Literal) → literals (in_turn literal_bytes ls) ≡ ls
unfolding literals
literals-back ls = simp append-nil at (literals-front ls [])

pub literals-turns : (cs : List (List Literal)) → literals (in_turn (in_turn literal_bytes) cs) ≡ in_turn (λ c. c) cs
unfolding literals
literals-turns [] = refl
literals-turns (c ∷ cs) = rw (literals-front c (in_turn (in_turn literal_bytes) cs), literals-turns cs)

-- ---- clauses

-- a clause has as many literals as its count says
pub clauses-lengths : (counts bytes : List ℕ) → 3 * total counts ≤ length bytes → map length (clauses counts bytes) ≡ counts
unfolding total clauses
clauses-lengths [] bytes h = refl
clauses-lengths (n ∷ counts) bytes h =
    let first : length (literals (take (3 * n) bytes)) ≡ n = omega (arith, literals_length (take (3 * n) bytes), length-take-le (3 * n) bytes (omega arith)) in
    ap₂ (λ (m : ℕ) (ms : List ℕ). m ∷ ms) first (clauses-lengths counts (drop (3 * n) bytes) (omega (arith, length-drop (3 * n) bytes)))

-- the clauses' bytes in turn are the bytes
pub clauses-turns : (counts bytes : List ℕ) → 3 * total counts ≤ length bytes → in_turn (in_turn literal_bytes) (clauses counts bytes) ≡ take (3 * total counts) bytes
unfolding total clauses
clauses-turns [] bytes h = refl
clauses-turns (n ∷ counts) bytes h =
    let l : length (take (3 * n) bytes) ≡ 3 * n = length-take-le (3 * n) bytes (omega arith) in
    let is : 3 * (n + total counts) ≡ 3 * n + 3 * total counts = omega arith in
    rw (bytes_back (take (3 * n) bytes) (omega arith), clauses-turns counts (drop (3 * n) bytes) (omega (arith, length-drop (3 * n) bytes)), is, take-add (3 * n) (3 * total counts) bytes)

-- and clauses' bytes in turn give the clauses back
clauses-back : (cs : List (List Literal)) → clauses (map length cs) (in_turn (in_turn literal_bytes) cs) ≡ cs
unfolding clauses
clauses-back [] = refl
clauses-back (c ∷ cs) =
    let rest : List ℕ = in_turn (in_turn literal_bytes) cs in
    rw (take_at (in_turn literal_bytes c) rest (3 * length c) (bytes_length c), drop_at (in_turn literal_bytes c) rest (3 * length c) (bytes_length c), literals-back c, clauses-back cs)

-- ---- a plant and its tables

-- what the lengths of tables are where they agree with the numbers
pub record Agreed (t : Tables) : Type 0 where
  pub sizes : length t.sizes ≡ t.decisions + t.states
  pub costs : length t.costs ≡ total (take t.decisions t.sizes)
  pub counts : length t.counts ≡ t.clauses
  pub literals : length t.literals ≡ 3 * total t.counts

pub agreed : (t : Tables) → lengths_agree t ≡ true → Agreed t
unfolding lengths_agree
agreed t h =
    let sizes : Bool = eqb (length t.sizes) (t.decisions + t.states) in
    let costs : Bool = eqb (length t.costs) (total (take t.decisions t.sizes)) in
    let counts : Bool = eqb (length t.counts) t.clauses in
    let (three, four) = and_both (sizes && costs && counts) (eqb (length t.literals) (3 * total t.counts)) h in
    let (two, third) = and_both (sizes && costs) counts three in
    let (one, second) = and_both sizes costs two in
    record { sizes = eqb-true _ _ one; costs = eqb-true _ _ second; counts = eqb-true _ _ third; literals = eqb-true _ _ four }

pub agree : (t : Tables) → Agreed t → lengths_agree t ≡ true
unfolding lengths_agree
agree t a = rw (
  lengths_agree,
  eq-eqb (length t.sizes) (t.decisions + t.states) a.sizes,
  eq-eqb (length t.costs) (total (take t.decisions t.sizes)) a.costs,
  eq-eqb (length t.counts) t.clauses a.counts,
  eq-eqb (length t.literals) (3 * total t.counts) a.literals,
)

-- tables with the same numbers and tables are the same
tables-same : (t : Tables) (d s c : ℕ) (sizes costs counts lits : List ℕ) → d ≡ t.decisions → s ≡ t.states → c ≡ t.clauses → sizes ≡ t.sizes → costs ≡ t.costs → counts ≡ t.counts → lits ≡ t.literals
    → tables_given d s c sizes costs counts lits ≡ t
tables-same t d s c sizes costs counts lits hd hs hc hsizes hcosts hcounts hlits = rw (hd, hs, hc, hsizes, hcosts, hcounts, hlits)

module _ (p : Plant) where
  decisions-taken : take (length p.costs) (sizes p) ≡ map length p.costs
  decisions-taken = take_at (map length p.costs) p.states (length p.costs) (length-map p.costs length)

  -- the tables of a plant hold it
  pub plant-back : plant_of (tables_of p) ≡ p
  plant-back =
      let states : drop (length p.costs) (sizes p) ≡ p.states = drop_at (map length p.costs) p.states (length p.costs) (length-map p.costs length) in
      rw (decisions-taken, states, rows_back p.costs, clauses-back p.clauses)

  -- and their lengths agree with the numbers
  pub tables_agree : lengths_agree (tables_of p) ≡ true
  tables_agree = agree (tables_of p) record {
    sizes = omega (arith, length-append (map length p.costs) p.states, length-map p.costs length);
    costs = rw decisions-taken (sym (turns-total p.costs));
    counts = length-map p.clauses length;
    literals = omega (arith, turns-bytes p.clauses, turns-total p.clauses);
  }

-- tables whose lengths agree with the numbers are those of the plant that they hold
pub tables-back : (t : Tables) → lengths_agree t ≡ true → tables_of (plant_of t) ≡ t
tables-back t h =
    let a : Agreed t = agreed t h in
    let ds : List ℕ = take t.decisions t.sizes in
    let few : length ds ≡ t.decisions = length-take-le t.decisions t.sizes (omega arith) in
    let costs : take (total ds) t.costs ≡ t.costs = rw (← a.costs) (take-length t.costs) in
    let lits : take (3 * total t.counts) t.literals ≡ t.literals = rw (← a.literals) (take-length t.literals) in
    tables-same t _ _ _ _ _ _ _
    (rows_length ds t.costs ∙ few)
    (omega (arith, length-drop t.decisions t.sizes))
    (clauses_length t.counts t.literals ∙ a.counts)
    (rw (rows-lengths ds t.costs (omega arith)) (take-append-drop t.decisions t.sizes))
    (rows-turns ds t.costs ∙ costs)
    (clauses-lengths t.counts t.literals (omega arith))
    (clauses-turns t.counts t.literals (omega arith) ∙ lits)

-- tables at the front of lent ones are found there again
pub front-back : (t lent : Tables) → lengths_agree t ≡ true → front_tables (filled_tables t lent) ≡ t
front-back t lent h =
    let a : Agreed t = agreed t h in
    let ds : take t.decisions (filled t.sizes lent.sizes) ≡ take t.decisions t.sizes = take-append-le t.decisions t.sizes (drop (length t.sizes) lent.sizes) (omega arith) in
    let cs : take t.clauses (filled t.counts lent.counts) ≡ t.counts = take_at t.counts (drop (length t.counts) lent.counts) t.clauses a.counts in
    tables-same t _ _ _ _ _ _ _ refl refl refl
    (take_at t.sizes (drop (length t.sizes) lent.sizes) (t.decisions + t.states) a.sizes)
    (rw ds (take_at t.costs (drop (length t.costs) lent.costs) (total (take t.decisions t.sizes)) a.costs))
    cs
    (rw cs (take_at t.literals (drop (length t.literals) lent.literals) (3 * total t.counts) a.literals))

-- ---- the rules

module _ {A : Type 0} (test : A → Bool) where
  -- each member passes a test exactly when the test of all says so
  all_pass : (xs : List A) → all_of test xs ≡ true → All (λ x. test x ≡ true) xs
  all_pass [] h = tt
  all_pass (x ∷ xs) h = go (test x) (all_pass xs) h
    where
      go : (b : Bool) → (all_of test xs ≡ true → All (λ x. test x ≡ true) xs) → (elim b [ true ↦ all_of test xs | false ↦ false ]) ≡ true → (b ≡ true) × All (λ x. test x ≡ true) xs
      go true others h = (refl, others h)
      go false others h = absurd (let z : ◌≡◌ {A = ℕ} 0 1 = cc in omega arith)

  pass_all : (xs : List A) → All (λ x. test x ≡ true) xs → all_of test xs ≡ true
  pass_all [] a = refl
  pass_all (x ∷ xs) a = rw (all_of, a.0) (pass_all xs a.1)

-- no ground is given: not the first, nor one of the others
pub none-given : (given : Bool) (n : ℕ) (gs : List Ground) → first_given (ground_if given n ∷ gs) ≡ none → (given ≡ false) × (first_given gs ≡ none)
unfolding first_given
none-given true n gs h = absurd (let z : ◌≡◌ {A = ℕ} 0 1 = cc in omega arith)
none-given false n gs h = (refl, h)

pub given-none : (given : Bool) (n : ℕ) (gs : List Ground) → given ≡ false → first_given gs ≡ none → first_given (ground_if given n ∷ gs) ≡ none
unfolding first_given
given-none true n gs e h = absurd (let z : ◌≡◌ {A = ℕ} 0 1 = cc in omega arith)
given-none false n gs e h = h

none_both : (gs hs : List Ground) → first_given (gs ++ hs) ≡ none → (first_given gs ≡ none) × (first_given hs ≡ none)
unfolding first_given
none_both [] hs h = (refl, h)
none_both (g ∷ gs) hs h =
    let (first, others) = none-given g.given g.number (gs ++ hs) h in
    let (these, those) = none_both gs hs others in
    (given-none g.given g.number gs first these, those)

both-none : (gs hs : List Ground) → first_given gs ≡ none → first_given hs ≡ none → first_given (gs ++ hs) ≡ none
unfolding first_given
both-none [] hs g h = h
both-none (x ∷ gs) hs g h =
    let (first, others) = none-given x.given x.number gs g in
    given-none x.given x.number (gs ++ hs) first (both-none gs hs others h)

module _ {A : Type 0} (grounds : A → List Ground) where
  none_each : (xs : List A) → first_given (in_turn grounds xs) ≡ none → All (λ x. first_given (grounds x) ≡ none) xs
  none_each [] h = tt
  none_each (x ∷ xs) h = let (first, others) = none_both (grounds x) (in_turn grounds xs) h in (first, none_each xs others)

  each_none : (xs : List A) → All (λ x. first_given (grounds x) ≡ none) xs → first_given (in_turn grounds xs) ≡ none
  unfolding first_given
  each_none [] a = refl
  each_none (x ∷ xs) a = both-none (grounds x) (in_turn grounds xs) a.0 (each_none xs a.1)

-- a size within the rules
sized : (n : ℕ) → (leb 1 n && leb n 16) ≡ true → Sized n
sized n h = let (some, few) = and_both (leb 1 n) (leb n 16) h in (leb-true 1 n some, leb-true n 16 few)

sized-fits : (n : ℕ) → Sized n → (leb 1 n && leb n 16) ≡ true
sized-fits n s = rw (le-leb 1 n s.0, le-leb n 16 s.1)

-- a literal within the rules
present : (domains : List ℕ) (l : Literal) → first_given (literal_grounds domains l) ≡ none → leb l.sign 1 ≡ true → Present domains l
unfolding literal_grounds
present domains l h s =
    let (there, h) = none-given (not (ltb l.variable (length domains))) 10 _ h in
    let (inside, h) = none-given (not (ltb l.value (get_or domains l.variable 0))) 11 _ h in
    record { variable = ltb-true _ _ (not-false _ there); sign = leb-true _ _ s; value = ltb-true _ _ (not-false _ inside) }

present-none : (domains : List ℕ) (l : Literal) → Present domains l → first_given (literal_grounds domains l) ≡ none
unfolding literal_grounds first_given
present-none domains l p = rw (literal_grounds, first_given, lt-ltb l.variable (length domains) p.variable, lt-ltb l.value (get_or domains l.variable 0) p.value)

module _ (e : Edition) (p : Plant) where
  -- the literals of a plant's tables are those of its clauses
  abbrev bytes : List ℕ
  bytes = in_turn (in_turn literal_bytes) p.clauses

  plant-accepted : All (All (λ c. c < 2 ^ e.cost_bits)) p.costs → (e.weighed ≡ true → All (All (λ c. 1 ≤ c)) p.costs) → first_given (table_grounds e (tables_of p)) ≡ none → Accepted e p × (decisions_allowed e (length p.costs) ≡ true)
  unfolding table_grounds fields_fit
  plant-accepted small weights h =
      let (fit, h) = none-given (not (fields_fit (tables_of p))) 17 _ h in
      let (allowed, h) = none-given (not (decisions_allowed e (length p.costs))) 7 _ h in
      let (few, h) = none-given (not (leb (length p.states) 32)) 8 _ h in
      let (short, h) = none-given (not (leb (length p.clauses) 512)) 9 _ h in
      let domains : Bool = all_of (λ n. leb 1 n && leb n 16) (sizes p) in
      let counts : Bool = all_of (λ n. leb n 15) (map length p.clauses) in
      let (two, signs) = and_both (domains && counts) (all_of (λ l. leb l.sign 1) (literals bytes)) (not-false _ fit) in
      let (one, second) = and_both domains counts two in
      let all-sized : All Sized (sizes p) = all_map sized (sizes p) (all_pass (λ n. leb 1 n && leb n 16) (sizes p) one) in
      let all_short : All (λ c. length c ≤ 15) p.clauses = image_all length (λ n. n ≤ 15) p.clauses (all_map (λ n s. leb-true n 15 s) (map length p.clauses) (all_pass (λ n. leb n 15) (map length p.clauses) second)) in
      let all_there : All (Present (sizes p)) (literals bytes) = all_map (λ l b. present (sizes p) l b.0 b.1) (literals bytes)
      (all-zip (λ l. first_given (literal_grounds (sizes p) l) ≡ none) (λ l. leb l.sign 1 ≡ true) (literals bytes) (none_each (literal_grounds (sizes p)) (literals bytes) h) (all_pass (λ l. leb l.sign 1) (literals bytes) signs)) in (
        record {
          decisions = allowed-most e (length p.costs) (not-false _ allowed);
          states = leb-true _ _ (not-false _ few);
          clauses = leb-true _ _ (not-false _ short);
          decision_sizes_lem = image_all length Sized p.costs (all_left Sized (map length p.costs) p.states all-sized);
          state-sizes = all_right Sized (map length p.costs) p.states all-sized;
          costs = small;
          weights = weights;
          literals = all-zip (λ c. length c ≤ 15) (All (Present (sizes p))) p.clauses all_short (turns-all (Present (sizes p)) p.clauses (rw (literals-turns p.clauses) at all_there));
        },
        not-false _ allowed,
      )

  -- a plant within the rules gives no ground against its tables
  accepted-none : Accepted e p → decisions_allowed e (length p.costs) ≡ true → first_given (table_grounds e (tables_of p)) ≡ none
  unfolding table_grounds fields_fit
  accepted-none ok allowed =
      let all-sized : All Sized (sizes p) = all_join Sized (map length p.costs) p.states (all_image length Sized p.costs ok.decision_sizes_lem) ok.state-sizes in
      let all_there : All (Present (sizes p)) (literals bytes) = rw (literals-turns p.clauses) (all-turns (Present (sizes p)) p.clauses (all_map (λ c b. b.1) p.clauses ok.literals)) in
      let domains : all_of (λ n. leb 1 n && leb n 16) (sizes p) ≡ true = pass_all (λ n. leb 1 n && leb n 16) (sizes p) (all_map sized-fits (sizes p) all-sized) in
      let counts : all_of (λ n. leb n 15) (map length p.clauses) ≡ true =
      pass_all (λ n. leb n 15) (map length p.clauses) (all_image length (λ n. leb n 15 ≡ true) p.clauses (all_map (λ c b. le-leb (length c) 15 b.0) p.clauses ok.literals)) in
      let signs : all_of (λ l. leb l.sign 1) (literals bytes) ≡ true = pass_all (λ l. leb l.sign 1) (literals bytes) (all_map (λ l q. le-leb l.sign 1 q.sign) (literals bytes) all_there) in
      let fit : fields_fit (tables_of p) ≡ true = rw (fields_fit, domains, counts, signs) in
      given-none (not (fields_fit (tables_of p))) 17 _ (rw fit)
      (given-none (not (decisions_allowed e (length p.costs))) 7 _ (rw allowed)
      (given-none (not (leb (length p.states) 32)) 8 _ (rw (le-leb (length p.states) 32 ok.states))
      (given-none (not (leb (length p.clauses) 512)) 9 _ (rw (le-leb (length p.clauses) 512 ok.clauses))
      (each_none (literal_grounds (sizes p)) (literals bytes) (all_map (present-none (sizes p)) (literals bytes) all_there)))))

-- tables within the rules hold a plant within them; the widths and the weights are no rule of tables
pub tables-accepted : (e : Edition) (t : Tables) → Below (2 ^ e.cost_bits) t.costs → (e.weighed ≡ true → All (λ c. 1 ≤ c) t.costs) → lengths_agree t ≡ true → first_given (table_grounds e t) ≡ none
    → Accepted e (plant_of t) × (decisions_allowed e (length (plant_of t).costs) ≡ true)
tables-accepted e t small weights agreeing h = plant-accepted e (plant_of t) (each (λ c. c < 2 ^ e.cost_bits) small) (λ w. each (λ c. 1 ≤ c) (weights w)) (rw back h)
  where
    back : tables_of (plant_of t) ≡ t
    back = tables-back t agreeing

    each : (P : ℕ → Type 0) → All P t.costs → All (All P) (plant_of t).costs
    each P a = turns-all P (plant_of t).costs (subst (λ (u : Tables). All P u.costs) (sym back) a)

-- and the tables of a plant within the rules are within them
pub accepted-tables : (e : Edition) (p : Plant) → Accepted e p → decisions_allowed e (length p.costs) ≡ true → (lengths_agree (tables_of p) ≡ true) × (first_given (table_grounds e (tables_of p)) ≡ none)
accepted-tables e p ok allowed = (tables_agree p, accepted-none e p ok allowed)

-- ---- the bits of the sheet

module _ (e : Edition) where
  decision_bits_lem : (row : List ℕ) → length (decision_written e row) ≡ 4 + e.cost_bits * length row
  decision_bits_lem row = omega (arith, length-append (digits 2 4 (length row - 1)) (in_turn (digits 2 e.cost_bits) row), digits_length 2 4 (length row - 1), turn_length (digits 2 e.cost_bits) e.cost_bits (digits_length 2 e.cost_bits) row)

  clause-bits : (c : List Literal) → length (clause_written c) ≡ 4 + literal_bits * length c
  unfolding digits
  clause-bits c = omega (arith, length-append (digits 2 4 (length c)) (in_turn literal_written c), digits_length 2 4 (length c), turn_length literal_written literal_bits (λ l. refl) c)

  plant-bits : (p : Plant) → length (plant_written e p) ≡ head_bits + 4 * length (sizes p) + e.cost_bits * length (tables_of p).costs + 4 * length (tables_of p).counts + literal_bits * (length (tables_of p).literals / 3)
  plant-bits p = omega (
    arith,
    written_length e p,
    turns_length (decision_written e) 4 e.cost_bits decision_bits_lem p.costs,
    turn_length state_written 4 (λ n. digits_length 2 4 (n - 1)) p.states,
    turns_length clause_written 4 literal_bits clause-bits p.clauses,
    turns-bytes p.clauses,
    length-append (map length p.costs) p.states,
    length-map p.costs length,
    length-map p.clauses length,
  )

  -- of the sheet of tables: the head, a size for each variable, the costs, a count for each clause, and the literals
  pub tables-bits : (t : Tables) → lengths_agree t ≡ true
      → length (plant_written e (plant_of t)) ≡ head_bits + 4 * length t.sizes + e.cost_bits * length t.costs + 4 * length t.counts + literal_bits * (length t.literals / 3)
  tables-bits t h = subst (λ (u : Tables). length (plant_written e (plant_of t)) ≡ head_bits + 4 * length u.sizes + e.cost_bits * length u.costs + 4 * length u.counts + literal_bits * (length u.literals / 3)) (tables-back t h) (plant-bits (plant_of t))
