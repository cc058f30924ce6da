-- Every plant within the rules has a sheet that is read as it, and one of these sheets has the longest's length. Assumes nothing.
use mathlib.Core.Path.{◌≡◌, refl, ap}
use mathlib.Core.Bool.{Bool, true, false, ◌&&◌}
use mathlib.Core.List.{List, [], ◌∷◌, ◌++◌, map}
use Prim.Native.Nat.{ℕ, zero, suc, ◌+◌, ◌-◌, ◌*◌, ◌/◌, ◌%◌, ◌^◌, ◌≤◌, ◌<◌}
use native.Mathlib.Omega.{arith}
use native.Mathlib.Nat.{mul_comm, min-le_left, add-zero}
use native.Mathlib.Decide.{dec_lt}
use lib.Dec.{ltb, leb, eqb}
use lib.ListN.{length, get_or, take, drop, replicate, length-append, length-take, length-map, length-replicate, get_or-eq_default}
use lib.Pow.{pow-lt}
use lib.Seq.{get_or-take, get_or-drop}
use borrow.Author.Tests.{le-leb, lt-ltb, eq-eqb, ne_eqb}
use Rattle.model.specs.Lists.{All, in_turn}
use Rattle.model.specs.Digits.{number, digits}
use Rattle.model.specs.Sheet.{Literal, Plant, sizes, Read, refused, got, bit_at, bits_at, then, many, field, Edition, edition1, edition2, decisions_allowed, read_figure, read_decision, read_state, read_literal, read_clause, read_filler, read_end, read_body, read_sheet}
use Rattle.model.specs.Tables.{decision_written, state_written, literal_written, clause_written, body_written, plant_written, packed, sheet_of}
use Rattle.model.proofs.Examples.{tail, small}
use Rattle.model.proofs.Edges.{small_plant}
use Rattle.theory.specs.Digits.{Below}
use Rattle.theory.specs.Longest.{head_bits, decision_bits, state_bits, clause_bits, longest_sheet}
use Rattle.theory.specs.Plant.{Sized, Present, Accepted}
use Rattle.theory.specs.Written.{first_literal, full_plant, largest_plant}
use Rattle.theory.proofs.Digits.{digits_length, digits-below, digits_number, number_digits, zeros-behind}
use Rattle.theory.proofs.Fields.{below-drop}
use Rattle.theory.proofs.Lists.{all_map, all_join, all_image, all-at, in_turn_length}

-- ---- bytes and their bits

pub below_take : (b n : ℕ) (ds : List ℕ) → Below b ds → Below b (take n ds)
below_take b zero ds h = tt
below_take b (suc n) [] h = tt
below_take b (suc n) (d ∷ ds) h = (h.0, below_take b n ds h.1)

pub packed_length : (n : ℕ) (bits : List ℕ) → length (packed n bits) ≡ n
unfolding packed
packed_length zero bits = refl
packed_length (suc n) bits = ap suc (packed_length n (drop 8 bits))

-- the bits of packed bytes are those packed
packed-bit : (n : ℕ) (bits : List ℕ) (place : ℕ) → Below 2 bits → place < 8 * n → bit_at (packed n bits) place ≡ get_or bits place 0
unfolding packed bit_at
packed-bit zero bits place b h = absurd (omega arith)
packed-bit (suc n) bits place b h = elim (dec_lt place 8) [
  | yes l ↦
      let first : place / 8 ≡ 0 = omega arith in
      let bit : place % 8 ≡ place = omega arith in
      let short : length (take 8 bits) ≤ 8 = omega (arith, length-take 8 bits, min-le_left 8 (length bits)) in
      rw (bit_at, packed, first, bit, digits_number 2 8 (take 8 bits) (omega arith) (below_take 2 8 bits b) short, zeros-behind (take 8 bits) (8 - length (take 8 bits)) place) (get_or-take 8 bits place 0 l)
  | no l ↦
      let q : ℕ = place - 8 in
      let later : place / 8 ≡ suc (q / 8) = omega arith in
      let bit : place % 8 ≡ q % 8 = omega arith in
      let is : place ≡ 8 + q = omega arith in
      let r : bit_at (packed n (drop 8 bits)) q ≡ get_or bits (8 + q) 0 = rw (packed-bit n (drop 8 bits) q (below-drop 2 8 bits b) (omega arith)) (get_or-drop 8 bits q 0) in
      rw (bit_at, packed, later, bit) (rw (← is) at r)
]

-- a rule that holds lets what follows through
rule_comes : {A : Type 0} (b : Bool) (n : ℕ) (r x : Read A) → b ≡ true → r ≡ x → ◌≡◌ {A = Read A} (elim b [ true ↦ r | false ↦ refused n ]) x
rule_comes b n r x e f = rw e f

-- ---- readings of written bits

module _ (sheet : List ℕ) where
  -- the sheet has these bits from a place on
  abbrev Has : ℕ → List ℕ → Type 0
  Has place [] = place ≤ 8 * length sheet
  Has place (d ∷ ds) = (bit_at sheet place ≡ d) × Has (place + 1) ds

  has_end : (place : ℕ) (ds : List ℕ) → Has place ds → place + length ds ≤ 8 * length sheet
  has_end place [] h = omega arith
  has_end place (d ∷ ds) h = omega (arith, has_end (place + 1) ds h.1)

  has_left : (place : ℕ) (xs ys : List ℕ) → Has place (xs ++ ys) → Has place xs
  has_left place [] ys h = omega (arith, has_end place ys h)
  has_left place (x ∷ xs) ys h = (h.0, has_left (place + 1) xs ys h.1)

  has_right : (place : ℕ) (xs ys : List ℕ) → Has place (xs ++ ys) → Has (place + length xs) ys
  has_right place [] ys h = rw (add-zero place) h
  has_right place (x ∷ xs) ys h = let e : place + length (x ∷ xs) ≡ place + 1 + length xs = omega arith in rw e (has_right (place + 1) xs ys h.1)

  has-bits : (place : ℕ) (ds : List ℕ) → Has place ds → bits_at sheet (length ds) place ≡ ds
  unfolding bits_at
  has-bits place [] h = refl
  has-bits place (d ∷ ds) h = rw (bits_at, h.0, has-bits (place + 1) ds h.1)

  -- where the sheet has these bits, this is read of them
  abbrev Reads : {A : Type 0} → (ℕ → Read A) → List ℕ → A → Type 0
  Reads read bits a = (place : ℕ) → Has place bits → read place ≡ got a (place + length bits)

  field-reads : (w v : ℕ) → v < 2 ^ w → Reads (field sheet w) (digits 2 w v) v
  unfolding field
  field-reads w v small place h =
      let l : length (digits 2 w v) ≡ w = digits_length 2 w v in
      let e : bits_at sheet w place ≡ digits 2 w v = rw l at (has-bits place (digits 2 w v) h) in
      rw (field, le-leb (place + w) (8 * length sheet) (omega (arith, has_end place (digits 2 w v) h)), e, number_digits 2 w v (omega arith) small, l)

  -- one reading after another: the first where its bits are, then the next at the place after them
  last_comes : {A B : Type 0} (read : ℕ → Read A) (next : A → ℕ → Read B) (xs : List ℕ) (a : A) (x : Read B) (place : ℕ) → Reads read xs a → Has place xs → next a (place + length xs) ≡ x → then (read place) next ≡ x
  unfolding then
  last_comes read next xs a x place r h f = rw (r place h) f

  then_comes : {A B : Type 0} (read : ℕ → Read A) (next : A → ℕ → Read B) (xs ys : List ℕ) (a : A) (x : Read B) (place : ℕ) → Reads read xs a → Has place (xs ++ ys)
      → (Has (place + length xs) ys → next a (place + length xs) ≡ x) → then (read place) next ≡ x
  then_comes read next xs ys a x place r h f = last_comes read next xs a x place r (has_left place xs ys h) (f (has_right place xs ys h))

  then-reads : {A B : Type 0} (read : ℕ → Read A) (next : A → ℕ → Read B) (xs ys : List ℕ) (a : A) (b : B) → Reads read xs a → Reads (next a) ys b → Reads (λ place. then (read place) next) (xs ++ ys) b
  then-reads read next xs ys a b r f place h =
      let e : place + length (xs ++ ys) ≡ place + length xs + length ys = omega (arith, length-append xs ys) in
      rw e (then_comes read next xs ys a (got b (place + length xs + length ys)) place r h (f (place + length xs)))

  -- something made of what is read
  made_reads : {A B : Type 0} (read : ℕ → Read A) (next : A → ℕ → Read B) (xs : List ℕ) (a : A) (b : B) → Reads read xs a → ((place : ℕ) → next a place ≡ got b place) → Reads (λ place. then (read place) next) xs b
  made_reads read next xs a b r f place h = last_comes read next xs a (got b (place + length xs)) place r h (f (place + length xs))

  rule_reads : {A : Type 0} (b : Bool) (n : ℕ) (read : ℕ → Read A) (xs : List ℕ) (a : A) → b ≡ true → Reads read xs a → Reads {A = A} (λ place. elim b [ true ↦ read place | false ↦ refused n ]) xs a
  rule_reads b n read xs a e r place h = rule_comes b n (read place) (got a (place + length xs)) e (r place h)

  many-reads : {A : Type 0} (item : ℕ → Read A) (bits : A → List ℕ) (xs : List A) → All (λ a. Reads item (bits a) a) xs → Reads (many item (length xs)) (in_turn bits xs) xs
  unfolding many
  many-reads item bits [] h = λ place b. rw (add-zero place)
  many-reads item bits (x ∷ xs) h = then-reads item (λ a after. then (many item (length xs) after) (λ others end. got (a ∷ others) end)) (bits x) (in_turn bits xs) x (x ∷ xs) h.0
      (made_reads (many item (length xs)) (λ others end. got (x ∷ others) end) (in_turn bits xs) xs (x ∷ xs) (many-reads item bits xs h.1) (λ place. refl))

  has-from : (place : ℕ) (ds : List ℕ) → ((i : ℕ) → i < length ds → bit_at sheet (place + i) ≡ get_or ds i 0) → place + length ds ≤ 8 * length sheet → Has place ds
  has-from place [] f l = omega arith
  has-from place (d ∷ ds) f l =
      let first : bit_at sheet place ≡ d = rw (add-zero place) at (f 0 (omega arith)) in
      (first, has-from (place + 1) ds (λ i h. let e : place + 1 + i ≡ place + suc i = omega arith in rw e (f (suc i) (omega arith))) (omega arith))

module _ (e : Edition) (sheet : List ℕ) where
  -- a cost, or a weight that is not zero
  figure-reads : (c : ℕ) → c < 2 ^ e.cost_bits → (e.weighed ≡ true → 1 ≤ c) → Reads sheet (read_figure e sheet) (digits 2 e.cost_bits c) c
  unfolding read_figure
  figure-reads c small weight = made_reads sheet (field sheet e.cost_bits) (λ c after. elim (e.weighed && eqb c 0) [ true ↦ refused 20 | false ↦ got c after ]) (digits 2 e.cost_bits c) c c
      (field-reads sheet e.cost_bits c small) (λ place. rw (go e.weighed refl))
    where
      go : (w : Bool) → e.weighed ≡ w → (e.weighed && eqb c 0) ≡ false
      go false h = rw h
      go true h = rw h (ne_eqb c 0 (omega (arith, weight h)))

  decision_reads : (costs : List ℕ) → Sized (length costs) → All (λ c. c < 2 ^ e.cost_bits) costs → (e.weighed ≡ true → All (λ c. 1 ≤ c) costs) → Reads sheet (read_decision e sheet) (decision_written e costs) costs
  unfolding read_decision
  decision_reads costs sized small weights = then-reads sheet (field sheet 4) (λ n after. many (read_figure e sheet) (n + 1) after)
      (digits 2 4 (length costs - 1)) (in_turn (digits 2 e.cost_bits) costs) (length costs - 1) costs (field-reads sheet 4 (length costs - 1) (omega (arith, sized.1)))
      (go (length costs - 1 + 1) (omega (arith, sized.0)))
    where
      each : (cs : List ℕ) → All (λ c. c < 2 ^ e.cost_bits) cs → (e.weighed ≡ true → All (λ c. 1 ≤ c) cs) → All (λ c. Reads sheet (read_figure e sheet) (digits 2 e.cost_bits c) c) cs
      each [] s w = tt
      each (c ∷ cs) s w = (figure-reads c s.0 (λ h. (w h).0), each cs s.1 (λ h. (w h).1))

      go : (n : ℕ) → n ≡ length costs → Reads sheet (many (read_figure e sheet) n) (in_turn (digits 2 e.cost_bits) costs) costs
      go n is = rw is (many-reads sheet (read_figure e sheet) (digits 2 e.cost_bits) costs (each costs small weights))

  rows-read : (rows : List (List ℕ)) → All (λ row. Sized (length row)) rows → All (All (λ c. c < 2 ^ e.cost_bits)) rows → (e.weighed ≡ true → All (All (λ c. 1 ≤ c)) rows)
      → All (λ row. Reads sheet (read_decision e sheet) (decision_written e row) row) rows
  rows-read [] sized small weights = tt
  rows-read (row ∷ rows) sized small weights = (decision_reads row sized.0 small.0 (λ w. (weights w).0), rows-read rows sized.1 small.1 (λ w. (weights w).1))

  state-reads : (size : ℕ) → Sized size → Reads sheet (read_state sheet) (state_written size) size
  unfolding read_state
  state-reads size sized =
      let is : size - 1 + 1 ≡ size = omega (arith, sized.0) in
      made_reads sheet (field sheet 4) (λ n after. got (n + 1) after) (digits 2 4 (size - 1)) (size - 1) size (field-reads sheet 4 (size - 1) (omega (arith, sized.1))) (λ place. rw is)

  literal-reads : (domains : List ℕ) → length domains < 2 ^ 6 → All Sized domains → (l : Literal) → Present domains l → Reads sheet (read_literal sheet domains) (literal_written l) l
  unfolding read_literal
  literal-reads domains few sized l there =
      let size = all-at 0 Sized domains sized l.variable there.variable in
      then-reads sheet (field sheet 6) _ (digits 2 6 l.variable) (digits 2 1 l.sign ++ digits 2 4 l.value) l.variable l (field-reads sheet 6 l.variable (omega (arith, there.variable)))
      (rule_reads sheet (ltb l.variable (length domains)) 10 _ (digits 2 1 l.sign ++ digits 2 4 l.value) l (lt-ltb l.variable (length domains) there.variable)
      (then-reads sheet (field sheet 1) _ (digits 2 1 l.sign) (digits 2 4 l.value) l.sign l (field-reads sheet 1 l.sign (omega (arith, there.sign)))
      (made_reads sheet (field sheet 4) _ (digits 2 4 l.value) l.value l (field-reads sheet 4 l.value (omega (arith, there.value, size.1)))
      (λ place. rw (lt-ltb l.value (get_or domains l.variable 0) there.value)))))

  clause-reads : (domains : List ℕ) → length domains < 2 ^ 6 → All Sized domains → (c : List Literal) → length c ≤ 15 → All (Present domains) c → Reads sheet (read_clause sheet domains) (clause_written c) c
  unfolding read_clause
  clause-reads domains few sized c short there = then-reads sheet (field sheet 4) (λ n after. many (read_literal sheet domains) n after) (digits 2 4 (length c)) (in_turn literal_written c) (length c) c
      (field-reads sheet 4 (length c) (omega arith))
      (many-reads sheet (read_literal sheet domains) literal_written c (all_map (literal-reads domains few sized) c there))

  filler-reads : (n place : ℕ) → ((i : ℕ) → place ≤ i → i < place + n → bit_at sheet i ≡ 0) → read_filler sheet n place ≡ got 0 (place + n)
  unfolding read_filler
  filler-reads zero place f = rw (add-zero place)
  filler-reads (suc n) place f =
      let is : place + suc n ≡ place + 1 + n = omega arith in
      rw (read_filler, f place (omega arith) (omega arith), is) (filler-reads n (place + 1) (λ i h l. f i (omega arith) (omega arith)))

  end_reads : (p : Plant) (place : ℕ) → ((i : ℕ) → place ≤ i → i < 8 * length sheet → bit_at sheet i ≡ 0) → length sheet ≡ (place + 7) / 8 → read_end sheet p place ≡ got p (8 * length sheet)
  unfolding read_end then
  end_reads p place f l =
      let is : place + (8 - place % 8) % 8 ≡ 8 * length sheet = omega arith in
      rw (read_end, filler-reads ((8 - place % 8) % 8) place (λ i h g. f i h (omega arith)))
      (rule_comes (eqb (place + (8 - place % 8) % 8) (8 * length sheet)) 13 (got p (place + (8 - place % 8) % 8)) (got p (8 * length sheet)) (eq-eqb (place + (8 - place % 8) % 8) (8 * length sheet) is) (rw is))

  -- the sizes of a plant's domains
  sizes-sized : (p : Plant) → Accepted e p → All Sized (sizes p)
  sizes-sized p ok = all_join Sized (map length p.costs) p.states (all_image length Sized p.costs ok.decision_sizes_lem) ok.state-sizes

  sizes-few : (p : Plant) → e.most < 2 ^ 5 → Accepted e p → length (sizes p) < 2 ^ 6
  sizes-few p few ok = omega (arith, ok.decisions, ok.states, length-append (map length p.costs) p.states, length-map p.costs length)

  -- what follows the counts, if the end after it is right
  body_reads : (p : Plant) (x : Read Plant) (place end : ℕ) → e.most < 2 ^ 5 → Accepted e p → Has sheet place (body_written e p) → place + length (body_written e p) ≡ end → read_end sheet p end ≡ x
      → read_body e sheet (length p.costs) (length p.states) (length p.clauses) place ≡ x
  unfolding read_body
  body_reads p x place end few ok h is f =
      let rows : List ℕ = in_turn (decision_written e) p.costs in
      let states : List ℕ = in_turn state_written p.states in
      let clauses : List ℕ = in_turn clause_written p.clauses in
      let last : place + length rows + length states + length clauses ≡ end = omega (arith, length-append rows (states ++ clauses), length-append states clauses) in
      then_comes sheet (many (read_decision e sheet) (length p.costs)) _ rows (states ++ clauses) p.costs x place
      (many-reads sheet (read_decision e sheet) (decision_written e) p.costs (rows-read p.costs ok.decision_sizes_lem ok.costs ok.weights)) h (λ h.
      then_comes sheet (many (read_state sheet) (length p.states)) _ states clauses p.states x (place + length rows)
      (many-reads sheet (read_state sheet) state_written p.states (all_map state-reads p.states ok.state-sizes)) h (λ h.
      last_comes sheet (many (read_clause sheet (sizes p)) (length p.clauses)) _ clauses p.clauses x (place + length rows + length states)
      (many-reads sheet (read_clause sheet (sizes p)) clause_written p.clauses (all_map (λ c g. clause-reads (sizes p) (sizes-few p few ok) (sizes-sized p ok) c g.0 g.1) p.clauses ok.literals)) h
      (rw last f)))

  -- a sheet that has the plant's bits, if the end after them is right
  plant-reads : (p : Plant) (x : Read Plant) → e.number < 2 ^ 8 → e.most < 2 ^ 5 → Accepted e p → decisions_allowed e (length p.costs) ≡ true
      → Has sheet 0 (plant_written e p) → read_end sheet p (length (plant_written e p)) ≡ x → read_sheet e sheet ≡ x
  unfolding read_sheet plant_written
  plant-reads p x small few ok allowed h f =
      let edition : List ℕ = digits 2 8 e.number in
      let decisions : List ℕ = digits 2 5 (length p.costs) in
      let states : List ℕ = digits 2 6 (length p.states) in
      let clauses : List ℕ = digits 2 10 (length p.clauses) in
      let body : List ℕ = body_written e p in
      let is : 0 + length edition + length decisions + length states + length clauses + length body ≡ length (plant_written e p) =
      omega (arith, length-append edition (decisions ++ (states ++ (clauses ++ body))), length-append decisions (states ++ (clauses ++ body)), length-append states (clauses ++ body), length-append clauses body) in
      then_comes sheet (field sheet 8) _ edition (decisions ++ (states ++ (clauses ++ body))) e.number x 0 (field-reads sheet 8 e.number small) h (λ h.
      rule_comes (eqb e.number e.number) 6 _ x (eq-eqb e.number e.number refl)
      (then_comes sheet (field sheet 5) _ decisions (states ++ (clauses ++ body)) (length p.costs) x _ (field-reads sheet 5 (length p.costs) (omega (arith, ok.decisions))) h (λ h.
      rule_comes (decisions_allowed e (length p.costs)) 7 _ x allowed
      (then_comes sheet (field sheet 6) _ states (clauses ++ body) (length p.states) x _ (field-reads sheet 6 (length p.states) (omega (arith, ok.states))) h (λ h.
      rule_comes (leb (length p.states) 32) 8 _ x (le-leb (length p.states) 32 ok.states)
      (then_comes sheet (field sheet 10) _ clauses body (length p.clauses) x _ (field-reads sheet 10 (length p.clauses) (omega (arith, ok.clauses))) h (λ h.
      rule_comes (leb (length p.clauses) 512) 9 _ x (le-leb (length p.clauses) 512 ok.clauses)
      (body_reads p x (0 + length edition + length decisions + length states + length clauses) (length (plant_written e p)) few ok h is f))))))))

pub below_in_turn : {A : Type 0} (bits : A → List ℕ) → ((a : A) → Below 2 (bits a)) → (xs : List A) → Below 2 (in_turn bits xs)
below_in_turn bits f [] = tt
below_in_turn bits f (x ∷ xs) = all_join (λ d. d < 2) (bits x) (in_turn bits xs) (f x) (below_in_turn bits f xs)

module _ (e : Edition) (p : Plant) where
  written_below : Below 2 (plant_written e p)
  unfolding plant_written
  written_below =
      join (digits 2 8 e.number) _ (bits 8 e.number)
      (join (digits 2 5 (length p.costs)) _ (bits 5 (length p.costs))
      (join (digits 2 6 (length p.states)) _ (bits 6 (length p.states))
      (join (digits 2 10 (length p.clauses)) _ (bits 10 (length p.clauses))
      (join (in_turn (decision_written e) p.costs) _ (below_in_turn (decision_written e) (λ c. join (digits 2 4 (length c - 1)) _ (bits 4 (length c - 1)) (below_in_turn (digits 2 e.cost_bits) (bits e.cost_bits) c)) p.costs)
      (join (in_turn state_written p.states) _ (below_in_turn state_written (λ n. bits 4 (n - 1)) p.states)
      (below_in_turn clause_written (λ c. join (digits 2 4 (length c)) _ (bits 4 (length c))
      (below_in_turn literal_written (λ l. join (digits 2 6 l.variable) _ (bits 6 l.variable) (join (digits 2 1 l.sign) _ (bits 1 l.sign) (bits 4 l.value))) c)) p.clauses))))))
    where
      bits : (w v : ℕ) → Below 2 (digits 2 w v)
      bits w v = digits-below 2 w v (omega arith)

      join : (xs ys : List ℕ) → Below 2 xs → Below 2 ys → Below 2 (xs ++ ys)
      join = all_join (λ d. d < 2)

  pub written_length : length (plant_written e p) ≡ head_bits + length (in_turn (decision_written e) p.costs) + length (in_turn state_written p.states) + length (in_turn clause_written p.clauses)
  unfolding plant_written
  written_length =
      let rows : List ℕ = in_turn (decision_written e) p.costs in
      let states : List ℕ = in_turn state_written p.states in
      let clauses : List ℕ = in_turn clause_written p.clauses in
      let body : List ℕ = rows ++ (states ++ clauses) in
      let c : List ℕ = digits 2 10 (length p.clauses) ++ body in
      let s : List ℕ = digits 2 6 (length p.states) ++ c in
      let d : List ℕ = digits 2 5 (length p.costs) ++ s in
      omega (
        arith,
        length-append (digits 2 8 e.number) d,
        length-append (digits 2 5 (length p.costs)) s,
        length-append (digits 2 6 (length p.states)) c,
        length-append (digits 2 10 (length p.clauses)) body,
        length-append rows (states ++ clauses),
        length-append states clauses,
        digits_length 2 8 e.number,
        digits_length 2 5 (length p.costs),
        digits_length 2 6 (length p.states),
        digits_length 2 10 (length p.clauses),
      )

  pub sheet_length : length (sheet_of e p) ≡ (length (plant_written e p) + 7) / 8
  unfolding sheet_of
  sheet_length = packed_length ((length (plant_written e p) + 7) / 8) (plant_written e p)

  sheet-bit : (place : ℕ) → place < 8 * length (sheet_of e p) → bit_at (sheet_of e p) place ≡ get_or (plant_written e p) place 0
  unfolding sheet_of
  sheet-bit place h = packed-bit ((length (plant_written e p) + 7) / 8) (plant_written e p) place written_below (omega (arith, sheet_length))

  -- a plant within the rules has a sheet, which is read as it
  pub written : e.number < 2 ^ 8 → e.most < 2 ^ 5 → Accepted e p → decisions_allowed e (length p.costs) ≡ true → read_sheet e (sheet_of e p) ≡ got p (8 * length (sheet_of e p))
  written small few ok allowed =
      let l : length (sheet_of e p) ≡ (length (plant_written e p) + 7) / 8 = sheet_length in
      plant-reads e (sheet_of e p) p (got p (8 * length (sheet_of e p))) small few ok allowed
      (has-from (sheet_of e p) 0 (plant_written e p) (λ i h. let is : 0 + i ≡ i = omega arith in rw is (sheet-bit i (omega arith))) (omega arith))
      (end_reads e (sheet_of e p) p (length (plant_written e p)) (λ i h g. rw (sheet-bit i g) (get_or-eq_default (plant_written e p) 0 h)) l)

-- ---- the longest sheet is one

all_replicate : {A : Type 0} (P : A → Type 0) (n : ℕ) (a : A) → P a → All P (replicate n a)
all_replicate P zero a h = tt
all_replicate P (suc n) a h = (h, all_replicate P n a h)

-- what n members alike give
alike_length : {A : Type 0} (bits : A → List ℕ) (n w : ℕ) (a : A) → length (bits a) ≡ w → length (in_turn bits (replicate n a)) ≡ n * w
alike_length bits n w a h = omega (arith, in_turn_length bits w (replicate n a) (all_replicate (λ x. length (bits x) ≡ w) n a h), mul_comm w n, ap (λ (m : ℕ). w * m) (length-replicate n a))

-- the first literal is present where there is a decision variable of sixteen values
first-present : (n : ℕ) (rest : List ℕ) → 1 ≤ n → Present (map length (replicate n (replicate {A = ℕ} 16 1)) ++ rest) first_literal
first-present zero rest h = absurd (omega arith)
first-present (suc n) rest h = record { variable = omega arith; sign = omega arith; value = omega arith }

module _ (e : Edition) where
  full-accepted : (d s c : ℕ) → 1 ≤ e.cost_bits → 1 ≤ d → d ≤ e.most → s ≤ 32 → c ≤ 512 → Accepted e (full_plant d s c)
  unfolding full_plant
  full-accepted d s c wide h hd hs hc = record {
    decisions = omega (arith, length-replicate d (replicate {A = ℕ} 16 1));
    states = omega (arith, length-replicate {A = ℕ} s 1);
    clauses = omega (arith, length-replicate c (replicate 15 first_literal));
    decision_sizes_lem = all_replicate (λ row. Sized (length row)) d (replicate 16 1) (omega arith, omega arith);
    state-sizes = all_replicate Sized s 1 (omega arith, omega arith);
    costs = all_replicate (All (λ c. c < 2 ^ e.cost_bits)) d (replicate 16 1) (all_replicate (λ c. c < 2 ^ e.cost_bits) 16 1 (pow-lt {i = 0} wide));
    weights = λ w. all_replicate (All (λ c. 1 ≤ c)) d (replicate 16 1) (all_replicate (λ c. 1 ≤ c) 16 1 (omega arith));
    literals = all_replicate (λ ls. (length ls ≤ 15) × All (Present (sizes (full_plant d s c))) ls) c (replicate 15 first_literal)
        (omega arith, all_replicate (Present (sizes (full_plant d s c))) 15 first_literal (first-present d (replicate s 1) h));
  }

  full-allowed : (d s c : ℕ) → 1 ≤ d → d ≤ e.most → decisions_allowed e (length (full_plant d s c).costs) ≡ true
  unfolding decisions_allowed full_plant
  full-allowed d s c one most = rw (length-replicate d (replicate {A = ℕ} 16 1), decisions_allowed, le-leb 1 d one, le-leb d e.most most)

  row-bits : length (decision_written e (replicate 16 1)) ≡ decision_bits e
  row-bits = omega (arith, length-append (digits 2 4 15) (in_turn (digits 2 e.cost_bits) (replicate 16 1)), digits_length 2 4 15, alike_length (digits 2 e.cost_bits) 16 e.cost_bits 1 (digits_length 2 e.cost_bits 1))

  clause-bits : length (clause_written (replicate 15 first_literal)) ≡ clause_bits
  unfolding digits
  clause-bits = refl

  full-bits : (d s c : ℕ) → length (plant_written e (full_plant d s c)) ≡ head_bits + d * decision_bits e + s * state_bits + c * clause_bits
  unfolding full_plant
  full-bits d s c = omega (arith, written_length e (full_plant d s c), alike_length (decision_written e) d (decision_bits e) (replicate 16 1) row-bits, alike_length state_written s state_bits 1 (digits_length 2 4 0), alike_length clause_written c clause_bits (replicate 15 first_literal) clause-bits)

  -- a sheet of the longest's length is accepted
  pub longest_attained : e.number < 2 ^ 8 → 1 ≤ e.cost_bits → 1 ≤ e.most → e.most < 2 ^ 5
      → (length (sheet_of e (largest_plant e)) ≡ longest_sheet e) × (read_sheet e (sheet_of e (largest_plant e)) ≡ got (largest_plant e) (8 * longest_sheet e))
  unfolding longest_sheet
  longest_attained small wide one few =
      let l : length (sheet_of e (largest_plant e)) ≡ longest_sheet e = rw (sheet_length e (largest_plant e), full-bits e.most 32 512) in
      let ok = full-accepted e.most 32 512 wide one (omega arith) (omega arith) (omega arith) in
      (l, rw l at (written e (largest_plant e) small few ok (full-allowed e.most 32 512 one (omega arith))))

-- of each edition too
pub longest_attained1 : (length (sheet_of edition1 (largest_plant edition1)) ≡ longest_sheet edition1) × (read_sheet edition1 (sheet_of edition1 (largest_plant edition1)) ≡ got (largest_plant edition1) (8 * longest_sheet edition1))
unfolding edition1
longest_attained1 = longest_attained edition1 (omega arith) (omega arith) (omega arith) (omega arith)

pub longest_attained2 : (length (sheet_of edition2 (largest_plant edition2)) ≡ longest_sheet edition2) × (read_sheet edition2 (sheet_of edition2 (largest_plant edition2)) ≡ got (largest_plant edition2) (8 * longest_sheet edition2))
unfolding edition2
longest_attained2 = longest_attained edition2 (omega arith) (omega arith) (omega arith) (omega arith)

-- the small plant's sheet is the one that the specification gives
pub small-written : sheet_of edition1 small_plant ≡ small
unfolding sheet_of plant_written packed number digits edition1 small_plant small tail
small-written = refl
