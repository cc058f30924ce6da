-- Every refusal has one of the numbers of `docs/SPECIFICATION.md`: of a listing the host's 1 to 4 before the sheet, the author's 5 to 13 and, of edition 2, 20; of a writing the host's 16 and 18, the author's 17 and 7 to 11. Assumes nothing.
use mathlib.Core.Path.{◌≡◌, refl, subst}
use mathlib.Core.Bool.{Bool, true, false, ◌&&◌}
use mathlib.Core.Logic.{inl, inr}
use mathlib.Core.Option.{Option, none, some}
use mathlib.Core.List.{List, [], ◌∷◌, ◌++◌, map}
use Prim.Native.Nat.{ℕ, zero, suc, ◌+◌, ◌-◌, ◌*◌, ◌%◌, ◌≤◌}
use native.Mathlib.Omega.{arith}
use lib.Dec.{ltb, leb, eqb}
use lib.ListN.{length, get_or}
use Rattle.model.specs.Digits.{number}
use Rattle.model.specs.Sheet.{Literal, Plant, Read, refused, got, bit_at, bits_at, then, many, field, Edition, edition1, decisions_allowed, read_figure, read_decision, read_state, read_literal, read_clause, read_filler, read_end, read_body, read_sheet}
use Rattle.model.specs.Lists.{All, in_turn}
use Rattle.model.specs.Order.{order_of}
use Rattle.model.specs.Listing.{Next, ended, more}
use Rattle.model.specs.Calls.{Refusal, by_host, by_author, Ground, first_given, refused as turnedDown, Buffers, host_grounds, called_of, run_of, listing_with}
use Rattle.model.specs.Tables.{Tables, literals, plant_of, sheet_of}
use Rattle.model.specs.TableCalls.{length_grounds, literal_grounds, table_grounds, room_grounds, write_sheet, write_call}
use Rattle.theory.specs.Refusals.{HostNumber, AuthorNumber, RefusalNumber, TableHostNumber, TableAuthorNumber, TableNumber}
use Rattle.theory.proofs.Lists.{all_join}
use Rattle.theory.proofs.Sheet.{no_weights}

-- ---- the author's

module _ (e : Edition) where
  -- what is refused has such a number
  abbrev Numbered : {A : Type 0} → Read A → Type 0
  Numbered (refused n) = AuthorNumber e n
  Numbered (got a place) = Unit {0}

  then-numbered : {A B : Type 0} (r : Read A) (next : A → ℕ → Read B) → Numbered r → ((a : A) (place : ℕ) → Numbered (next a place)) → Numbered (then r next)
  unfolding then
  then-numbered (refused n) next h f = h
  then-numbered (got a place) next h f = f a place

  test-numbered : {A : Type 0} (b : Bool) (n : ℕ) (r : Read A) → AuthorNumber e n → Numbered r → Numbered {A = A} (elim b [ true ↦ r | false ↦ refused n ])
  test-numbered true n r h g = g
  test-numbered false n r h g = h

  ban_numbered : {A : Type 0} (b : Bool) (n : ℕ) (r : Read A) → AuthorNumber e n → Numbered r → Numbered {A = A} (elim b [ true ↦ refused n | false ↦ r ])
  ban_numbered true n r h g = h
  ban_numbered false n r h g = g

  many-numbered : {A : Type 0} (item : ℕ → Read A) → ((place : ℕ) → Numbered (item place)) → (n place : ℕ) → Numbered (many item n place)
  unfolding many
  many-numbered item h zero place = tt
  many-numbered item h (suc n) place = then-numbered (item place) _ (h place) (λ a after. then-numbered (many item n after) _ (many-numbered item h n after) (λ others end. tt))

  field-numbered : (sheet : List ℕ) (w place : ℕ) → Numbered (field sheet w place)
  unfolding field
  field-numbered sheet w place = test-numbered (leb (place + w) (8 * length sheet)) 5 (got (number 2 w (bits_at sheet w place)) (place + w)) (inl (omega arith, omega arith)) tt

  module _ (sheet : List ℕ) where
    figure-numbered : (place : ℕ) → Numbered (read_figure e sheet place)
    unfolding read_figure
    figure-numbered place = then-numbered (field sheet e.cost_bits place) _ (field-numbered sheet e.cost_bits place) (λ c after. weight e.weighed refl c after)
      where
        weight : (w : Bool) → e.weighed ≡ w → (c after : ℕ) → Numbered {A = ℕ} (elim (w && eqb c 0) [ true ↦ refused 20 | false ↦ got c after ])
        weight false h c after = tt
        weight true h c after = ban_numbered (eqb c 0) 20 (got c after) (inr (h, refl)) tt

    decision_numbered : (place : ℕ) → Numbered (read_decision e sheet place)
    unfolding read_decision
    decision_numbered place = then-numbered (field sheet 4 place) _ (field-numbered sheet 4 place) (λ n after. many-numbered (read_figure e sheet) figure-numbered (n + 1) after)

    state-numbered : (place : ℕ) → Numbered (read_state sheet place)
    unfolding read_state
    state-numbered place = then-numbered (field sheet 4 place) _ (field-numbered sheet 4 place) (λ n after. tt)

    literal-numbered : (domains : List ℕ) (place : ℕ) → Numbered (read_literal sheet domains place)
    unfolding read_literal
    literal-numbered domains place =
        then-numbered (field sheet 6 place) _ (field-numbered sheet 6 place) (λ v after.
        test-numbered (ltb v (length domains)) 10 _ (inl (omega arith, omega arith))
        (then-numbered (field sheet 1 after) _ (field-numbered sheet 1 after) (λ s after.
        then-numbered (field sheet 4 after) _ (field-numbered sheet 4 after) (λ x after.
        test-numbered (ltb x (get_or domains v 0)) 11 _ (inl (omega arith, omega arith)) tt))))

    clause-numbered : (domains : List ℕ) (place : ℕ) → Numbered (read_clause sheet domains place)
    unfolding read_clause
    clause-numbered domains place = then-numbered (field sheet 4 place) _ (field-numbered sheet 4 place) (λ n after. many-numbered (read_literal sheet domains) (literal-numbered domains) n after)

    filler-numbered : (n place : ℕ) → Numbered (read_filler sheet n place)
    unfolding read_filler
    filler-numbered zero place = tt
    filler-numbered (suc n) place = test-numbered (eqb (bit_at sheet place) 0) 12 (read_filler sheet n (place + 1)) (inl (omega arith, omega arith)) (filler-numbered n (place + 1))

    end-numbered : (p : Plant) (place : ℕ) → Numbered (read_end sheet p place)
    unfolding read_end
    end-numbered p place =
        then-numbered (read_filler sheet ((8 - place % 8) % 8) place) _ (filler-numbered ((8 - place % 8) % 8) place) (λ zeros end.
        test-numbered (eqb end (8 * length sheet)) 13 (got p end) (inl (omega arith, omega arith)) tt)

    body-numbered : (d s c place : ℕ) → Numbered (read_body e sheet d s c place)
    unfolding read_body
    body-numbered d s c place =
        then-numbered (many (read_decision e sheet) d place) _ (many-numbered (read_decision e sheet) decision_numbered d place) (λ costs after.
        then-numbered (many (read_state sheet) s after) _ (many-numbered (read_state sheet) state-numbered s after) (λ states after.
        then-numbered (many (read_clause sheet (map length costs ++ states)) c after) _ (many-numbered (read_clause sheet (map length costs ++ states)) (clause-numbered (map length costs ++ states)) c after) (λ clauses after.
        end-numbered (record { costs = costs; states = states; clauses = clauses }) after)))

    sheet-numbered : Numbered (read_sheet e sheet)
    unfolding read_sheet
    sheet-numbered =
        then-numbered (field sheet 8 0) _ (field-numbered sheet 8 0) (λ n after.
        test-numbered (eqb n e.number) 6 _ (inl (omega arith, omega arith))
        (then-numbered (field sheet 5 after) _ (field-numbered sheet 5 after) (λ d after.
        test-numbered (decisions_allowed e d) 7 _ (inl (omega arith, omega arith))
        (then-numbered (field sheet 6 after) _ (field-numbered sheet 6 after) (λ s after.
        test-numbered (leb s 32) 8 _ (inl (omega arith, omega arith))
        (then-numbered (field sheet 10 after) _ (field-numbered sheet 10 after) (λ c after.
        test-numbered (leb c 512) 9 (read_body e sheet d s c after) (inl (omega arith, omega arith)) (body-numbered d s c after))))))))

    -- a sheet is refused by a number from 5 to 13, or by 20 where weights stand
    pub author-number : (n : ℕ) → read_sheet e sheet ≡ refused n → AuthorNumber e n
    author-number n q = subst Numbered q sheet-numbered

-- of the first edition the numbers are 5 to 13
pub author_number1 : (sheet : List ℕ) (n : ℕ) → read_sheet edition1 sheet ≡ refused n → (5 ≤ n) × (n ≤ 13)
author_number1 sheet n q = elim (author-number edition1 sheet n q) [ inl h ↦ h | inr h ↦ no_weights h.0 ]

-- ---- the host's

-- where the grounds have numbers of one kind, so has the first that is given
first-number : (Kind : ℕ → Type 0) (gs : List Ground) → All (λ g. Kind g.number) gs → (n : ℕ) → first_given gs ≡ some n → Kind n
unfolding first_given
first-number Kind [] h n q = absurd (let z : ◌≡◌ {A = ℕ} 0 1 = cc q in omega arith)
first-number Kind (g ∷ gs) h n q = go (first-number Kind gs h.1 n) g.given refl
  where
    go : (first_given gs ≡ some n → Kind n) → (b : Bool) → g.given ≡ b → Kind n
    go others true e = let same : g.number ≡ n = let r = rw (first_given, e) at q in cc r in rw (← same) h.0
    go others false e = others (rw (first_given, e) at q)

pub host_number : (k : ℕ) (b : Buffers) (held : ℕ) (result_short : Bool) (n : ℕ) → first_given (host_grounds k b held result_short) ≡ some n → HostNumber n
unfolding host_grounds
host_number k b held result_short n q = first-number HostNumber (host_grounds k b held result_short)
    (inl (omega arith, omega arith), (inl (omega arith, omega arith), (inr refl, (inl (omega arith, omega arith), (inl (omega arith, omega arith), tt))))) n q

-- ---- the listing call's

-- whoever is refused by the listing call, it is by a number of theirs
pub listing-refusal : (e : Edition) (sheet : List ℕ) (k : ℕ) (b : Buffers) (held limit : ℕ) (result_short : Bool) (r : Refusal) → (listing_with e sheet k b held limit result_short).answer ≡ turnedDown r → RefusalNumber e r
unfolding listing_with called_of
listing-refusal e sheet k b held limit result_short r q = go (first_given (host_grounds k b held result_short)) refl (read_sheet e sheet) refl
  where
    go : (h : Option ℕ) → first_given (host_grounds k b held result_short) ≡ h → (s : Read Plant) → read_sheet e sheet ≡ s → RefusalNumber e r
    go (some n) g s f = let same : by_host n ≡ r = let a = rw (listing_with, g) at q in cc a in rw (← same) (host_number k b held result_short n g)
    go none g (refused n) f = let same : by_author n ≡ r = let a = rw (listing_with, g, f) at q in cc a in rw (← same) (author-number e sheet n f)
    go none g (got p end) f = ran (run_of p (order_of e p) k b held limit) refl
      where
        ran : (x : Next) → run_of p (order_of e p) k b held limit ≡ x → RefusalNumber e r
        ran (ended d t) h = absurd (let a = rw (listing_with, g, f, h, called_of) at q in let z : ◌≡◌ {A = ℕ} 0 1 = cc a in omega arith)
        ran (more t) h = absurd (let a = rw (listing_with, g, f, h, called_of) at q in let z : ◌≡◌ {A = ℕ} 0 1 = cc a in omega arith)

-- ---- the writing call's

literal_numbers : (domains : List ℕ) (ls : List Literal) → All (λ g. TableAuthorNumber g.number) (in_turn (literal_grounds domains) ls)
unfolding literal_grounds
literal_numbers domains [] = tt
literal_numbers domains (l ∷ ls) = all_join (λ g. TableAuthorNumber g.number) (literal_grounds domains l) (in_turn (literal_grounds domains) ls) (inr (omega arith, omega arith), (inr (omega arith, omega arith), tt)) (literal_numbers domains ls)

module _ (t : Tables) (buffer : List ℕ) where
  pub length_number : (n : ℕ) → first_given (length_grounds t) ≡ some n → TableHostNumber n
  unfolding length_grounds
  length_number n q = first-number TableHostNumber (length_grounds t) (inl refl, tt) n q

  pub table-number : (n : ℕ) → first_given (table_grounds edition1 t) ≡ some n → TableAuthorNumber n
  unfolding table_grounds
  table-number n q = first-number TableAuthorNumber (table_grounds edition1 t)
      (inl refl, (inr (omega arith, omega arith), (inr (omega arith, omega arith), (inr (omega arith, omega arith), literal_numbers t.sizes (literals t.literals))))) n q

  room-number : (n : ℕ) → first_given (room_grounds (sheet_of edition1 (plant_of t)) buffer) ≡ some n → TableHostNumber n
  unfolding room_grounds
  room-number n q = first-number TableHostNumber (room_grounds (sheet_of edition1 (plant_of t)) buffer) (inr refl, tt) n q

  -- whoever is refused by the writing call, it is by a number of theirs
  pub table-refusal : (r : Refusal) → (write_call t buffer).answer ≡ turnedDown r → TableNumber r
  unfolding write_call write_sheet
  table-refusal r q = go (first_given (length_grounds t)) (first_given (table_grounds edition1 t)) (first_given (room_grounds (sheet_of edition1 (plant_of t)) buffer)) refl refl refl
    where
      go : (l a m : Option ℕ) → first_given (length_grounds t) ≡ l → first_given (table_grounds edition1 t) ≡ a → first_given (room_grounds (sheet_of edition1 (plant_of t)) buffer) ≡ m → TableNumber r
      go (some n) a m e f g = let same : by_host n ≡ r = let x = rw (write_call, e) at q in cc x in rw (← same) (length_number n e)
      go none (some n) m e f g = let same : by_author n ≡ r = let x = rw (write_call, e, f) at q in cc x in rw (← same) (table-number n f)
      go none none (some n) e f g = let same : by_host n ≡ r = let x = rw (write_call, e, f, write_sheet, g) at q in cc x in rw (← same) (room-number n g)
      go none none none e f g = absurd (let x = rw (write_call, e, f, write_sheet, g) at q in let z : ◌≡◌ {A = ℕ} 0 1 = cc x in omega arith)
