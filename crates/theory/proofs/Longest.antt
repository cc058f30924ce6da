-- No accepted sheet is longer than the longest, and a sheet's bytes up to one more than that decide what it is read as. Assumes nothing.
use mathlib.Core.Path.{◌≡◌, refl, ap, subst}
use mathlib.Core.Bool.{Bool, true, false, ◌&&◌}
use mathlib.Core.Option.{Option, none, some}
use mathlib.Core.List.{List, ◌++◌, map}
use Prim.Native.Nat.{ℕ, zero, suc, ◌+◌, ◌-◌, ◌*◌, ◌/◌, ◌%◌, ◌^◌, ◌≤◌, ◌<◌}
use native.Mathlib.Omega.{arith}
use native.Mathlib.Nat.{suc-mul, mul-le-mul_right}
use native.Mathlib.Decide.{dec_le}
use lib.Dec.{ltb, leb, eqb}
use lib.ListN.{length, get_or, take}
use lib.Seq.{length-take-le, take_all, get_or-take}
use borrow.Author.Tests.{le-leb, ne_eqb, leb-true}
use Rattle.model.specs.Digits.{number}
use Rattle.model.specs.Sheet.{Plant, Read, refused, got, bit_at, bits_at, then, many, field, Edition, edition1, edition2, decisions_allowed, read_figure, read_decision, read_state, read_literal, read_clause, read_filler, read_end, read_body, read_sheet}
use Rattle.model.specs.Calls.{first_given, Buffers, host_grounds, listing_with, listing_call}
use Rattle.model.specs.Text.{wanted_states, program_buffers, trial_limit, leading_text}
use Rattle.theory.specs.Longest.{head_bits, decision_bits, state_bits, literal_bits, clause_bits, variable_bits, field_bits, longest_sheet, deciding_bytes}
use Rattle.theory.proofs.Sheet.{field-got, allowed-most, accepted_any}

-- the numbers that the specification gives
pub longest-edition1 : longest_sheet edition1 ≡ 11356
unfolding longest_sheet edition1
longest-edition1 = refl

pub longest-edition2 : longest_sheet edition2 ≡ 10968
unfolding longest_sheet edition2
longest-edition2 = refl

-- ---- readings that are alike

-- what is read ends at this place or before it
abbrev Within : {A : Type 0} → ℕ → Read A → Type 0
Within end (refused n) = Unit {0}
Within end (got a place) = place ≤ end

-- two readings give the same, which ends at this place or before it
abbrev Alike : {A : Type 0} → ℕ → Read A → Read A → Type 0
Alike end r s = (r ≡ s) × Within end r

module _ {A : Type 0} where
  then-alike : {B : Type 0} (middle end : ℕ) (r s : Read A) (next other : A → ℕ → Read B) → Alike middle r s
      → ((a : A) (place : ℕ) → place ≤ middle → Alike end (next a place) (other a place)) → Alike end (then r next) (then s other)
  unfolding then
  then-alike {B} middle end r s next other h f = rw (← h.0) (go r h.1)
    where
      go : (r : Read A) → Within middle r → Alike end (then r next) (then r other)
      go (refused n) l = (refl, tt)
      go (got a place) l = f a place l

  test-alike : (b : Bool) (n end : ℕ) (r s : Read A) → (b ≡ true → Alike end r s) → Alike {A = A} end (elim b [ true ↦ r | false ↦ refused n ]) (elim b [ true ↦ s | false ↦ refused n ])
  test-alike true n end r s f = f refl
  test-alike false n end r s f = (refl, tt)

  ban_alike : (b : Bool) (n end : ℕ) (r s : Read A) → Alike end r s → Alike {A = A} end (elim b [ true ↦ refused n | false ↦ r ]) (elim b [ true ↦ refused n | false ↦ s ])
  ban_alike true n end r s f = (refl, tt)
  ban_alike false n end r s f = f

-- two sheets that cannot be told apart by their bits before a place, nor by whether a place up to it is within or at the end
record SameTo (s t : List ℕ) (most : ℕ) : Type 0 where
  bit : (place : ℕ) → place < most → bit_at s place ≡ bit_at t place
  inside : (place : ℕ) → place ≤ most → leb place (8 * length s) ≡ leb place (8 * length t)
  ends : (place : ℕ) → place ≤ most → eqb place (8 * length s) ≡ eqb place (8 * length t)

module _ (s t : List ℕ) (most : ℕ) (same : SameTo s t most) where
  bits-same : (w place : ℕ) → place + w ≤ most → bits_at s w place ≡ bits_at t w place
  unfolding bits_at
  bits-same zero place h = refl
  bits-same (suc w) place h = rw (bits_at, same.bit place (omega arith), bits-same w (place + 1) (omega arith))

  field-same : (w place : ℕ) → place + w ≤ most → field s w place ≡ field t w place
  unfolding field
  field-same w place h = go (leb (place + w) (8 * length s)) (leb (place + w) (8 * length t)) (number 2 w (bits_at s w place)) (same.inside (place + w) h) (rw (bits-same w place h))
    where
      go : (b c : Bool) (v : ℕ) → b ≡ c → v ≡ number 2 w (bits_at t w place)
          → ◌≡◌ {A = Read ℕ} (elim b [ true ↦ got v (place + w) | false ↦ refused 5 ])
          (elim c [ true ↦ got (number 2 w (bits_at t w place)) (place + w) | false ↦ refused 5 ])
      go b true v e f = rw (e, f)
      go b false v e f = rw e

  -- a field, then what is read by its value, which has the field's bound
  field-then : {B : Type 0} (w place end : ℕ) (next other : ℕ → ℕ → Read B) → place + w ≤ most
      → ((v : ℕ) → v < 2 ^ w → Alike end (next v (place + w)) (other v (place + w))) → Alike end (then (field s w place) next) (then (field t w place) other)
  unfolding then
  field-then {B = B} w place end next other h f = rw (field-same w place h) (go (field t w place) refl)
    where
      go : (r : Read ℕ) → field t w place ≡ r → Alike end (then r next) (then r other)
      go (refused n) e = (refl, tt)
      go (got v after) e = let (small, is, _, _) = field-got t w place v after e in rw is (f v small)

  -- n readings of at most w bits each
  many-alike : {A : Type 0} (w : ℕ) (item other : ℕ → Read A) → ((place : ℕ) → place + w ≤ most → Alike (place + w) (item place) (other place))
      → (n place end : ℕ) → place + n * w ≤ end → end ≤ most → Alike end (many item n place) (many other n place)
  unfolding many
  many-alike w item other f zero place end h l = (refl, omega arith)
  many-alike w item other f (suc n) place end h l =
      let one : suc n * w ≡ n * w + w = suc-mul n w in
      then-alike (place + w) end (item place) (other place) _ _ (f place (omega arith)) (λ a after g.
      then-alike end end (many item n after) (many other n after) _ _ (many-alike w item other f n after end (omega arith) l) (λ others last g.
      (refl, g)))

module _ (e : Edition) (s t : List ℕ) (same : SameTo s t (8 * longest_sheet e)) where
  abbrev most : ℕ
  most = 8 * longest_sheet e

  figure-alike : (place : ℕ) → place + e.cost_bits ≤ most → Alike (place + e.cost_bits) (read_figure e s place) (read_figure e t place)
  unfolding read_figure
  figure-alike place h = field-then s t most same e.cost_bits place (place + e.cost_bits) _ _ h (λ c small.
      ban_alike (e.weighed && eqb c 0) 20 (place + e.cost_bits) (got c (place + e.cost_bits)) (got c (place + e.cost_bits)) (refl, omega arith))

  decision_alike : (place : ℕ) → place + decision_bits e ≤ most → Alike (place + decision_bits e) (read_decision e s place) (read_decision e t place)
  unfolding read_decision
  decision_alike place h = field-then s t most same 4 place (place + decision_bits e) _ _ (omega arith) (λ n small.
      let all : (n + 1) * e.cost_bits ≤ 16 * e.cost_bits = mul-le-mul_right e.cost_bits (omega arith) in
      many-alike s t most same e.cost_bits (read_figure e s) (read_figure e t) figure-alike (n + 1) (place + 4) (place + decision_bits e) (omega arith) h)

  state-alike : (place : ℕ) → place + state_bits ≤ most → Alike (place + state_bits) (read_state s place) (read_state t place)
  unfolding read_state
  state-alike place h = field-then s t most same 4 place (place + state_bits) _ _ h (λ n small. (refl, omega arith))

  literal-alike : (domains : List ℕ) (place : ℕ) → place + literal_bits ≤ most → Alike (place + literal_bits) (read_literal s domains place) (read_literal t domains place)
  unfolding read_literal
  literal-alike domains place h =
      field-then s t most same 6 place (place + literal_bits) _ _ (omega arith) (λ v small.
      test-alike (ltb v (length domains)) 10 (place + literal_bits) _ _ (λ there.
      field-then s t most same 1 (place + 6) (place + literal_bits) _ _ (omega arith) (λ sign small.
      field-then s t most same 4 (place + 6 + 1) (place + literal_bits) _ _ (omega arith) (λ x small.
      test-alike (ltb x (get_or domains v 0)) 11 (place + literal_bits) _ _ (λ there. (refl, omega arith))))))

  clause-alike : (domains : List ℕ) (place : ℕ) → place + clause_bits ≤ most → Alike (place + clause_bits) (read_clause s domains place) (read_clause t domains place)
  unfolding read_clause
  clause-alike domains place h = field-then s t most same 4 place (place + clause_bits) _ _ (omega arith) (λ n small.
      many-alike s t most same literal_bits (read_literal s domains) (read_literal t domains) (literal-alike domains) n (place + 4) (place + clause_bits) (omega arith) h)

  filler-alike : (n place end : ℕ) → place + n ≤ end → end ≤ most → Alike end (read_filler s n place) (read_filler t n place)
  unfolding read_filler
  filler-alike zero place end h l = (refl, omega arith)
  filler-alike (suc n) place end h l = rw (read_filler, same.bit place (omega arith))
      (test-alike (eqb (bit_at t place) 0) 12 end (read_filler s n (place + 1)) (read_filler t n (place + 1)) (λ z. filler-alike n (place + 1) end (omega arith) l))

  -- the filler ends with a byte
  filler-end : (place : ℕ) → place ≤ field_bits e → place + (8 - place % 8) % 8 ≤ most
  unfolding longest_sheet
  filler-end place h = omega arith

  end-alike : (p : Plant) (place : ℕ) → place ≤ field_bits e → Alike most (read_end s p place) (read_end t p place)
  unfolding read_end
  end-alike p place h =
      then-alike most most (read_filler s ((8 - place % 8) % 8) place) (read_filler t ((8 - place % 8) % 8) place) _ _ (filler-alike ((8 - place % 8) % 8) place most (filler-end place h) (omega arith)) (λ zeros end l.
      rw (same.ends end l) (test-alike (eqb end (8 * length t)) 13 most (got p end) (got p end) (λ z. (refl, l))))

  body_alike : (d n c : ℕ) → d ≤ e.most → n ≤ 32 → c ≤ 512 → Alike most (read_body e s d n c head_bits) (read_body e t d n c head_bits)
  unfolding read_body
  body_alike d n c hd hn hc =
      let rows : d * decision_bits e ≤ e.most * decision_bits e = mul-le-mul_right (decision_bits e) hd in
      let fields : field_bits e ≤ most = omega (arith, filler-end (field_bits e) (omega arith)) in
      then-alike (head_bits + e.most * decision_bits e) most (many (read_decision e s) d head_bits) (many (read_decision e t) d head_bits) _ _
      (many-alike s t most same (decision_bits e) (read_decision e s) (read_decision e t) decision_alike d head_bits (head_bits + e.most * decision_bits e) (omega arith) (omega arith)) (λ costs after l.
      then-alike (variable_bits e) most (many (read_state s) n after) (many (read_state t) n after) _ _
      (many-alike s t most same state_bits (read_state s) (read_state t) state-alike n after (variable_bits e) (omega arith) (omega arith)) (λ states after l.
      then-alike (field_bits e) most (many (read_clause s (map length costs ++ states)) c after) (many (read_clause t (map length costs ++ states)) c after) _ _
      (many-alike s t most same clause_bits (read_clause s (map length costs ++ states)) (read_clause t (map length costs ++ states)) (clause-alike (map length costs ++ states)) c after (field_bits e) (omega arith) fields) (λ clauses after l.
      end-alike (record { costs = costs; states = states; clauses = clauses }) after l)))

  sheet-alike : Alike most (read_sheet e s) (read_sheet e t)
  unfolding read_sheet
  sheet-alike =
      let fields : field_bits e ≤ most = omega (arith, filler-end (field_bits e) (omega arith)) in
      field-then s t most same 8 0 most _ _ (omega arith) (λ n small.
      test-alike (eqb n e.number) 6 most _ _ (λ edition.
      field-then s t most same 5 8 most _ _ (omega arith) (λ d small.
      test-alike (decisions_allowed e d) 7 most _ _ (λ allowed.
      field-then s t most same 6 (8 + 5) most _ _ (omega arith) (λ n small.
      test-alike (leb n 32) 8 most _ _ (λ few.
      field-then s t most same 10 (8 + 5 + 6) most _ _ (omega arith) (λ c small.
      test-alike (leb c 512) 9 most (read_body e s d n c head_bits) (read_body e t d n c head_bits) (λ short.
      body_alike d n c (allowed-most e d allowed) (leb-true n 32 few) (leb-true c 512 short)))))))))

-- ---- what follows

module _ (e : Edition) (sheet : List ℕ) where
  -- an accepted sheet is no longer than the longest
  pub no_longer : (p : Plant) (end : ℕ) → read_sheet e sheet ≡ got p end → length sheet ≤ longest_sheet e
  no_longer p end h =
      let (accepted, allowed, ends) = accepted_any e sheet p end h in
      let l : end ≤ 8 * longest_sheet e = subst (Within (8 * longest_sheet e)) h (sheet-alike e sheet sheet (record { bit = λ place l. refl; inside = λ place l. refl; ends = λ place l. refl })).1 in
      omega arith

  abbrev deciding : List ℕ
  deciding = take (deciding_bytes e) sheet

  -- a sheet with a byte more than the longest has cannot be told from its bytes up to that one
  deciding-same : deciding_bytes e ≤ length sheet → SameTo deciding sheet (8 * longest_sheet e)
  unfolding bit_at
  deciding-same h =
      let l : length deciding ≡ deciding_bytes e = length-take-le (deciding_bytes e) sheet h in
      record {
        bit = λ place g. rw (bit_at, get_or-take (deciding_bytes e) sheet (place / 8) 0 (omega arith));
        inside = λ place g. rw (le-leb place (8 * length deciding) (omega arith), le-leb place (8 * length sheet) (omega arith));
        ends = λ place g. rw (ne_eqb place (8 * length deciding) (omega arith), ne_eqb place (8 * length sheet) (omega arith));
      }

  -- the first bytes decide what a sheet is read as
  pub first_decide : read_sheet e (take (deciding_bytes e) sheet) ≡ read_sheet e sheet
  first_decide = elim (dec_le (deciding_bytes e) (length sheet)) [
    | yes h ↦ (sheet-alike e deciding sheet (deciding-same h)).0
    | no h ↦ ap (read_sheet e) (take_all (deciding_bytes e) sheet (omega arith))
  ]

-- and what is listed for it
pub listing_decided : (e : Edition) (sheet : List ℕ) (k : ℕ) (b : Buffers) (held limit : ℕ) (result_short : Bool)
    → listing_with e (take (deciding_bytes e) sheet) k b held limit result_short ≡ listing_with e sheet k b held limit result_short
unfolding listing_with
listing_decided e sheet k b held limit result_short = go (first_given (host_grounds k b held result_short)) refl
  where
    go : (g : Option ℕ) → first_given (host_grounds k b held result_short) ≡ g
        → listing_with e (take (deciding_bytes e) sheet) k b held limit result_short ≡ listing_with e sheet k b held limit result_short
    go (some n) h = rw (listing_with, h)
    go none h = rw (listing_with, h, first_decide e sheet)

-- and what the program `leading` prints for it
pub text_decided : (sheet : List ℕ) → leading_text (take (deciding_bytes edition1) sheet) ≡ leading_text sheet
unfolding leading_text listing_call
text_decided sheet = rw (leading_text, listing_call, listing_decided edition1 sheet wanted_states program_buffers 0 trial_limit false)
