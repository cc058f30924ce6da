-- What an accepted reading says of the plant it read. Each reading that gives something is taken apart into the readings and rules it went through. Assumes nothing.
use mathlib.Core.Path.{◌≡◌, refl, sym, ap, ◌∙◌}
use mathlib.Core.List.{List, [], ◌∷◌, ◌++◌, map}
use mathlib.Core.Bool.{Bool, true, false, ◌&&◌}
use Prim.Native.Nat.{ℕ, zero, suc, ◌+◌, ◌-◌, ◌*◌, ◌%◌, ◌^◌, ◌≤◌, ◌<◌}
use native.Mathlib.Omega.{arith}
use lib.ListN.{length, get_or}
use lib.Dec.{ltb, leb, eqb}
use borrow.Author.Tests.{ltb-true, leb-true, eqb-true, eq-eqb, ne_eqb}
use Rattle.model.specs.Lists.{All}
use Rattle.model.specs.Digits.{number, digits}
use Rattle.model.specs.Sheet.{Literal, Plant, bit_at, bits_at, Read, refused, got, then, many, field, Edition, edition1, edition2, edition_of, decisions_allowed, read_figure, read_decision, read_state, read_literal, read_clause, read_filler, read_end, read_body, read_sheet, read_either}
use Rattle.theory.specs.Digits.{Below}
use Rattle.theory.specs.Plant.{Sized, Present, Accepted}
use Rattle.theory.proofs.Lists.{all_map}
use Rattle.theory.proofs.Digits.{below_at, number_digits}
use Rattle.theory.proofs.Fields.{field_below}

-- a conjunction that is true
both : (a b : Bool) → (a && b) ≡ true → (a ≡ true) × (b ≡ true)
both true b h = (refl, h)
both false b h = (h, cc)

module _ {A : Type 0} where
  -- what two readings give in turn, the first gave something to the second
  pub then-got : {B : Type 0} (r : Read A) (next : A → ℕ → Read B) (b : B) (end : ℕ) → then r next ≡ got b end
      → (a : A) × (place : ℕ) × (r ≡ got a place) × (next a place ≡ got b end)
  unfolding then
  then-got (refused n) next b end e = absurd (let z : ◌≡◌ {A = ℕ} 0 1 = cc in omega arith)
  then-got (got a place) next b end e = (a, place, refl, e)

  -- a rule that let something through holds
  pub rule_got : (t : Bool) (n : ℕ) (next : Read A) (a : A) (end : ℕ) → (elim t [ false ↦ refused n | true ↦ next ]) ≡ got a end → (t ≡ true) × (next ≡ got a end)
  rule_got true n next a end e = (refl, e)
  rule_got false n next a end e = absurd (let z : ◌≡◌ {A = ℕ} 0 1 = cc in omega arith)

  -- and one that refuses what its test says does not say it
  pub ban_got : (t : Bool) (n : ℕ) (next : Read A) (a : A) (end : ℕ) → (elim t [ true ↦ refused n | false ↦ next ]) ≡ got a end → (t ≡ false) × (next ≡ got a end)
  ban_got false n next a end e = (refl, e)
  ban_got true n next a end e = absurd (let z : ◌≡◌ {A = ℕ} 0 1 = cc in omega arith)

module _ {A : Type 0} where
  -- n readings give n things, each with what one reading gives
  pub many-all : (P : A → Type 0) (item : ℕ → Read A) → ((place : ℕ) (a : A) (after : ℕ) → item place ≡ got a after → P a)
      → (n place : ℕ) (xs : List A) (end : ℕ) → many item n place ≡ got xs end → (length xs ≡ n) × All P xs
  unfolding many
  many-all P item h zero place xs end e = let f : [] ≡ xs = cc in rw (← f) (refl, tt)
  many-all P item h (suc n) place xs end e =
      let (a, after, p, q) = then-got (item place) (λ a after. then (many item n after) (λ others end. got (a ∷ others) end)) xs end e in
      let (others, last, r, s) = then-got (many item n after) (λ others end. got (a ∷ others) end) xs end q in
      let f : a ∷ others ≡ xs = cc in
      let (l, all) = many-all P item h n after others last r in
      rw (← f) (ap suc l, (h place a after p, all))

-- a field that is there: its value's bound, the place after it, and that this is within the sheet
pub field-got : (sheet : List ℕ) (w place v after : ℕ) → field sheet w place ≡ got v after → (v < 2 ^ w) × (after ≡ place + w) × (place + w ≤ 8 * length sheet) × (v ≡ number 2 w (bits_at sheet w place))
unfolding field
field-got sheet w place v after e = go (leb (place + w) (8 * length sheet)) refl e
  where
    go : (t : Bool) → leb (place + w) (8 * length sheet) ≡ t
        → (elim t [ true ↦ got (number 2 w (bits_at sheet w place)) (place + w) | false ↦ refused 5 ]) ≡ got v after
        → (v < 2 ^ w) × (after ≡ place + w) × (place + w ≤ 8 * length sheet) × (v ≡ number 2 w (bits_at sheet w place))
    go true l f = let f' : v ≡ number 2 w (bits_at sheet w place) = cc in (rw f' (field_below sheet w place), (cc), leb-true _ _ l, f')
    go false l f = absurd (let z : ◌≡◌ {A = ℕ} 0 1 = cc in omega arith)

-- the numbers of decision variables that an edition allows
pub allowed-most : (e : Edition) (d : ℕ) → decisions_allowed e d ≡ true → d ≤ e.most
unfolding decisions_allowed
allowed-most e d h = leb-true d e.most (both (leb 1 d) (leb d e.most) h).1

pub allowed_some : (e : Edition) (d : ℕ) → decisions_allowed e d ≡ true → 1 ≤ d
unfolding decisions_allowed
allowed_some e d h = leb-true 1 d (both (leb 1 d) (leb d e.most) h).0

module _ (sheet : List ℕ) where
  -- a state variable's size
  state : (place n after : ℕ) → read_state sheet place ≡ got n after → Sized n
  unfolding read_state
  state place n after h =
      let (m, at, p, q) = then-got (field sheet 4 place) (λ n after. got (n + 1) after) n after h in
      let small = field-got sheet 4 place m at p in
      let f : m + 1 ≡ n = cc in
      (omega arith, omega (arith, small.0))

  -- a literal over domains
  present : (domains : List ℕ) (place : ℕ) (l : Literal) (after : ℕ) → read_literal sheet domains place ≡ got l after → Present domains l
  unfolding read_literal
  present domains place l after h =
      let (v, at, p, q) = then-got (field sheet 6 place) _ l after h in
      let (there, q) = rule_got (ltb v (length domains)) 10 _ l after q in
      let (s, at, p, q) = then-got (field sheet 1 at) _ l after q in
      let small = field-got sheet 1 _ s at p in
      let (x, at, p, q) = then-got (field sheet 4 at) _ l after q in
      let (inside, q) = rule_got (ltb x (get_or domains v 0)) 11 _ l after q in
      let f : record { variable = v; sign = s; value = x } ≡ l = cc in
      rw (← f) record { variable = ltb-true _ _ there; sign = omega (arith, small.0); value = ltb-true _ _ inside }

  -- a clause over domains
  clause : (domains : List ℕ) (place : ℕ) (c : List Literal) (after : ℕ) → read_clause sheet domains place ≡ got c after → (length c ≤ 15) × All (Present domains) c
  unfolding read_clause
  clause domains place c after h =
      let (n, at, p, q) = then-got (field sheet 4 place) _ c after h in
      let small = field-got sheet 4 place n at p in
      let (l, all) = many-all (Present domains) (read_literal sheet domains) (present domains) n at c after q in
      (omega (arith, small.0), all)

  -- the end of the sheet hands on the plant that it was given, at the sheet's end
  pub end-got : (p : Plant) (place : ℕ) (q : Plant) (end : ℕ) → read_end sheet p place ≡ got q end → (p ≡ q) × (end ≡ 8 * length sheet)
  unfolding read_end
  end-got p place q end h =
      let (zeros, last, f, g) = then-got (read_filler sheet ((8 - place % 8) % 8) place) _ q end h in
      let (whole, g) = rule_got (eqb last (8 * length sheet)) 13 _ q end g in
      let last-is : last ≡ 8 * length sheet = eqb-true last (8 * length sheet) whole in
      ((cc), (cc))

module _ (e : Edition) (sheet : List ℕ) where
  -- a figure is below its width's power of 2, and no weight is zero
  abbrev Figure : ℕ → Type 0
  Figure c = (c < 2 ^ e.cost_bits) × (e.weighed ≡ true → 1 ≤ c)

  -- a figure is a field, and a weight is not zero
  pub figure-got : (place c after : ℕ) → read_figure e sheet place ≡ got c after → (field sheet e.cost_bits place ≡ got c after) × (e.weighed ≡ true → 1 ≤ c)
  unfolding read_figure
  figure-got place c after h =
      let (v, at, p, q) = then-got (field sheet e.cost_bits place) (λ c after. elim (e.weighed && eqb c 0) [ true ↦ refused 20 | false ↦ got c after ]) c after h in
      let (kept, q) = ban_got (e.weighed && eqb v 0) 20 (got v at) c after q in
      let is : v ≡ c = cc in
      (p ∙ q, λ w. omega (arith, is, positive e.weighed v kept w))
    where
      positive : (w : Bool) (v : ℕ) → (w && eqb v 0) ≡ false → w ≡ true → 1 ≤ v
      positive true zero k h = absurd (let z : ◌≡◌ {A = ℕ} 0 1 = cc in omega arith)
      positive true (suc v) k h = omega arith
      positive false v k h = absurd (let z : ◌≡◌ {A = ℕ} 0 1 = cc in omega arith)

  -- a decision variable's row
  row : (place : ℕ) (costs : List ℕ) (after : ℕ) → read_decision e sheet place ≡ got costs after → Sized (length costs) × All Figure costs
  unfolding read_decision
  row place costs after h =
      let (n, at, p, q) = then-got (field sheet 4 place) (λ n after. many (read_figure e sheet) (n + 1) after) costs after h in
      let small = field-got sheet 4 place n at p in
      let (l, all) = many-all Figure (read_figure e sheet) (λ p v a f. let (g, w) = figure-got p v a f in ((field-got sheet e.cost_bits p v a g).0, w)) (n + 1) at costs after q in
      ((omega arith, omega (arith, small.0)), all)

  -- what follows the counts, where they are allowed
  body-got : (d s c place : ℕ) (p : Plant) (end : ℕ) → d ≤ e.most → s ≤ 32 → c ≤ 512 → read_body e sheet d s c place ≡ got p end
      → Accepted e p × (length p.costs ≡ d) × (end ≡ 8 * length sheet)
  unfolding read_body
  body-got d s c place p end hd hs hc h =
      let (rows, at, f, h) = then-got (many (read_decision e sheet) d place) _ p end h in
      let (rows_are, all-rows) = many-all (λ r. Sized (length r) × All Figure r) (read_decision e sheet) row d place rows at f in
      let (states, at, f, h) = then-got (many (read_state sheet) s at) _ p end h in
      let (states-are, all-states) = many-all Sized (read_state sheet) (state sheet) s _ states at f in
      let (clauses, at, f, h) = then-got (many (read_clause sheet (map length rows ++ states)) c at) _ p end h in
      let (clauses-are, all-clauses) = many-all (λ c. (length c ≤ 15) × All (Present (map length rows ++ states)) c) (read_clause sheet (map length rows ++ states)) (clause sheet (map length rows ++ states)) c _ clauses at f in
      let (is-p, ends) = end-got sheet (record { costs = rows; states = states; clauses = clauses }) at p end h in
      rw (← is-p) (
        record {
          decisions = omega (arith, rows_are);
          states = omega (arith, states-are);
          clauses = omega (arith, clauses-are);
          decision_sizes_lem = all_map (λ r h. h.0) rows all-rows;
          state-sizes = all-states;
          costs = all_map (λ r h. all_map (λ c g. g.0) r h.1) rows all-rows;
          weights = λ w. all_map (λ r h. all_map (λ c g. g.1 w) r h.1) rows all-rows;
          literals = all-clauses;
        },
        rows_are,
        ends,
      )

  -- what the whole sheet says of its plant: the widths, the rules of the counts, and those of the literals
  pub accepted_any : (p : Plant) (end : ℕ) → read_sheet e sheet ≡ got p end → Accepted e p × (decisions_allowed e (length p.costs) ≡ true) × (end ≡ 8 * length sheet)
  unfolding read_sheet
  accepted_any p end h =
      let (n, at, f, h) = then-got (field sheet 8 0) _ p end h in
      let (edition, h) = rule_got (eqb n e.number) 6 _ p end h in
      let (d, at, f, h) = then-got (field sheet 5 at) _ p end h in
      let (allowed, h) = rule_got (decisions_allowed e d) 7 _ p end h in
      let (s, at, f, h) = then-got (field sheet 6 at) _ p end h in
      let (few, h) = rule_got (leb s 32) 8 _ p end h in
      let (c, at, f, h) = then-got (field sheet 10 at) _ p end h in
      let (short, h) = rule_got (leb c 512) 9 _ p end h in
      finish d s c at p end allowed (leb-true s 32 few) (leb-true c 512 short) h
    where
      finish : (d s c place : ℕ) (p : Plant) (end : ℕ) → decisions_allowed e d ≡ true → s ≤ 32 → c ≤ 512 → read_body e sheet d s c place ≡ got p end
          → Accepted e p × (decisions_allowed e (length p.costs) ≡ true) × (end ≡ 8 * length sheet)
      finish d s c place p end allowed hs hc h =
          let (a, are, ends) = body-got d s c place p end (allowed-most e d allowed) hs hc h in
          (a, rw are allowed, ends)

-- ---- either edition

-- the first edition has no weights
pub no_weights : {P : Type 0} → edition1.weighed ≡ true → P
unfolding edition1
no_weights h = absurd (let z : ◌≡◌ {A = ℕ} 0 1 = cc in omega arith)

-- a plant of the second edition keeps every bound of the first
pub accepted-narrow : (p : Plant) → Accepted edition2 p → Accepted edition1 p
unfolding edition1 edition2
accepted-narrow p ok = record {
  decisions = omega (arith, ok.decisions);
  states = ok.states;
  clauses = ok.clauses;
  decision_sizes_lem = ok.decision_sizes_lem;
  state-sizes = ok.state-sizes;
  costs = all_map (λ r h. all_map (λ c g. omega arith) r h) p.costs ok.costs;
  weights = no_weights;
  literals = ok.literals;
}

-- so does one of either
pub accepted-wide : (w : Bool) (p : Plant) → Accepted (edition_of w) p → Accepted edition1 p
accepted-wide false p ok = ok
accepted-wide true p ok = accepted-narrow p ok

-- the plant of an accepted sheet, which has a decision variable
pub accepted_of : (e : Edition) (sheet : List ℕ) (p : Plant) (end : ℕ) → read_sheet e sheet ≡ got p end → Accepted e p × (1 ≤ length p.costs)
accepted_of e sheet p end h =
    let (a, allowed, ends) = accepted_any e sheet p end h in
    (a, allowed_some e (length p.costs) allowed)

pub accepted : (sheet : List ℕ) (p : Plant) (end : ℕ) → read_sheet edition1 sheet ≡ got p end → Accepted edition1 p × (1 ≤ length p.costs)
accepted = accepted_of edition1

-- whether the first byte of a sheet says the second edition
abbrev pub says_weighed : List ℕ → Bool
says_weighed sheet = eqb (get_or sheet 0 0) 2

-- the edition that the first byte says is the one that a sheet is read by
pub either_is : (sheet : List ℕ) → read_either sheet ≡ read_sheet (edition_of (says_weighed sheet)) sheet
unfolding read_either
either_is sheet = go (says_weighed sheet)
  where
    go : (w : Bool) → (elim w [ true ↦ read_sheet edition2 sheet | false ↦ read_sheet edition1 sheet ]) ≡ read_sheet (edition_of w) sheet
    go true = refl
    go false = refl

-- what is read of a sheet of either edition keeps every bound of the first, and has a decision variable
pub either-accepted : (sheet : List ℕ) (p : Plant) (end : ℕ) → read_either sheet ≡ got p end → Accepted edition1 p × (1 ≤ length p.costs)
either-accepted sheet p end h =
    let (a, some) = accepted_of (edition_of (says_weighed sheet)) sheet p end (rw (either_is sheet) at h) in
    (accepted-wide (says_weighed sheet) p a, some)

first-bits : (sheet : List ℕ) → bits_at sheet 8 0 ≡ digits 2 8 (get_or sheet 0 0)
unfolding bits_at bit_at digits
first-bits sheet = refl

-- the first field of a sheet is its first byte
pub first_byte : (sheet : List ℕ) → Below 256 sheet → number 2 8 (bits_at sheet 8 0) ≡ get_or sheet 0 0
first_byte sheet b = rw (first-bits sheet) (number_digits 2 8 (get_or sheet 0 0) (omega arith) (below_at 256 sheet 0 (omega arith) b))

-- an accepted sheet's first byte is its edition's number
pub first-number : (e : Edition) (sheet : List ℕ) (p : Plant) (end : ℕ) → read_sheet e sheet ≡ got p end → Below 256 sheet → get_or sheet 0 0 ≡ e.number
unfolding read_sheet
first-number e sheet p end h b =
    let (n, at, f, h) = then-got (field sheet 8 0) _ p end h in
    let (edition, h) = rule_got (eqb n e.number) 6 _ p end h in
    sym (first_byte sheet b) ∙ sym (field-got sheet 8 0 n at f).3 ∙ eqb-true n e.number edition

says : (w : Bool) (sheet : List ℕ) → get_or sheet 0 0 ≡ (edition_of w).number → says_weighed sheet ≡ w
unfolding edition1 edition2
says true sheet e = eq-eqb (get_or sheet 0 0) 2 e
says false sheet e = ne_eqb (get_or sheet 0 0) 2 (omega arith)

-- a sheet that one edition accepts is read by that edition
pub either-reads : (w : Bool) (sheet : List ℕ) (p : Plant) (end : ℕ) → read_sheet (edition_of w) sheet ≡ got p end → Below 256 sheet → read_either sheet ≡ got p end
either-reads w sheet p end h b = rw (either_is sheet, says w sheet (first-number (edition_of w) sheet p end h b)) h
