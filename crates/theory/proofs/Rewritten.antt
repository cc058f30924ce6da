-- Writing the plant that was read returns the sheet's bytes: each reading that gives something read the very bits that are written of it. Assumes nothing.
use mathlib.Core.Path.{◌≡◌, refl, sym, ap, ◌∙◌}
use mathlib.Core.List.{List, [], ◌∷◌, ◌++◌, map}
use Prim.Native.Nat.{ℕ, zero, suc, ◌+◌, ◌-◌, ◌*◌, ◌/◌, ◌%◌}
use native.Mathlib.Omega.{arith}
use lib.ListN.{length, get_or, replicate, length-append, length-replicate}
use lib.Dec.{ltb, leb, eqb}
use lib.Seq.{take_all}
use borrow.Author.Tests.{eqb-true}
use Rattle.model.specs.Lists.{in_turn}
use Rattle.model.specs.Digits.{digits}
use Rattle.model.specs.Sheet.{Plant, Read, got, bit_at, bits_at, then, many, field, Edition, decisions_allowed, read_figure, read_decision, read_state, read_literal, read_clause, read_filler, read_end, read_body, read_sheet}
use Rattle.model.specs.Tables.{decision_written, state_written, literal_written, clause_written, body_written, plant_written, packed, sheet_of}
use Rattle.theory.specs.Digits.{Below}
use Rattle.theory.specs.Puts.{bits_of}
use Rattle.theory.proofs.Bits.{bits_length, bits-at, bits-packed, packed-filler}
use Rattle.theory.proofs.Digits.{digits_length, digits-made}
use Rattle.theory.proofs.Fields.{at-below, at_length, at_split}
use Rattle.theory.proofs.Sheet.{then-got, rule_got, field-got, figure-got}

-- from a place up to another the sheet holds these bits
record Holds (sheet : List ℕ) (place : ℕ) (bits : List ℕ) (after : ℕ) : Type 0 where
  ends : after ≡ place + length bits
  same : bits_at sheet (length bits) place ≡ bits

module _ {sheet : List ℕ} where
  holds-none : (place : ℕ) → Holds sheet place [] place
  unfolding bits_at
  holds-none place = record { ends = omega arith; same = refl }

  holds-join : {place mid after : ℕ} (xs ys : List ℕ) → Holds sheet place xs mid → Holds sheet mid ys after → Holds sheet place (xs ++ ys) after
  holds-join {place} xs ys h k =
      let second : bits_at sheet (length ys) (place + length xs) ≡ ys = rw h.ends at k.same in
      record {
        ends = omega (arith, length-append xs ys);
        same = rw (length-append xs ys, at_split sheet (length xs) (length ys) place, h.same, second);
      }

  -- what was read is given on
  holds-got : {A : Type 0} (bits : A → List ℕ) (a b : A) (place mid after : ℕ) → got a mid ≡ got b after → Holds sheet place (bits a) mid → Holds sheet place (bits b) after
  holds-got bits a b place mid after e h =
      let f : a ≡ b = cc in
      let g : mid ≡ after = cc in
      rw (← f, ← g) h

-- from a place on the sheet holds these bits, then the filler, then nothing
record Fills (sheet : List ℕ) (place : ℕ) (bits : List ℕ) : Type 0 where
  last : ℕ
  held : Holds sheet place bits last
  filler : Holds sheet last (replicate ((8 - last % 8) % 8) 0) (8 * length sheet)

-- what a reading gives, it read as these bits
abbrev Rewrites : {A : Type 0} → List ℕ → (ℕ → Read A) → (A → List ℕ) → Type 0
Rewrites {A} sheet read bits = (place : ℕ) (a : A) (after : ℕ) → read place ≡ got a after → Holds sheet place (bits a) after

module _ (sheet : List ℕ) where
  -- a field that was read, put again, gives its bits
  field_rewrites : (w : ℕ) → Rewrites sheet (field sheet w) (digits 2 w)
  field_rewrites w place v after h =
      let (small, ends, within, is) = field-got sheet w place v after h in
      let l : length (digits 2 w v) ≡ w = digits_length 2 w v in
      let made : digits 2 w v ≡ bits_at sheet w place = rw is (digits-made 2 w (bits_at sheet w place) (omega arith) (at-below sheet w place) (at_length sheet w place)) in
      record { ends = omega arith; same = rw l (sym made) }

  many_rewrites : {A : Type 0} (item : ℕ → Read A) (bits : A → List ℕ) → Rewrites sheet item bits
      → (n place : ℕ) (xs : List A) (end : ℕ) → many item n place ≡ got xs end → (length xs ≡ n) × Holds sheet place (in_turn bits xs) end
  unfolding many
  many_rewrites item bits r zero place xs end h =
      let f : [] ≡ xs = cc in
      (sym (ap length f), holds-got (in_turn bits) [] xs place place end h (holds-none place))
  many_rewrites item bits r (suc n) place xs end h =
      let (a, after, p, q) = then-got (item place) (λ a after. then (many item n after) (λ others end. got (a ∷ others) end)) xs end h in
      let (others, last, p', q) = then-got (many item n after) (λ others end. got (a ∷ others) end) xs end q in
      let f : a ∷ others ≡ xs = cc in
      let (l, held) = many_rewrites item bits r n after others last p' in
      (sym (ap length f) ∙ ap suc l, holds-got (in_turn bits) (a ∷ others) xs place last end q (holds-join (bits a) (in_turn bits others) (r place a after p) held))

module _ (e : Edition) (sheet : List ℕ) where
  decision_rewrites : Rewrites sheet (read_decision e sheet) (decision_written e)
  unfolding read_decision
  decision_rewrites place costs after h =
      let (n, at, p, q) = then-got (field sheet 4 place) (λ n after. many (read_figure e sheet) (n + 1) after) costs after h in
      let (l, held) = many_rewrites sheet (read_figure e sheet) (digits 2 e.cost_bits) (λ place c after h. field_rewrites sheet e.cost_bits place c after (figure-got e sheet place c after h).0) (n + 1) at costs after q in
      let is : length costs - 1 ≡ n = omega arith in
      rw is (holds-join (digits 2 4 n) (in_turn (digits 2 e.cost_bits) costs) (field_rewrites sheet 4 place n at p) held)

  state_rewrites : Rewrites sheet (read_state sheet) state_written
  unfolding read_state
  state_rewrites place size after h =
      let (n, at, p, q) = then-got (field sheet 4 place) (λ n after. got (n + 1) after) size after h in
      let is : n + 1 - 1 ≡ n = omega arith in
      holds-got state_written (n + 1) size place at after q (rw is (field_rewrites sheet 4 place n at p))

  literal_rewrites : (domains : List ℕ) → Rewrites sheet (read_literal sheet domains) literal_written
  unfolding read_literal
  literal_rewrites domains place l after h =
      let (v, at, p, q) = then-got (field sheet 6 place) _ l after h in
      let (there, q) = rule_got (ltb v (length domains)) 10 _ l after q in
      let (s, at', p', q) = then-got (field sheet 1 at) _ l after q in
      let (x, at'', p'', q) = then-got (field sheet 4 at') _ l after q in
      let (inside, q) = rule_got (ltb x (get_or domains v 0)) 11 _ l after q in
      holds-got literal_written (record { variable = v; sign = s; value = x }) l place at'' after q
      (holds-join (digits 2 6 v) (digits 2 1 s ++ digits 2 4 x) (field_rewrites sheet 6 place v at p)
      (holds-join (digits 2 1 s) (digits 2 4 x) (field_rewrites sheet 1 at s at' p') (field_rewrites sheet 4 at' x at'' p'')))

  clause_rewrites : (domains : List ℕ) → Rewrites sheet (read_clause sheet domains) clause_written
  unfolding read_clause
  clause_rewrites domains place c after h =
      let (n, at, p, q) = then-got (field sheet 4 place) _ c after h in
      let (l, held) = many_rewrites sheet (read_literal sheet domains) literal_written (literal_rewrites domains) n at c after q in
      rw l (holds-join (digits 2 4 n) (in_turn literal_written c) (field_rewrites sheet 4 place n at p) held)

  -- the filler is zeros
  filler-holds : (n place zeros end : ℕ) → read_filler sheet n place ≡ got zeros end → Holds sheet place (replicate n 0) end
  unfolding read_filler bits_at
  filler-holds zero place zeros end h = let g : place ≡ end = cc in rw (← g) (holds-none place)
  filler-holds (suc n) place zeros end h =
      let (bit, h) = rule_got (eqb (bit_at sheet place) 0) 12 _ zeros end h in
      let rest = filler-holds n (place + 1) zeros end h in
      record { ends = omega (arith, rest.ends); same = rw (bits_at, eqb-true (bit_at sheet place) 0 bit, rest.same) }

  -- fewer than eight of them, up to the sheet's end
  end-holds : (p : Plant) (place : ℕ) (q : Plant) (end : ℕ) → read_end sheet p place ≡ got q end → (p ≡ q) × Holds sheet place (replicate ((8 - place % 8) % 8) 0) (8 * length sheet)
  unfolding read_end
  end-holds p place q end h =
      let (zeros, last, f, g) = then-got (read_filler sheet ((8 - place % 8) % 8) place) _ q end h in
      let (whole, g) = rule_got (eqb last (8 * length sheet)) 13 _ q end g in
      ((cc), rw (← eqb-true last (8 * length sheet) whole) (filler-holds ((8 - place % 8) % 8) place zeros last f))

  -- what follows the counts
  body_fills : (d s c place : ℕ) (p : Plant) (end : ℕ) → read_body e sheet d s c place ≡ got p end
      → (length p.costs ≡ d) × (length p.states ≡ s) × (length p.clauses ≡ c) × Fills sheet place (body_written e p)
  unfolding read_body
  body_fills d s c place p end h =
      let (rows, at, f, h) = then-got (many (read_decision e sheet) d place) _ p end h in
      let (rows_are, rows-held) = many_rewrites sheet (read_decision e sheet) (decision_written e) decision_rewrites d place rows at f in
      let (states, at', f, h) = then-got (many (read_state sheet) s at) _ p end h in
      let (states-are, states-held) = many_rewrites sheet (read_state sheet) state_written state_rewrites s at states at' f in
      let (clauses, at'', f, h) = then-got (many (read_clause sheet (map length rows ++ states)) c at') _ p end h in
      let (clauses-are, clauses-held) = many_rewrites sheet (read_clause sheet (map length rows ++ states)) clause_written (clause_rewrites (map length rows ++ states)) c at' clauses at'' f in
      let (is-p, filler) = end-holds (record { costs = rows; states = states; clauses = clauses }) at'' p end h in
      let last-two = holds-join (in_turn state_written states) (in_turn clause_written clauses) states-held clauses-held in
      rw (← is-p) (
        rows_are,
        states-are,
        clauses-are,
        record {
          last = at'';
          held = holds-join (in_turn (decision_written e) rows) (in_turn state_written states ++ in_turn clause_written clauses) rows-held last-two;
          filler = filler;
        },
      )

  -- a field before bits that are followed by the filler
  field_fills : (w place v after u : ℕ) (bits : List ℕ) → field sheet w place ≡ got v after → u ≡ v → Fills sheet after bits → Fills sheet place (digits 2 w u ++ bits)
  field_fills w place v after u bits h is f = rw is record {
    last = f.last;
    held = holds-join (digits 2 w v) bits (field_rewrites sheet w place v after h) f.held;
    filler = f.filler;
  }

  sheet_fills : (p : Plant) (end : ℕ) → read_sheet e sheet ≡ got p end → Fills sheet 0 (plant_written e p)
  unfolding read_sheet plant_written
  sheet_fills p end h =
      let (n, at, f, h) = then-got (field sheet 8 0) _ p end h in
      let (edition, h) = rule_got (eqb n e.number) 6 _ p end h in
      let (d, at', f', h) = then-got (field sheet 5 at) _ p end h in
      let (allowed, h) = rule_got (decisions_allowed e d) 7 _ p end h in
      let (s, at'', f'', h) = then-got (field sheet 6 at') _ p end h in
      let (few, h) = rule_got (leb s 32) 8 _ p end h in
      let (c, at''', f''', h) = then-got (field sheet 10 at'') _ p end h in
      let (short, h) = rule_got (leb c 512) 9 _ p end h in
      let (rows_are, states-are, clauses-are, rest) = body_fills d s c at''' p end h in
      field_fills 8 0 n at e.number _ f (sym (eqb-true n e.number edition))
      (field_fills 5 at d at' (length p.costs) _ f' rows_are
      (field_fills 6 at' s at'' (length p.states) _ f'' states-are
      (field_fills 10 at'' c at''' (length p.clauses) (body_written e p) f''' clauses-are rest)))

module _ (sheet : List ℕ) where
  -- bits that the sheet holds from its start up to its end are its bits
  holds-all : (bits : List ℕ) → Holds sheet 0 bits (8 * length sheet) → bits_of sheet ≡ bits
  holds-all bits h =
      let l : length bits ≡ 8 * length sheet = omega (arith, h.ends) in
      sym (take_all (8 * length sheet) (bits_of sheet) (omega (arith, bits_length sheet))) ∙ sym (bits-at sheet (8 * length sheet) 0 (omega arith)) ∙ (rw l at h.same)

  -- and packed they are the sheet
  fills_packed : (bits : List ℕ) → Below 256 sheet → Fills sheet 0 bits → packed ((length bits + 7) / 8) bits ≡ sheet
  fills_packed bits b f =
      let k : ℕ = (8 - f.last % 8) % 8 in
      let n : (length bits + 7) / 8 ≡ length sheet = omega (arith, f.held.ends, f.filler.ends, length-replicate {A = ℕ} k 0) in
      let all : bits_of sheet ≡ bits ++ replicate k 0 = holds-all (bits ++ replicate k 0) (holds-join bits (replicate k 0) f.held f.filler) in
      rw n (sym (packed-filler (length sheet) k bits) ∙ ap (packed (length sheet)) (sym all) ∙ bits-packed sheet b)

-- writing what was read returns the sheet's bytes
pub rewritten : (e : Edition) (sheet : List ℕ) (p : Plant) (end : ℕ) → Below 256 sheet → read_sheet e sheet ≡ got p end → sheet_of e p ≡ sheet
unfolding sheet_of
rewritten e sheet p end b h = fills_packed sheet (plant_written e p) b (sheet_fills e sheet p end h)

-- so a sheet has one form: two sheets that say the same are the same
pub one_form : (e : Edition) (s t : List ℕ) (p : Plant) (m n : ℕ) → Below 256 s → Below 256 t → read_sheet e s ≡ got p m → read_sheet e t ≡ got p n → s ≡ t
one_form e s t p m n a b g h = sym (rewritten e s p m a g) ∙ rewritten e t p n b h
