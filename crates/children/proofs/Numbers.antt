-- A node's numbers: they tell its words, and those of a child follow from its parent's. Assumes nothing.
use mathlib.Core.Path.{◌≡◌, refl, sym, ap, ◌∙◌}
use mathlib.Core.Bool.{Bool, true}
use mathlib.Core.Option.{none, some}
use mathlib.Core.List.{List, [], ◌∷◌}
use Prim.Native.Nat.{ℕ, zero, suc, ◌+◌, ◌-◌, ◌*◌, ◌%◌, ◌^◌, ◌≤◌, ◌<◌}
use native.Mathlib.Omega.{arith}
use lib.Bits.{bit_and, bit_or, bit_xor}
use lib.ListN.{length, get_or, set, take, drop, length-map, length-set, get_or-map}
use lib.Seq.{get_or-take, get_or-drop, get_or-set_same, set-set}
use Rattle.model.specs.Lists.{All}
use Rattle.model.specs.Digits.{digits}
use Rattle.model.specs.Sheet.{Plant, edition_of, decision_sizes}
use Rattle.model.specs.Assignment.{Assignment, Fits, Under, Valid, mask_of, full, code}
use Rattle.model.specs.Order.{Order, join, figure_of, best, order_of}
use Rattle.theory.specs.Plant.{Accepted}
use Rattle.theory.specs.Tables.{rows}
use Rattle.theory.specs.Words.{Words, wide_of}
use Rattle.theory.proofs.Digits.{number_digit}
use Rattle.theory.proofs.Agreement.{fits_length, fits-at, valid_length, valid-set, values-full, full-valid}
use Rattle.theory.proofs.Bounds.{rest-fits, weight-at}
use Rattle.theory.proofs.Figures.{fits_below, others, figure-split, figure-set}
use Rattle.theory.proofs.Nodes.{best-fits}
use Rattle.theory.proofs.Tables.{rows_at}
use Rattle.theory.proofs.Value.{digit_preferred, edition-few, edition-weighed}
use Rattle.theory.proofs.Words.{valid-small}
use Rattle.theory.proofs.WordsSet.{assign_words, remove-words}
use Rattle.theory.proofs.Children.{all-at, best-at, best-set}
use Rattle.queue.specs.Order.{entry_of, mask_in, code_in, figure_in, Suits}
use Rattle.queue.proofs.EntryLaws.{mask-back, code-back, figure-back, state-words}
use Rattle.queue.proofs.Callers.{edition-suits}
use Rattle.children.specs.Children.{NodeIs, Free}
use Rattle.children.specs.declared.Node.{Node}
use Rattle.children.specs.declared.Choices.{Choices}

module _ (w : Bool) (p : Plant) (ok : Accepted (edition_of w) p) where
  -- what the queue asks of the order
  suits : Suits (decision_sizes p) (order_of (edition_of w) p)
  suits = edition-suits w p ok

  -- the order is that of the edition
  pub weighed-is : w ≡ (order_of (edition_of w) p).weighed
  unfolding order_of
  weighed-is = sym (edition-weighed w)

  -- a domain has at most sixteen values
  pub at_most : (v : ℕ) → get_or (decision_sizes p) v 0 ≤ 16
  at_most v = all-at (λ s. s ≤ 16) 0 (omega arith) (decision_sizes p) v suits.small

  -- an entry tells a node's numbers
  pub entry-is : (a b : ℕ) (n : Assignment) → Valid (decision_sizes p) n → (a, b) ≡ entry_of (order_of (edition_of w) p) n
      → NodeIs w p n (record { mask = mask_in b; code = code_in w (a, b); figure = figure_in w a })
  entry-is a b n v e =
      let o = order_of (edition_of w) p in
      let first : a ≡ (entry_of o n).0 = cc in
      let second : b ≡ (entry_of o n).1 = cc in
      record {
        accepted = ok;
        valid = v;
        mask_is = rw second (mask-back (decision_sizes p) o n suits v);
        code_is = ap (code_in w) e ∙ ap (λ (u : Bool). code_in u (entry_of o n)) weighed-is ∙ code-back (decision_sizes p) o n suits v;
        figure-is = ap (figure_in w) first ∙ ap (λ (u : Bool). figure_in u (entry_of o n).0) weighed-is ∙ figure-back (decision_sizes p) o n suits v;
      }

-- they tell its words: the values are the best state's code where the widened mask is set
pub words_are : {w : Bool} {p : Plant} {n : Assignment} {node : Node} → NodeIs w p n node → Words n node.mask (bit_and node.code (wide_of node.mask))
words_are {w} {p} {n} i = rw (i.code_is, i.mask_is) (state-words (decision_sizes p) (order_of (edition_of w) p) n (suits w p i.accepted) i.valid)

-- what the queue asks of a node's numbers
pub node-entry : {w : Bool} {p : Plant} {n : Assignment} {node : Node} → NodeIs w p n node → Suits (decision_sizes p) (order_of (edition_of w) p) × (w ≡ (order_of (edition_of w) p).weighed)
node-entry {w} {p} i = (suits w p i.accepted, weighed-is w p i.accepted)

-- ---- a child

-- a row of the table at its place
row_at : (sizes costs : List ℕ) (v x : ℕ) → v < length sizes → x < get_or sizes v 0 → x < 16 → get_or (get_or (rows sizes costs) v []) x 0 ≡ get_or costs (16 * v + x) 0
row_at sizes costs v x l h s =
    let row = drop (16 * v) costs in
    rw (rows_at sizes costs v l, get_or-take (get_or sizes v 0) (take 16 row) x 0 h, get_or-take 16 row x 0 s) (get_or-drop (16 * v) costs x 0)

-- one value of a full assignment is set
full-set : (f : List ℕ) (v x : ℕ) → set (full f) v (some x) ≡ full (set f v x)
full-set [] v x = refl
full-set (y ∷ f) zero x = refl
full-set (y ∷ f) (suc v) x = ap (λ (a : Assignment). some y ∷ a) (full-set f v x)

-- a nibble of a code is taken away and another put in its place
code-set : (f : List ℕ) (v x : ℕ) → length f ≤ 16 → All (Under 16) (full f) → v < length f → x < 16
    → bit_or (bit_xor (code f) (get_or (digits 16 16 (code f)) v 0 * 2 ^ (60 - 4 * v) % 2 ^ 64)) (x * 2 ^ (60 - 4 * v) % 2 ^ 64) ≡ code (set f v x)
code-set f v x s a l h =
    let long : v < length (full f) = rw (length-map f some) l in
    let w : Words (full f) (mask_of (full f)) (code f) = record { short = rw (length-map f some) s; small = a; mask_is = refl; values-is = sym (ap code (values-full f)) } in
    let r = remove-words (full f) (mask_of (full f)) (code f) w v long in
    (assign_words (set (full f) v none) _ _ r v (rw (length-set (full f) v none) long) x h (get_or-set_same (full f) v none none long)).values-is
    ∙ rw (set-set (full f) v none (some x), full-set f v x) (ap code (values-full (set f v x)))

module _ {choices : Choices} {p : Plant} {n : Assignment} {node : Node} {v : ℕ} (i : NodeIs choices.weighed p n node) (f : Free p n v choices) where
  abbrev w : Bool
  w = choices.weighed

  abbrev costs : List ℕ
  costs = choices.prices.now

  abbrev preferred : ℕ
  preferred = choices.preferred

  abbrev o : Order
  o = order_of (edition_of w) p

  -- the node's best state
  abbrev state : List ℕ
  state = best o.preferred n

  ok : Accepted (edition_of w) p
  ok = i.accepted

  domains : length (decision_sizes p) ≡ length p.costs
  domains = length-map p.costs length

  small : All (λ s. s ≤ 16) (decision_sizes p)
  small = (suits w p ok).small

  fits : Fits (decision_sizes p) state
  fits = best-fits (decision_sizes p) o.preferred n (suits w p ok).preferred i.valid

  -- a value in the domain is below 16
  below : (x : ℕ) → x < get_or (decision_sizes p) v 0 → x < 16
  below x h = omega (arith, at_most w p ok v)

  -- the preferred value is the best state's
  old-is : get_or (digits 16 16 preferred) v 0 ≡ get_or state v 0
  old-is =
      let full-long = fits_length (decision_sizes p) o.preferred (suits w p ok).preferred in
      digit_preferred w p ok preferred f.table.preferred-is v
      ∙ sym (best-at o.preferred n v (omega (arith, full-long, valid_length (decision_sizes p) n i.valid)) (omega (arith, valid_length (decision_sizes p) n i.valid, domains, f.within)) f.free)

  -- what the table says of a value
  price_is : (x : ℕ) → x < get_or (decision_sizes p) v 0 → get_or costs (16 * v + x) 0 ≡ get_or (get_or p.costs v []) x 0
  price_is x h = sym (ap (λ (r : List (List ℕ)). get_or (get_or r v []) x 0) f.table.rows_are ∙ row_at (decision_sizes p) costs v x (omega (arith, domains, f.within)) h (below x h))

  old-small : get_or (digits 16 16 preferred) v 0 < get_or (decision_sizes p) v 0
  old-small = rw old-is (fits-at (decision_sizes p) state v fits (omega (arith, domains, f.within)))

  old_price : get_or costs (16 * v + get_or (digits 16 16 preferred) v 0) 0 ≡ get_or (get_or p.costs v []) (get_or state v 0) 0
  old_price = price_is (get_or (digits 16 16 preferred) v 0) old-small ∙ ap (λ (x : ℕ). get_or (get_or p.costs v []) x 0) old-is

  state-long : length state ≡ length p.costs
  state-long = fits_length (decision_sizes p) state fits ∙ domains

  -- the figure of all variables but this one, which has room
  abbrev rest : ℕ
  rest = others w p.costs state v

  -- the node's figure is the replaced value's part and the rest
  figure-parts : node.figure ≡ join w (get_or costs (16 * v + get_or (digits 16 16 preferred) v 0) 0) rest
  unfolding order_of
  figure-parts = i.figure-is ∙ ap (λ (u : Bool). figure_of u p.costs state) (edition-weighed w) ∙ figure-split w p.costs state v state-long f.within ∙ ap (λ (c : ℕ). join w c rest) (sym old_price)

  rest-room : rest < 2 ^ 56
  rest-room = rest-fits w p ok state v state-long f.within

  -- with weights, what is read is from 1 to 255
  read-weight : (x : ℕ) → x < get_or (decision_sizes p) v 0 → w ≡ true → (1 ≤ get_or costs (16 * v + x) 0) × (get_or costs (16 * v + x) 0 < 256)
  read-weight x h e = rw (price_is x h) (weight-at w p ok e v x f.within (rw (get_or-map length p.costs v []) at h))

  -- a child's numbers, with the parts that were read from the table
  pub child-is : (x was will figure : ℕ) → x < get_or (decision_sizes p) v 0 → was ≡ get_or costs (16 * v + get_or (digits 16 16 preferred) v 0) 0 → will ≡ get_or costs (16 * v + x) 0
      → ((rest : ℕ) → node.figure ≡ join w was rest → (w ≡ true → (1 ≤ was) × (will < 256)) → rest < 2 ^ 56 → figure ≡ join w will rest)
      → NodeIs w p (set n v (some x)) (record {
        mask = bit_or node.mask (1 * 2 ^ (63 - v) % 2 ^ 64);
        code = bit_or (bit_xor node.code (get_or (digits 16 16 preferred) v 0 * 2 ^ (60 - 4 * v) % 2 ^ 64)) (x * 2 ^ (60 - 4 * v) % 2 ^ 64);
        figure = figure;
      })
  unfolding order_of
  child-is x was will figure h a b exchanged = record {
    accepted = ok;
    valid = valid-set (decision_sizes p) n v (some x) i.valid h;
    mask_is = (assign_words n node.mask _ (words_are i) v (omega (arith, valid_length (decision_sizes p) n i.valid, domains, f.within)) x (below x h) f.free).mask_is;
    code_is = rw (i.code_is, best-set o.preferred n v x, ← digit_is) (code-set state v x (omega (arith, state-long, edition-few w p ok)) (valid-small (decision_sizes p) (full state) small ((full-valid (decision_sizes p) state).1 fits)) (omega (arith, state-long, f.within)) (below x h));
    figure-is = rw (best-set o.preferred n v x) (exchanged rest (rw a figure-parts) (λ e. (rw a (read-weight _ old-small e).0, rw b (read-weight x h e).1)) rest-room ∙ figure-made);
  }
    where
      digit_is : get_or (digits 16 16 (code state)) v 0 ≡ get_or (digits 16 16 preferred) v 0
      digit_is = number_digit 16 16 v state (omega arith) (fits_below 16 (decision_sizes p) state small fits) (omega (arith, state-long, edition-few w p ok)) ∙ sym old-is

      figure-made : join w will rest ≡ figure_of (edition_of w).weighed p.costs (set state v x)
      figure-made = ap (λ (c : ℕ). join w c rest) (b ∙ price_is x h) ∙ sym (figure-set w p.costs state v x state-long f.within) ∙ ap (λ (u : Bool). figure_of u p.costs (set state v x)) (sym (edition-weighed w))
