-- Step 4 variable by variable: what holds when the first v have been passed, and what the next one adds. Assumes nothing.
use mathlib.Core.Path.{◌≡◌, refl, sym, ap, ◌∙◌}
use mathlib.Core.Bool.{Bool}
use mathlib.Core.Option.{Option as Maybe, none, some}
use mathlib.Core.List.{List, [], ◌∷◌, ◌++◌, append_assoc}
use Prim.Native.Nat.{ℕ, zero, suc, ◌+◌, ◌<◌}
use native.Mathlib.Omega.{arith}
use lib.ListN.{length, get_or, set, length-map}
use Rattle.std.proofs.Common.{Option, Some, None, Ok, Err}
use Rattle.model.specs.Lists.{values_from}
use Rattle.model.specs.Sheet.{edition_of, decision_sizes}
use Rattle.model.specs.Assignment.{Assignment, Under, Valid}
use Rattle.model.specs.Order.{order_of}
use Rattle.model.specs.Listing.{resolving}
use Rattle.theory.specs.Words.{Words}
use Rattle.theory.proofs.Children.{resolving_from, resolving-start, resolving-held, resolving-free, resolving-here}
use Rattle.children.specs.Children.{NodeIs, Tables, Free, Step, Puts, variants, member, Tells}
use Rattle.words.specs.declared.Pair.{Pair}
use Rattle.children.specs.declared.Node.{Node}
use Rattle.children.specs.declared.Choices.{Choices}
use Rattle.children.specs.declared.Full.{Full}
use Rattle.children.proofs.Numbers.{words_are}
use Rattle.children.proofs.Putting.{put-nothing, instead, onward, put-join, put-cut}
use Rattle.children.proofs.Walk.{count-is, long-is, free_of}

-- ---- one variable

-- a valid assignment's value is in its domain
valid-at : (ss : List ℕ) (a : Assignment) (v : ℕ) → Valid ss a → v < length ss → Under (get_or ss v 0) (get_or a v none)
valid-at [] a v h l = absurd (omega arith)
valid-at (s ∷ ss) [] v h l = absurd h
valid-at (s ∷ ss) (o ∷ a) zero h l = h.0
valid-at (s ∷ ss) (o ∷ a) (suc v) h l = valid-at ss a v h.1 (omega arith)

-- a value is wanted that the conflict has and the node has not
member_some : (o q : Maybe ℕ) (y : ℕ) → member o q ≡ some y → (o ≡ none) × (q ≡ some y)
member_some none q y e = (refl, e)
member_some (some x) q y e = let z : ◌≡◌ {A = ℕ} 0 1 = cc in absurd (omega arith)

-- ---- the variables passed

-- the first v variables have been passed: so many children are made, and the others are those of the node with the members among the first v at the conflict's values
pub record Midway {weighed : Bool} {node : Node} {queue : List ℕ} {n : ℕ} {store : List ℕ} {m : ℕ} (s : Step weighed node queue n store m) (c : Assignment) (v : ℕ) (passed : Node) (after : List ℕ) (entries : ℕ) : Type 0 where
  pub held : Assignment
  pub made : List Assignment
  pub is : NodeIs weighed s.plant held passed
  pub parts : resolving (decision_sizes s.plant) s.parent c ≡ made ++ resolving_from (decision_sizes s.plant) held c v
  pub put : Puts s made after (Ok entries)

module _ {weighed : Bool} {node : Node} {queue : List ℕ} {n : ℕ} {store : List ℕ} {m : ℕ} (s : Step weighed node queue n store m) (c : Assignment) (valid : Valid (decision_sizes s.plant) c) where
  -- none has been passed
  pub midway_start : Midway s c 0 node queue n
  midway_start = record { held = s.parent; made = []; is = s.is; parts = resolving-start (decision_sizes s.plant) s.parent c; put = put-nothing s }

  module _ {choices : Choices} (t : Tables s.plant choices) (v : ℕ) (passed : Node) (after : List ℕ) (entries : ℕ) (h : Midway s c v passed after entries) where
    module _ (e : length after ≡ length queue) (l : v < choices.decisions) where
      -- there are as many domains
      domains : length (decision_sizes s.plant) ≡ choices.decisions
      domains = length-map s.plant.costs length ∙ count-is t

      -- what the words stand for here
      abbrev pub here : Step weighed passed after entries store m
      here = instead (onward s h.made after entries e h.put) h.held passed h.is

      module _ (found : Option ℕ) (conflict : Pair) (w : Words c conflict.mask conflict.values)
          (told : (a b : Assignment) (others : ℕ) → Words a passed.mask others → Words b conflict.mask conflict.values → length a ≡ length b → v < length a → Tells found (member (get_or a v none) (get_or b v none))) where
        -- what `wanted` told
        told-here : Tells found (member (get_or h.held v none) (get_or c v none))
        told-here = told h.held c _ (words_are h.is) w (long-is t h.held h.is.valid ∙ sym (long-is t c valid)) (omega (arith, long-is t h.held h.is.valid))

        -- the variable is no unassigned member
        pub midway_skip : found ≡ None → Midway s c (v + 1) passed after entries
        midway_skip k = record { held = h.held; made = h.made; is = h.is; parts = h.parts ∙ ap (λ (l : List Assignment). h.made ++ l) (go (get_or h.held v none) (get_or c v none) refl refl (rw k at told-here)); put = h.put }
          where
            go : (o q : Maybe ℕ) → get_or h.held v none ≡ o → get_or c v none ≡ q → member o q ≡ none → resolving_from (decision_sizes s.plant) h.held c v ≡ resolving_from (decision_sizes s.plant) h.held c (v + 1)
            go (some x) q f g b = resolving-held (decision_sizes s.plant) h.held c v (omega (arith, domains)) (omega (arith, long-is t h.held h.is.valid)) (omega (arith, long-is t c valid)) x f
            go none none f g b = resolving-free (decision_sizes s.plant) h.held c v (omega (arith, domains)) (omega (arith, long-is t h.held h.is.valid)) (omega (arith, long-is t c valid)) f g
            go none (some x) f g b = let z : ◌≡◌ {A = ℕ} 0 1 = cc in absurd (omega arith)

        module _ (y : ℕ) (k : found ≡ Some y) where
          -- the node has no value and the conflict has y
          free-is : (get_or h.held v none ≡ none) × (get_or c v none ≡ some y)
          free-is = member_some (get_or h.held v none) (get_or c v none) y (rw k at told-here)

          -- the variable is one
          pub here-free : Free s.plant h.held v choices
          here-free = free_of t v l free-is.0

          -- its value is in the domain
          pub here-small : y < get_or (decision_sizes s.plant) v 0
          here-small = rw free-is.1 at (valid-at (decision_sizes s.plant) c v valid (omega (arith, domains)))

          -- the children left are its variants, and those of the node with it at the conflict's value
          parts-here : resolving (decision_sizes s.plant) s.parent c ≡ h.made ++ (variants h.held v (Some y) (values_from 0 (get_or (decision_sizes s.plant) v 0)) ++ resolving_from (decision_sizes s.plant) (set h.held v (some y)) c (v + 1))
          parts-here = h.parts ∙ ap (λ (l : List Assignment). h.made ++ l)
              (resolving-here (decision_sizes s.plant) h.held c v (omega (arith, domains)) (omega (arith, long-is t h.held h.is.valid)) (omega (arith, long-is t c valid)) y free-is.0 free-is.1)

          -- its children are put, and it takes the conflict's value
          pub midway_next : (next : Node) (last : List ℕ) (more : ℕ) → NodeIs weighed s.plant (set h.held v (some y)) next
              → Puts here (variants h.held v (Some y) (values_from 0 (get_or (decision_sizes s.plant) v 0))) last (Ok more) → Midway s c (v + 1) next last more
          midway_next next last more i p = record {
            held = set h.held v (some y);
            made = h.made ++ variants h.held v (Some y) (values_from 0 (get_or (decision_sizes s.plant) v 0));
            is = i;
            parts = parts-here ∙ sym (append_assoc h.made _ _);
            put = put-join (order_of (edition_of weighed) s.plant) s.conflicts s.rest h.made _ queue after last entries _ e h.put p;
          }

          -- or they are too many
          pub midway_full : (last : List ℕ) {full : Full} → Puts here (variants h.held v (Some y) (values_from 0 (get_or (decision_sizes s.plant) v 0))) last (Err full) → Puts s (resolving (decision_sizes s.plant) s.parent c) last (Err full)
          midway_full last p = rw parts-here
              (put-join (order_of (edition_of weighed) s.plant) s.conflicts s.rest h.made _ queue after last entries (Err _) e h.put (put-cut (order_of (edition_of weighed) s.plant) s.conflicts _ _ _ after last p))
