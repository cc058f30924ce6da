-- The decision variables and the state variables, one after the other in one table of sizes. Assumes nothing.
use mathlib.Core.Path.{◌≡◌, refl, sym, ap, ◌∙◌}
use mathlib.Core.List.{List, map}
use Prim.Native.Nat.{ℕ, ◌≤◌}
use lib.ListN.{length, take, drop}
use lib.Seq.{length-take-le, take_at, drop_at}
use borrow.Rule.Slice.PartMut.{put_mid, take_put}
use Rattle.model.specs.Sheet.{refused, got, many, Edition, read_decision, read_state, read_body}
use Rattle.theory.specs.Tables.{rows}
use Rattle.readings.specs.Answers.{read_of}
use Rattle.std.specs.Prelude.{Result, Ok, Err, IfOk}
use Rattle.refusal.specs.declared.AuthorGround.{AuthorGround}
use Rattle.readings.proofs.Ways.{on, halt}
use Rattle.sheet_variables.specs.Rest.{read_rest, rest_of}

module _ (e : Edition) (sheet : List ℕ) (d s c place : ℕ) where
  pub no_decisions_lem : {n : ℕ} → many (read_decision e sheet) d place ≡ refused n → read_body e sheet d s c place ≡ refused n
  unfolding read_body
  no_decisions_lem h = halt _ h

  states-next : (costs : List (List ℕ)) (states : List ℕ) (after end : ℕ) (r : Result Unit AuthorGround) → many (read_decision e sheet) d place ≡ got costs after
      → read_of (λ _. states) end r ≡ many (read_state sheet) s after → rest_of sheet c costs states end r ≡ read_body e sheet d s c place
  unfolding read_body read_rest
  states-next costs states after end (Ok done) h g = sym (on _ h (on _ (sym g) refl))
  states-next costs states after end (Err ground) h g = sym (on _ h (halt _ (sym g)))

  -- the states went into the part of the sizes that comes after the decision variables'
  module _ (sizes costs part : List ℕ) (after end k : ℕ) (r : Result Unit AuthorGround) (room : d ≤ length sizes) (full : length part ≡ s) where
    front : take d (put_mid d k sizes part) ≡ take d sizes
    front = take_put d k sizes part room

    back : take s (drop d (put_mid d k sizes part)) ≡ part
    back = ap (take s) (drop_at (take d sizes) _ d (length-take-le d sizes room)) ∙ take_at part _ s full

    pub variables-read : many (read_decision e sheet) d place ≡ got (rows (take d sizes) costs) after → read_of (λ _. part) end r ≡ many (read_state sheet) s after
        → rest_of sheet c (rows (take d (put_mid d k sizes part)) costs) (take s (drop d (put_mid d k sizes part))) end r ≡ read_body e sheet d s c place
    variables-read h g = rw (front, back) (states-next (rows (take d sizes) costs) part after end r h g)

    pub variables-known : map length (rows (take d sizes) costs) ≡ take d sizes → IfOk r (λ _. map length (rows (take d (put_mid d k sizes part)) costs) ≡ take d (put_mid d k sizes part))
    variables-known l = go r
      where
        go : (r : Result Unit AuthorGround) → IfOk r (λ _. map length (rows (take d (put_mid d k sizes part)) costs) ≡ take d (put_mid d k sizes part))
        go (Ok done) = rw front l
        go (Err ground) = tt
