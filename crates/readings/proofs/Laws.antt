-- What the answers say of the readings that they stand for, and laws by which the readers' loops meet the model's readings. Assumes nothing.
use mathlib.Core.Path.{◌≡◌, refl, sym, ap, ◌∙◌}
use mathlib.Core.List.{List, [], ◌∷◌, ◌++◌, append-nil, append_assoc}
use Prim.Native.Nat.{ℕ, suc, ◌+◌, ◌-◌, ◌≤◌, ◌<◌, ◌^◌}
use native.Mathlib.Omega.{arith}
use native.Mathlib.Nat.{sub-zero}
use Rattle.model.specs.Sheet.{Read, refused, got, then, many, field}
use Rattle.theory.proofs.Sheet.{field-got}
use Rattle.std.specs.Prelude.{Option, Some, None, Result, Ok, Err, IfOk, IsErrAnd}
use Rattle.std.specs.Option.{ok_or}
use Rattle.bits.specs.Field.{field_of}
use Rattle.refusal.specs.declared.AuthorGround.{AuthorGround}
use Rattle.refusal.specs.Refusal.{author_number}
use Rattle.readings.specs.Answers.{read_of}

-- ---- what an answer says of the reading that it stands for

-- the exit of a `?`: the ground on which one reading was refused is that of the whole
pub refused_as : {A B : Type 0} (a : B → A) (place : ℕ) (g : AuthorGround) {x : Read A} (r : Result B AuthorGround) → IsErrAnd r (λ y. y ≡ g) → x ≡ refused (author_number g) → read_of a place r ≡ x
refused_as a place g (Ok b) e h = absurd e
refused_as a place g (Err y) e h = ap (λ g. refused (author_number g)) e ∙ sym h

-- a field of w bits is below 2 ^ w, where `?` goes on with it
pub below : (sheet : List ℕ) (w place after : ℕ) (g : AuthorGround) (r : Option ℕ) (q : Result ℕ AuthorGround) → q ≡ ok_or r g → field_of after r ≡ field sheet w place → IfOk q (λ n. n < 2 ^ w)
below sheet w place after g (Some n) q e h = rw e (field-got sheet w place n after (sym h)).0
below sheet w place after g None q e h = rw e tt

-- ---- a loop of n readings of one kind

-- after i of n readings, which gave xs: the whole is xs and what the readings that are left give, from a place on
pub record Reading {A : Type 0} (item : ℕ → Read A) (whole : Read (List A)) (n i : ℕ) (xs : List A) (place : ℕ) : Type 0 where
  pub left : whole ≡ then (many item (n - i) place) (λ others end. got (xs ++ others) end)

module _ {A : Type 0} {item : ℕ → Read A} where
  pub begin : (n place : ℕ) → Reading item (many item n place) n 0 [] place
  unfolding then
  begin n place = record { left = rw (sub-zero n) (go (many item n place)) }
    where
      go : (r : Read (List A)) → r ≡ then r (λ others end. got others end)
      go (refused k) = refl
      go (got xs end) = refl

  -- one turn: what is read goes to the end of what has been read
  pub turn : {whole : Read (List A)} {n i : ℕ} {xs ys : List A} {a : A} {place after : ℕ}
      → Reading item whole n i xs place → i < n → item place ≡ got a after → ys ≡ xs ++ (a ∷ []) → Reading item whole n (i + 1) ys after
  unfolding then many
  turn {n = n} {i = i} {xs = xs} {a = a} {after = after} r l h e =
      let m : ℕ = n - (i + 1) in
      let more : n - i ≡ suc m = omega arith in
      record { left = r.left ∙ rw (more, h, e) (go (many item m after)) }
    where
      go : (r : Read (List A)) → then (then r (λ others end. got (a ∷ others) end)) (λ others end. got (xs ++ others) end) ≡ then r (λ others end. got (xs ++ (a ∷ []) ++ others) end)
      go (refused k) = refl
      go (got others end) = rw (append_assoc xs (a ∷ []) others)

  -- a refusal ends the readings
  pub stop : {whole : Read (List A)} {n i : ℕ} {xs : List A} {place k : ℕ} → Reading item whole n i xs place → i < n → item place ≡ refused k → whole ≡ refused k
  unfolding then many
  stop {n = n} {i = i} r l h = let more : n - i ≡ suc (n - (i + 1)) = omega arith in r.left ∙ rw (more, h)

  -- all have been read
  pub done : {whole : Read (List A)} {n i : ℕ} {xs : List A} {place : ℕ} → Reading item whole n i xs place → n ≤ i → whole ≡ got xs place
  unfolding then many
  done {n = n} {i = i} {xs = xs} r l = let none_left : n - i ≡ 0 = omega arith in r.left ∙ rw (none_left, append-nil xs)
