-- Values that fit domains and extend assignments, place by place. Assumes nothing.
use mathlib.Core.Path.{◌≡◌, refl, sym, ◌∙◌, ap}
use mathlib.Core.Logic.{inl, inr, ◌↔◌}
use mathlib.Core.Bool.{false≢true}
use mathlib.Core.Option.{Option, none, some}
use mathlib.Core.List.{List, [], ◌∷◌, ◌++◌}
use Prim.Native.Nat.{ℕ, zero, suc, ◌<◌}
use native.Mathlib.Omega.{arith}
use lib.ListN.{length, get_or, set, replicate}
use Rattle.model.specs.Assignment.{Assignment, Fits, Under, Valid, Takes, Agree, value_list, full}
use Rattle.theory.specs.Digits.{Lex}
use Rattle.theory.specs.Nodes.{Filled}

-- ---- lengths

-- values that fit are as many as the domains
pub fits_length : (ss f : List ℕ) → Fits ss f → length f ≡ length ss
fits_length [] [] h = refl
fits_length [] (x ∷ f) h = absurd h
fits_length (s ∷ ss) [] h = absurd h
fits_length (s ∷ ss) (x ∷ f) h = ap suc (fits_length ss f h.1)

-- a valid assignment is as long as the domains are many
pub valid_length : (ss : List ℕ) (a : Assignment) → Valid ss a → length a ≡ length ss
valid_length [] [] h = refl
valid_length [] (o ∷ a) h = absurd h
valid_length (s ∷ ss) [] h = absurd h
valid_length (s ∷ ss) (o ∷ a) h = ap suc (valid_length ss a h.1)

-- values that extend an assignment are as many as its variables
pub agree_length : (f : List ℕ) (a : Assignment) → Agree f a → length f ≡ length a
agree_length [] [] h = refl
agree_length [] (o ∷ a) h = absurd h
agree_length (x ∷ f) [] h = absurd h
agree_length (x ∷ f) (o ∷ a) h = ap suc (agree_length f a h.1)

-- ---- at one place

-- a value that fits is below the size of its domain
pub fits-at : (ss f : List ℕ) (v : ℕ) → Fits ss f → v < length ss → get_or f v 0 < get_or ss v 0
fits-at [] f v h l = absurd (omega arith)
fits-at (s ∷ ss) [] v h l = absurd h
fits-at (s ∷ ss) (x ∷ f) zero h l = h.0
fits-at (s ∷ ss) (x ∷ f) (suc v) h l = fits-at ss f v h.1 (omega arith)

-- values that extend an assignment take its value where it has one
pub agree_at : (f : List ℕ) (a : Assignment) (v : ℕ) → Agree f a → Takes (get_or f v 0) (get_or a v none)
agree_at [] [] v h = tt
agree_at [] (o ∷ a) v h = absurd h
agree_at (x ∷ f) [] v h = absurd h
agree_at (x ∷ f) (o ∷ a) zero h = h.0
agree_at (x ∷ f) (o ∷ a) (suc v) h = agree_at f a v h.1

-- where they take a value, it may be set
pub agree-set : (f : List ℕ) (a : Assignment) (v : ℕ) (o : Option ℕ) → Agree f a → Takes (get_or f v 0) o → Agree f (set a v o)
agree-set [] [] v o h t = h
agree-set [] (d ∷ a) v o h t = absurd h
agree-set (x ∷ f) [] v o h t = absurd h
agree-set (x ∷ f) (d ∷ a) zero o h t = (t, h.1)
agree-set (x ∷ f) (d ∷ a) (suc v) o h t = (h.0, agree-set f a v o h.1 t)

-- a value that was set where there was none may be taken away again
pub agree-unset : (f : List ℕ) (a : Assignment) (v : ℕ) (o : Option ℕ) → get_or a v none ≡ none → Agree f (set a v o) → Agree f a
agree-unset f [] v o e h = h
agree-unset [] (d ∷ a) zero o e h = absurd h
agree-unset [] (d ∷ a) (suc v) o e h = absurd h
agree-unset (x ∷ f) (d ∷ a) zero o e h = (rw e tt, h.1)
agree-unset (x ∷ f) (d ∷ a) (suc v) o e h = (h.0, agree-unset f a v o e h.1)

-- a valid assignment stays valid when a variable is given a value of its domain, or none
pub valid-set : (ss : List ℕ) (a : Assignment) (v : ℕ) (o : Option ℕ) → Valid ss a → Under (get_or ss v 0) o → Valid ss (set a v o)
valid-set [] [] v o h u = h
valid-set [] (d ∷ a) v o h u = absurd h
valid-set (s ∷ ss) [] v o h u = absurd h
valid-set (s ∷ ss) (d ∷ a) zero o h u = (u, h.1)
valid-set (s ∷ ss) (d ∷ a) (suc v) o h u = (h.0, valid-set ss a v o h.1 u)

-- with more variables after it, none of them assigned, a valid assignment is valid
pub valid-over : (ss ts : List ℕ) (a : Assignment) → Valid ss a → Valid (ss ++ ts) (a ++ replicate (length ts) none)
valid-over [] [] [] h = tt
valid-over [] (t ∷ ts) [] h = (tt, valid-over [] ts [] tt)
valid-over [] ts (o ∷ a) h = absurd h
valid-over (s ∷ ss) ts [] h = absurd h
valid-over (s ∷ ss) ts (o ∷ a) h = (h.0, valid-over ss ts a h.1)

-- ---- full assignments

-- a full assignment has the values of its list
pub get_d_full : (f : List ℕ) (v : ℕ) → v < length f → get_or (full f) v none ≡ some (get_or f v 0)
get_d_full [] v l = absurd (omega arith)
get_d_full (x ∷ f) zero l = refl
get_d_full (x ∷ f) (suc v) l = get_d_full f v (omega arith)

-- the values of a list as a full assignment are the list
pub values-full : (f : List ℕ) → value_list (full f) ≡ f
values-full [] = refl
values-full (x ∷ f) = ap (λ (g : List ℕ). x ∷ g) (values-full f)

-- a list extends itself as a full assignment
pub full-agree : (f : List ℕ) → Agree f (full f)
full-agree [] = tt
full-agree (x ∷ f) = (refl, full-agree f)

-- and nothing else does
pub full-only : (f g : List ℕ) → Agree g (full f) → g ≡ f
full-only [] [] h = refl
full-only [] (y ∷ g) h = absurd h
full-only (x ∷ f) [] h = absurd h
full-only (x ∷ f) (y ∷ g) h = let e = h.0 in let r = full-only f g h.1 in cc

-- a list of values is valid as a full assignment exactly if it fits
pub full-valid : (ss f : List ℕ) → Valid ss (full f) ↔ Fits ss f
full-valid [] [] = ((λ h. h), λ h. h)
full-valid [] (x ∷ f) = ((λ h. h), λ h. h)
full-valid (s ∷ ss) [] = ((λ h. h), λ h. h)
full-valid (s ∷ ss) (x ∷ f) = let r = full-valid ss f in ((λ h. (h.0, r.0 h.1)), λ h. (h.0, r.1 h.1))

-- ---- filled up to a place

-- the next variable is assigned too
pub filled_more : (v : ℕ) (a : Assignment) (x : ℕ) → get_or a v none ≡ some x → Filled v a → Filled (suc v) a
filled_more v [] x e h = absurd (no_value e)
  where
    no_value : ◌≡◌ {A = Option ℕ} none (some x) → ⊥
    no_value e = let z : ◌≡◌ {A = ℕ} 0 1 = cc in omega arith
filled_more zero (o ∷ a) x e h = (rw e refl, tt)
filled_more (suc v) (o ∷ a) x e h = (h.0, filled_more v a x e h.1)

-- what is set from place v on leaves the first v variables as they are
pub filled-set : (v : ℕ) (a : Assignment) (o : Option ℕ) → Filled v a → Filled v (set a v o)
filled-set zero a o h = tt
filled-set (suc v) [] o h = h
filled-set (suc v) (d ∷ a) o h = (h.0, filled-set v a o h.1)

-- an assignment with all its variables assigned is a list of values
pub filled-all : (a : Assignment) → Filled (length a) a → (f : List ℕ) × (a ≡ full f)
filled-all [] h = ([], refl)
filled-all (none ∷ a) h = absurd (false≢true h.0)
filled-all (some x ∷ a) h = let r = filled-all a h.1 in (x ∷ r.0, ap (λ (b : Assignment). some x ∷ b) r.1)

-- two extensions of an assignment whose first v variables are assigned are ordered as their values at v are
pub lex_at : (v : ℕ) (a : Assignment) (f g : List ℕ) → v < length a → Filled v a → Agree f a → Agree g a → get_or f v 0 < get_or g v 0 → Lex f g
lex_at v [] f g l h p q d = absurd (omega arith)
lex_at v (o ∷ a) [] g l h p q d = absurd p
lex_at v (o ∷ a) (x ∷ f) [] l h p q d = absurd q
lex_at zero (o ∷ a) (x ∷ f) (y ∷ g) l h p q d = inl d
lex_at (suc v) (none ∷ a) (x ∷ f) (y ∷ g) l h p q d = absurd (false≢true h.0)
lex_at (suc v) (some z ∷ a) (x ∷ f) (y ∷ g) l h p q d = inr (p.0 ∙ sym q.0, lex_at v a f g (omega arith) h.1 p.1 q.1 d)
