-- Of conflicts of which none contains another the first that is related to a new one settles what the new one makes of them. Assumes nothing.
use mathlib.Core.Path.{◌≡◌, refl, sym, ap, ◌∙◌}
use mathlib.Core.Bool.{Bool, true, false, not, false≢true}
use mathlib.Core.List.{List, [], ◌∷◌, ◌++◌}
use Prim.Native.Nat.{ℕ, ◌<◌}
use native.Mathlib.Omega.{arith}
use native.Mathlib.Nat.{add-zero}
use lib.ListN.{length, get_or, take, drop, take-append-drop, length-drop}
use lib.Seq.{get_or-drop}
use Rattle.model.specs.Lists.{All, Pairs, keep, any_of}
use Rattle.model.specs.Assignment.{Assignment}
use Rattle.model.specs.Conflict.{manifests}
use Rattle.model.specs.Listing.{manifests_any}
use Rattle.theory.specs.Store.{Neither, related, admitted}
use Rattle.theory.proofs.Lists.{all_map, all_right, pairs-right, or_neither, keep_all}
use Rattle.theory.proofs.Children.{keep_join}
use Rattle.theory.proofs.Store.{any_fails, fails_any, manifests_trans}
use Rattle.store.proofs.Scan.{any_split, any_one}

-- of conflicts of which none contains another, where c is related to the first and does not contain it, c contains none
none-behind : (c : Assignment) (ss : List Assignment) → All (λ s. length s ≡ length c) ss → Pairs Neither ss → (0 < length ss → related c (get_or ss 0 []) ≡ true)
    → any_of (manifests c) (take 1 ss) ≡ false → manifests_any ss c ≡ false
none-behind c [] long p first e = refl
none-behind c (s ∷ ss) long p first e =
    let not_it : manifests c s ≡ false = sym (any_one (manifests c) (s ∷ ss) [] 0 (omega arith)) ∙ e in
    let contains_it : manifests s c ≡ true = rw not_it at (first (omega arith)) in
    fails_any (manifests c) (s ∷ ss) (not_it, all_map (λ t n. go t n.0 (manifests_trans s c t long.0 contains_it) (manifests c t) refl) ss p.0)
  where
    go : (t : Assignment) → manifests s t ≡ false → (manifests c t ≡ true → manifests s t ≡ true) → (b : Bool) → manifests c t ≡ b → manifests c t ≡ false
    go t n through true e = absurd (false≢true (sym n ∙ through e))
    go t n through false e = e

module _ (conflicts : List Assignment) (c : Assignment) (i : ℕ) (before : any_of (related c) (take i conflicts) ≡ false) where
  -- none of the first i contains it or is contained in it
  unrelated : All (Neither c) (take i conflicts)
  unrelated = all_map (λ s. or_neither (manifests c s) (manifests s c)) (take i conflicts) (any_fails (related c) (take i conflicts) before)

  -- so it contains one of all exactly if it contains one from place i on
  any_behind : manifests_any conflicts c ≡ manifests_any (drop i conflicts) c
  any_behind = any_split (manifests c) i conflicts ∙ rw (fails_any (manifests c) (take i conflicts) (all_map (λ s n. n.0) (take i conflicts) unrelated))

  -- and those that do not contain it are the first i and those from place i on
  keep-behind : keep (λ s. not (manifests s c)) conflicts ≡ take i conflicts ++ keep (λ s. not (manifests s c)) (drop i conflicts)
  keep-behind =
      ap (keep (λ s. not (manifests s c))) (sym (take-append-drop i conflicts))
      ∙ keep_join (λ s. not (manifests s c)) (take i conflicts) (drop i conflicts)
      ∙ rw (keep_all (λ s. not (manifests s c)) (take i conflicts) (all_map (λ s n. ap not n.1) (take i conflicts) unrelated))

  -- where it contains the one at place i it is dropped
  pub admitted-dropped : any_of (manifests c) (take 1 (drop i conflicts)) ≡ true → admitted conflicts c ≡ conflicts
  admitted-dropped e =
      let one : manifests_any (drop i conflicts) c ≡ true = any_split (manifests c) 1 (drop i conflicts) ∙ rw e in
      rw (admitted, any_behind ∙ one)

  -- where it does not, and it is related to the one at place i if there is one, it is put behind those that do not contain it
  pub admitted-put : All (λ s. length s ≡ length c) conflicts → Pairs Neither conflicts → (i < length conflicts → related c (get_or conflicts i []) ≡ true)
      → any_of (manifests c) (take 1 (drop i conflicts)) ≡ false
      → admitted conflicts c ≡ take i conflicts ++ keep (λ s. not (manifests s c)) (drop i conflicts) ++ (c ∷ [])
  admitted-put long p first e =
      let whole = take-append-drop i conflicts in
      let here : 0 < length (drop i conflicts) → related c (get_or (drop i conflicts) 0 []) ≡ true = λ h. rw (get_or-drop i conflicts 0 [], add-zero i) (first (omega (arith, length-drop i conflicts))) in
      let no = none-behind c (drop i conflicts) (all_right _ (take i conflicts) (drop i conflicts) (rw whole long)) (pairs-right Neither (take i conflicts) (drop i conflicts) (rw whole p)) here e in
      rw (admitted, any_behind ∙ no, keep-behind)

-- where none is related to it, it is put behind them
pub admitted-unrelated : (conflicts : List Assignment) (c : Assignment) → any_of (related c) conflicts ≡ false → admitted conflicts c ≡ conflicts ++ (c ∷ [])
admitted-unrelated conflicts c none =
    let apart = all_map (λ s. or_neither (manifests c s) (manifests s c)) conflicts (any_fails (related c) conflicts none) in
    rw (
      admitted,
      fails_any (manifests c) conflicts (all_map (λ s n. n.0) conflicts apart),
      keep_all (λ s. not (manifests s c)) conflicts (all_map (λ s n. ap not n.1) conflicts apart),
    )
