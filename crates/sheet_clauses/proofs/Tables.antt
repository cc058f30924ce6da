-- How the clauses stand in the tables of counts and literals. Assumes nothing.
use mathlib.Core.Path.{◌≡◌, refl, ap, ◌∙◌}
use mathlib.Core.List.{List, [], ◌∷◌, ◌++◌, append_assoc}
use Prim.Native.Nat.{ℕ, ◌+◌, ◌-◌, ◌*◌, ◌≤◌, ◌<◌}
use native.Mathlib.Omega.{arith}
use lib.ListN.{length, take, drop, set, length-drop, take-append-drop}
use lib.Seq.{take-append-le, drop-append-le, length-take-le, lt-length-set}
use borrow.Rule.Slice.PartMut.{put_mid}
use Rattle.model.specs.Tables.{literals, clauses, total}
use Rattle.theory.proofs.TableClauses.{literals-join}
use Rattle.readings.proofs.Tables.{take_write, given_back}

-- ---- literals

-- three bytes more are one literal more
pub literals-write : (lits : List ℕ) (i v s x : ℕ) → 3 * i + 2 < length lits
    → literals (take (3 * (i + 1)) (set (set (set lits (3 * i) v) (3 * i + 1) s) (3 * i + 2) x)) ≡ literals (take (3 * i) lits) ++ (record { variable = v; sign = s; value = x } ∷ [])
unfolding literals
literals-write lits i v s x h =
    let once = set lits (3 * i) v in
    let twice = set once (3 * i + 1) s in
    let one = take_write lits (3 * i) v (omega arith) in
    let two = take_write once (3 * i + 1) s (lt-length-set lits (3 * i) v (omega arith)) in
    let three = take_write twice (3 * i + 2) x (lt-length-set once (3 * i + 1) s (lt-length-set lits (3 * i) v h)) in
    let e : 3 * (i + 1) ≡ 3 * i + 2 + 1 = omega arith in
    let f : 3 * i + 2 ≡ 3 * i + 1 + 1 = omega arith in
    let all : take (3 * (i + 1)) (set twice (3 * i + 2) x) ≡ take (3 * i) lits ++ (v ∷ s ∷ x ∷ []) =
    ap (λ n. take n (set twice (3 * i + 2) x)) e ∙ three ∙ ap (λ n. take n twice ++ (x ∷ [])) f ∙ ap (λ l. l ++ (x ∷ [])) two
    ∙ ap (λ l. l ++ (s ∷ []) ++ (x ∷ [])) one ∙ simp append_assoc in
    rw all (literals-join i (take (3 * i) lits) (v ∷ s ∷ x ∷ []) (length-take-le (3 * i) lits (omega arith)))

-- ---- clauses

pub total_snoc : (counts : List ℕ) (n : ℕ) → total (counts ++ (n ∷ [])) ≡ total counts + n
unfolding total
total_snoc [] n = omega arith
total_snoc (k ∷ counts) n = omega (arith, total_snoc counts n)

-- clauses say nothing of bytes after theirs
clauses-front : (counts a b : List ℕ) → 3 * total counts ≤ length a → clauses counts (a ++ b) ≡ clauses counts a
unfolding clauses total
clauses-front [] a b h = refl
clauses-front (k ∷ counts) a b h =
    rw (take-append-le (3 * k) a b (omega arith), drop-append-le (3 * k) a b (omega arith), clauses-front counts (drop (3 * k) a) b (simp length-drop (omega arith)))

clauses_snoc : (counts a b : List ℕ) (n : ℕ) → length a ≡ 3 * total counts → clauses (counts ++ (n ∷ [])) (a ++ b) ≡ clauses counts a ++ (literals (take (3 * n) b) ∷ [])
unfolding clauses total
clauses_snoc [] [] b n h = refl
clauses_snoc [] (x ∷ a) b n h = absurd (omega arith)
clauses_snoc (k ∷ counts) a b n h =
    rw (take-append-le (3 * k) a b (omega arith), drop-append-le (3 * k) a b (omega arith), clauses_snoc counts (drop (3 * k) a) b n (simp length-drop (omega arith)))

-- one count more, with its literals after the others, is one clause more
pub clauses-write : (counts lits part : List ℕ) (i from n : ℕ) → i < length counts → from ≡ 3 * total (take i counts) → from ≤ length lits
    → clauses (take (i + 1) (set counts i n)) (put_mid from (length lits - from) lits part) ≡ clauses (take i counts) lits ++ (literals (take (3 * n) part) ∷ [])
clauses-write counts lits part i from n h e l =
    let front = length-take-le from lits l in
    let same : clauses (take i counts) lits ≡ clauses (take i counts) (take from lits) =
    rw take-append-drop at (clauses-front (take i counts) (take from lits) (drop from lits) (omega arith)) in
    rw (take_write counts i n h, given_back lits part from, same) (clauses_snoc (take i counts) (take from lits) part n (front ∙ e))
