-- Laws of numbers by their digits, over the base and the number of places. Assumes nothing.
use mathlib.Core.Path.{◌≡◌, refl, sym, ap, ap₂, ◌∙◌}
use mathlib.Core.Logic.{◌⊎◌, inl, inr, ◌↔◌}
use mathlib.Core.Bool.{◌&&◌}
use mathlib.Core.List.{List, [], ◌∷◌, ◌++◌, append-nil}
use Prim.Native.Nat.{ℕ, zero, suc, ◌+◌, ◌-◌, ◌*◌, ◌/◌, ◌%◌, ◌^◌, ◌≤◌, ◌<◌}
use native.Mathlib.Omega.{arith}
use native.Mathlib.Nat.{one-le-pow, mul-mod_left, pow-succ', pow-zero, mul_assoc, add-mul, zero-mul, suc-mul, mul-add-div_right, mul-add-mod_self_right, mod-lt, mod-one, mod-eq_of_lt, sub-zero, suc-sub-suc, zero-div, zero-mod, zero-add, suc-add, lt_irrefl, div-div-eq-div-mul}
use native.Mathlib.Numerals.{add-one}
use native.Mathlib.Decide.{dec_lt}
use lib.Seq.{drop-cons}
use lib.Arith.{digits_lt, digits_div, mod-mul}
use lib.Pow.{pow-add}
use lib.Dec.{eqb, eqb-suc-zero}
use lib.ListN.{length, get_or, take, drop, set, replicate}
use borrow.Author.Tests.{ne_eqb}
use Rattle.model.specs.Digits.{number, digits}
use Rattle.model.specs.Assignment.{all_zero}
use Rattle.theory.specs.Digits.{horner, Below, Lex}

-- a power of a positive base is positive
pow_pos : (b k : ℕ) → 0 < b → 0 < b ^ k
pow_pos b k h = one-le-pow k b h

-- there are k digits at k places
pub digits_length : (b k n : ℕ) → length (digits b k n) ≡ k
unfolding digits
digits_length b zero n = refl
digits_length b (suc k) n = ap suc (digits_length b k n)

-- the digit at a place, by a division and a remainder
pub digit_at : (b k v j n : ℕ) → k ≡ suc (v + j) → get_or (digits b k n) v 0 ≡ n / b ^ j % b
unfolding digits
digit_at b zero v j n e = absurd (omega arith)
digit_at b (suc k) zero j n e = let f : k ≡ j = omega arith in rw f
digit_at b (suc k) (suc v) j n e = digit_at b k v j n (omega arith)

-- each digit is below the base
pub digits-below : (b k n : ℕ) → 0 < b → Below b (digits b k n)
unfolding digits
digits-below b zero n h = tt
digits-below b (suc k) n h = (mod-lt (n / b ^ k) h, digits-below b k n h)

-- so is each element of a list of digits
pub below_at : (b : ℕ) (ds : List ℕ) (v : ℕ) → 0 < b → Below b ds → get_or ds v 0 < b
below_at b [] v h l = h
below_at b (d ∷ ds) zero h l = l.0
below_at b (d ∷ ds) (suc v) h l = below_at b ds v h l.1

-- a number without digits is zero
pub number_nil : (b k : ℕ) → number b k [] ≡ 0
unfolding number
number_nil b zero = refl
number_nil b (suc k) = refl

-- a number of k places is below the k-th power of its base
pub number-below : (b k : ℕ) (ds : List ℕ) → 0 < b → Below b ds → number b k ds < b ^ k
unfolding number
number-below b zero ds h l = rw (pow-zero b) (omega arith)
number-below b (suc k) [] h l = pow_pos b (suc k) h
number-below b (suc k) (d ∷ ds) h l = rw (pow-succ' b k) (digits_lt l.0 (number-below b k ds h l.1))

-- a multiple of the k-th power leaves the k lowest digits as they are
pub digits_low : (b k q r : ℕ) → 0 < b → digits b k (q * b ^ k + r) ≡ digits b k r
unfolding digits
digits_low b zero q r h = refl
digits_low b (suc k) q r h =
    let e : q * b ^ suc k + r ≡ q * b * b ^ k + r = rw (pow-succ' b k, mul_assoc q b (b ^ k)) in
    let top : (q * b * b ^ k + r) / b ^ k % b ≡ r / b ^ k % b = rw (mul-add-div_right (pow_pos b k h) (q * b) r, mul-add-mod_self_right q b (r / b ^ k)) in
    let low = digits_low b k (q * b) r h in
    rw e (ap₂ (λ (x : ℕ) (xs : List ℕ). x ∷ xs) top low)

-- the digits of zero are zeros
pub digits-zero : (b k : ℕ) → digits b k 0 ≡ replicate k 0
unfolding digits
digits-zero b zero = refl
digits-zero b (suc k) = ap₂ (λ (x : ℕ) (xs : List ℕ). x ∷ xs) (ap (λ (x : ℕ). x % b) (zero-div (b ^ k)) ∙ zero-mod b) (digits-zero b k)

-- the digits of a number made of digits: those, then zeros
pub digits_number : (b k : ℕ) (ds : List ℕ) → 0 < b → Below b ds → length ds ≤ k → digits b k (number b k ds) ≡ ds ++ replicate (k - length ds) 0
unfolding number digits
digits_number b zero [] h l s = refl
digits_number b zero (d ∷ ds) h l s = absurd (omega arith)
digits_number b (suc k) [] h l s = rw (sub-zero (suc k)) (digits-zero b (suc k))
digits_number b (suc k) (d ∷ ds) h l s =
    let r : number b k ds < b ^ k = number-below b k ds h l.1 in
    rw (digits_div d r, mod-eq_of_lt l.0, digits_low b k d (number b k ds) h, digits_number b k ds h l.1 (omega arith), suc-sub-suc k (length ds))

-- the digits of a number made of as many digits are those
pub digits-made : (b k : ℕ) (ds : List ℕ) → 0 < b → Below b ds → length ds ≡ k → digits b k (number b k ds) ≡ ds
digits-made b k ds h l e =
    let none_left : k - length ds ≡ 0 = omega arith in
    rw (digits_number b k ds h l (omega arith), none_left) (append-nil ds)

-- the digits of a number in two parts: those of the one, then those of the other
pub digits-join : (b w v x y : ℕ) → 0 < b → y < b ^ v → digits b (w + v) (x * b ^ v + y) ≡ digits b w x ++ digits b v y
unfolding digits
digits-join b zero v x y h l = rw (zero-add v) (digits_low b v x y h)
digits-join b (suc w) v x y h l =
    let e : w + v ≡ v + w = omega arith in
    let top : (x * b ^ v + y) / b ^ (w + v) ≡ x / b ^ w = rw (e, pow-add b v w, ← div-div-eq-div-mul (x * b ^ v + y) (b ^ v) (b ^ w), digits_div x l) in
    rw (suc-add w v, digits, top, digits-join b w v x y h l)

-- a number has no digits past its k places
pub number-first : (b k : ℕ) (ds : List ℕ) → number b k (take k ds) ≡ number b k ds
unfolding number
number-first b zero ds = refl
number-first b (suc k) [] = refl
number-first b (suc k) (d ∷ ds) = rw (number-first b k ds)

-- and is the same where the digits are, zeros behind them or not
pub number_same : (b k : ℕ) (xs ys : List ℕ) → ((v : ℕ) → get_or xs v 0 ≡ get_or ys v 0) → number b k xs ≡ number b k ys
unfolding number
number_same b zero xs ys h = refl
number_same b (suc k) [] [] h = refl
number_same b (suc k) [] (y ∷ ys) h =
    let first : 0 ≡ y = h 0 in
    rw (← first, ← number_same b k [] ys (λ v. h (suc v)), number_nil b k) (omega (arith, zero-mul (b ^ k)))
number_same b (suc k) (x ∷ xs) [] h =
    let first : x ≡ 0 = h 0 in
    rw (first, number_same b k xs [] (λ v. h (suc v)), number_nil b k) (omega (arith, zero-mul (b ^ k)))
number_same b (suc k) (x ∷ xs) (y ∷ ys) h =
    let first : x ≡ y = h 0 in
    rw (first, number_same b k xs ys (λ v. h (suc v)))

-- a number of zeros is zero
pub number-zeros : (b k n : ℕ) → number b k (replicate n 0) ≡ 0
unfolding number
number-zeros b zero n = refl
number-zeros b (suc k) zero = refl
number-zeros b (suc k) (suc n) = omega (arith, zero-mul (b ^ k), number-zeros b k n)

-- zeros behind digits, or none there, make no difference
pub zero-at : (n v : ℕ) → get_or {A = ℕ} (replicate n 0) v 0 ≡ 0
zero-at zero v = refl
zero-at (suc n) zero = refl
zero-at (suc n) (suc v) = zero-at n v

pub zeros-behind : (ds : List ℕ) (n v : ℕ) → get_or (ds ++ replicate n 0) v 0 ≡ get_or ds v 0
zeros-behind [] n v = zero-at n v
zeros-behind (d ∷ ds) n zero = refl
zeros-behind (d ∷ ds) n (suc v) = zeros-behind ds n v

-- a digit of a number made of digits, zero behind them
pub number_digit : (b k v : ℕ) (ds : List ℕ) → 0 < b → Below b ds → length ds ≤ k → get_or (digits b k (number b k ds)) v 0 ≡ get_or ds v 0
number_digit b k v ds h l s = rw (digits_number b k ds h l s) (zeros-behind ds (k - length ds) v)

-- what a number keeps of its k lowest places when all digits from place v on are taken as zeros
pub number_take : (b k v n : ℕ) → 0 < b → v ≤ k → number b k (take v (digits b k n)) + n % b ^ (k - v) ≡ n % b ^ k
unfolding number digits
number_take b k zero n h l = rw (number_nil b k, sub-zero k) (omega arith)
number_take b zero (suc v) n h l = absurd (omega arith)
number_take b (suc k) (suc v) n h l =
    rw (suc-sub-suc k v, pow-succ' b k, mod-mul n h (pow_pos b k h)) (omega (arith, number_take b k v n h (omega arith)))

-- a number below the k-th power is made of its k digits
pub number_digits : (b k n : ℕ) → 0 < b → n < b ^ k → number b k (digits b k n) ≡ n
unfolding number digits
number_digits b k n h l = number-all b k n h ∙ mod-eq_of_lt l
  where
    number-all : (b k n : ℕ) → 0 < b → number b k (digits b k n) ≡ n % b ^ k
    number-all b zero n h = rw (pow-zero b) (sym (mod-one n))
    number-all b (suc k) n h = rw (pow-succ' b k, mod-mul n h (pow_pos b k h), number-all b k n h)

-- a sum whose first part is a multiple of a positive number is zero exactly when both parts are
both_zero : (x y p : ℕ) → 0 < p → (eqb x 0 && eqb y 0) ≡ eqb (x * p + y) 0
both_zero zero y p h = rw (zero-mul p, zero-add y)
both_zero (suc x) y p h = rw (eqb-suc-zero x) (sym (ne_eqb (suc x * p + y) 0 (λ e. omega (arith, suc-mul x p))))

-- all k digits are zero exactly when the number below the k-th power is
zero-all : (b k n : ℕ) → 0 < b → all_zero (digits b k n) ≡ eqb (n % b ^ k) 0
unfolding digits
zero-all b zero n h = rw (pow-zero b, mod-one n)
zero-all b (suc k) n h = rw (zero-all b k n h, pow-succ' b k, mod-mul n h (pow_pos b k h)) (both_zero (n / b ^ k % b) (n % b ^ k) (b ^ k) (pow_pos b k h))

-- all digits from place v on are zero exactly when what is left below that place is zero
pub zero-from : (b k v n : ℕ) → 0 < b → v ≤ k → all_zero (drop v (digits b k n)) ≡ eqb (n % b ^ (k - v)) 0
unfolding digits
zero-from b k zero n h l = rw (sub-zero k) (zero-all b k n h)
zero-from b zero (suc v) n h l = absurd (omega arith)
zero-from b (suc k) (suc v) n h l = rw (suc-sub-suc k v) (zero-from b k v n h (omega arith))

-- a digit is set: the number changes by the digit's weight
pub number-set : (b k v j x : ℕ) (ds : List ℕ) → k ≡ suc (v + j) → v < length ds
    → number b k (set ds v x) + get_or ds v 0 * b ^ j ≡ number b k ds + x * b ^ j
unfolding number
number-set b zero v j x ds e l = absurd (omega arith)
number-set b (suc k) v j x [] e l = absurd (omega arith)
number-set b (suc k) zero j x (d ∷ ds) e l = let f : k ≡ j = omega arith in rw f (omega arith)
number-set b (suc k) (suc v) j x (d ∷ ds) e l = omega (arith, number-set b k v j x ds (omega arith) (omega arith))

-- the first digit and the rest of a number
pub number-split : (b k v j : ℕ) (ds : List ℕ) → k ≡ suc j → v < length ds → number b k (drop v ds) ≡ get_or ds v 0 * b ^ j + number b j (drop (v + 1) ds)
unfolding number
number-split b k v j ds e l = rw (add-one, drop-cons ds v 0, e)

-- numbers of equally many digits are ordered as their digits are
pub lex_less : (b k : ℕ) (xs ys : List ℕ) → 0 < b → Below b xs → Below b ys → length xs ≡ length ys → length xs ≤ k → Lex xs ys → number b k xs < number b k ys
unfolding number
lex_less b k [] ys h p q e s l = absurd l
lex_less b k (x ∷ xs) [] h p q e s l = absurd l
lex_less b zero (x ∷ xs) (y ∷ ys) h p q e s l = absurd (omega arith)
lex_less b (suc k) (x ∷ xs) (y ∷ ys) h p q e s (inl l) = omega (arith, digits_lt l (number-below b k xs h p.1))
lex_less b (suc k) (x ∷ xs) (y ∷ ys) h p q e s (inr l) = rw l.0 (omega (arith, lex_less b k xs ys h p.1 q.1 (omega arith) (omega arith) l.1))

-- Horner's rule, which takes the digits in from the top one after another, gives the same number at the lowest places
pub horner-number : (b k n : ℕ) (ds : List ℕ) → length ds ≤ k → number b k ds + n * b ^ k ≡ horner b n ds * b ^ (k - length ds)
unfolding number horner
horner-number b k n [] h = rw (number_nil b k, sub-zero k) (zero-add (n * b ^ k))
horner-number b zero n (d ∷ ds) h = absurd (omega arith)
horner-number b (suc k) n (d ∷ ds) h =
    let e : n * b ^ suc k ≡ n * b * b ^ k = rw (pow-succ' b k) (sym (mul_assoc n b (b ^ k))) in
    rw (suc-sub-suc k (length ds), e) (omega (arith, horner-number b k (n * b + d) ds (omega arith), add-mul (n * b) d (b ^ k)))

-- a number of few digits at many places ends in zeros
pub number-low : (b k j : ℕ) (ds : List ℕ) → length ds + j ≤ k → number b k ds % b ^ j ≡ 0
number-low b k j ds short =
    let parts : b ^ (k - length ds) ≡ b ^ (k - length ds - j) * b ^ j = ap (λ (i : ℕ). b ^ i) (omega arith) ∙ pow-add b (k - length ds - j) j in
    let whole : number b k ds ≡ horner b 0 ds * b ^ (k - length ds - j) * b ^ j =
    omega (arith, horner-number b k 0 ds (omega arith), zero-mul (b ^ k)) ∙ ap (λ (i : ℕ). horner b 0 ds * i) parts ∙ sym (mul_assoc (horner b 0 ds) (b ^ (k - length ds - j)) (b ^ j)) in
    rw whole (mul-mod_left (horner b 0 ds * b ^ (k - length ds - j)) (b ^ j))

-- of two numbers one is less, or they are equal
pub trichotomy : (x y : ℕ) → (x < y) ⊎ ((x ≡ y) ⊎ (y < x))
trichotomy x y = elim (dec_lt x y) [ yes h ↦ inl h | no h ↦ elim (dec_lt y x) [ yes k ↦ inr (inr k) | no k ↦ inr (inl (omega arith)) ] ]

-- of two lists of equal length one comes first, or they are equal
lex_total : (xs ys : List ℕ) → length xs ≡ length ys → Lex xs ys ⊎ ((xs ≡ ys) ⊎ Lex ys xs)
lex_total [] [] e = inr (inl refl)
lex_total [] (y ∷ ys) e = absurd (omega arith)
lex_total (x ∷ xs) [] e = absurd (omega arith)
lex_total (x ∷ xs) (y ∷ ys) e = go (trichotomy x y) (lex_total xs ys (omega arith))
  where
    go : (x < y) ⊎ ((x ≡ y) ⊎ (y < x)) → Lex xs ys ⊎ ((xs ≡ ys) ⊎ Lex ys xs) → Lex (x ∷ xs) (y ∷ ys) ⊎ ((x ∷ xs ≡ y ∷ ys) ⊎ Lex (y ∷ ys) (x ∷ xs))
    go (inl l) t = inl (inl l)
    go (inr (inr l)) t = inr (inr (inl l))
    go (inr (inl d)) (inl t) = inl (inr (d, t))
    go (inr (inl d)) (inr (inl t)) = inr (inl (cc))
    go (inr (inl d)) (inr (inr t)) = inr (inr (inr (sym d, t)))

-- and the other way round: the order of the numbers is the order of the digits
pub less_lex : (b k : ℕ) (xs ys : List ℕ) → 0 < b → Below b xs → Below b ys → length xs ≡ length ys → length xs ≤ k → number b k xs < number b k ys → Lex xs ys
less_lex b k xs ys h p q e s l = elim (lex_total xs ys e) [
  | inl t ↦ t
  | inr t ↦ elim t [
    | inl d ↦ absurd (lt_irrefl (number b k ys) (rw d at l))
    | inr u ↦ absurd (lt_irrefl (number b k xs) (omega (arith, lex_less b k ys xs h q p (sym e) (omega arith) u)))
  ]
]

-- the order of numbers is the lexicographic order of their digits
pub lex_exactly : (b k : ℕ) (xs ys : List ℕ) → 0 < b → Below b xs → Below b ys → length xs ≡ length ys → length xs ≤ k → (number b k xs < number b k ys) ↔ Lex xs ys
lex_exactly b k xs ys h p q e s = (less_lex b k xs ys h p q e s, lex_less b k xs ys h p q e s)

-- equal numbers of equally many digits have equal digits
pub number_injective : (b k : ℕ) (xs ys : List ℕ) → 0 < b → Below b xs → Below b ys → length xs ≡ length ys → length xs ≤ k → number b k xs ≡ number b k ys → xs ≡ ys
number_injective b k xs ys h p q e s d = elim (lex_total xs ys e) [
  | inl t ↦ absurd (lt_irrefl (number b k ys) (omega (arith, lex_less b k xs ys h p q e s t)))
  | inr t ↦ elim t [
    | inl g ↦ g
    | inr u ↦ absurd (lt_irrefl (number b k xs) (omega (arith, lex_less b k ys xs h q p (sym e) (omega arith) u)))
  ]
]
