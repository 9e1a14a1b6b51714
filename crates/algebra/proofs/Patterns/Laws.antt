-- The laws of patterns, over any number of variables. The order of patterns is in Order.
use mathlib.Core.Path.{◌≡◌, refl, ◌∙◌, ap, ap₂}
use mathlib.Core.List.{[], ◌∷◌, ◌++◌, append-nil}
use Prim.Native.Nat.{ℕ, zero, suc, ◌+◌, ◌-◌, ◌≤◌, ◌<◌}
use native.Mathlib.Omega.{arith}
use native.Mathlib.Nat.{add_comm, add_assoc, add-zero, zero-add}
use lib.ListN.{length, set, length-set, length-append, length-replicate}
use lib.Seq.{get_or-set_same, set-set, set-get_or}
use Rattle.algebra.specs.Pattern.{Pattern, empty_pattern, times, degree, exponent, raised, lowered, without}
use Rattle.algebra.specs.Inside.Filled.{filled}

-- ---- Products.

pub times-comm : (p q : Pattern) → times p q ≡ times q p
unfolding times
times-comm [] [] = refl
times-comm [] (f ∷ q) = refl
times-comm (e ∷ p) [] = refl
times-comm (e ∷ p) (f ∷ q) = ap₂ ◌∷◌ (add_comm e f) (times-comm p q)

pub times-assoc : (p q r : Pattern) → times (times p q) r ≡ times p (times q r)
unfolding times
times-assoc [] q r = refl
times-assoc (e ∷ p) [] r = refl
times-assoc (e ∷ p) (f ∷ q) [] = refl
times-assoc (e ∷ p) (f ∷ q) (g ∷ r) = ap₂ ◌∷◌ (add_assoc e f g) (times-assoc p q r)

pub empty-times : (n : ℕ) (q : Pattern) → length q ≡ n → times (empty_pattern n) q ≡ q
unfolding times
empty-times zero q h = refl
empty-times (suc n) [] h = absurd (omega arith)
empty-times (suc n) (f ∷ q) h = ap₂ ◌∷◌ (zero-add f) (empty-times n q (omega arith))

pub times-length : (n : ℕ) (p q : Pattern) → length p ≡ n → length q ≡ n → length (times p q) ≡ n
unfolding times
times-length n [] q h k = k
times-length n (e ∷ p) [] h k = h
times-length zero (e ∷ p) (f ∷ q) h k = absurd (omega arith)
times-length (suc n) (e ∷ p) (f ∷ q) h k = ap suc (times-length n p q (omega arith) (omega arith))

-- ---- Degrees.

pub degree-times : (p q : Pattern) → degree (times p q) ≡ degree p + degree q
unfolding degree times
degree-times [] q = omega arith
degree-times (e ∷ p) [] = omega arith
degree-times (e ∷ p) (f ∷ q) = omega (arith, degree-times p q)

pub times-degree : (a b : ℕ) (p q : Pattern) → degree p ≤ a → degree q ≤ b → degree (times p q) ≤ a + b
times-degree a b p q h k = omega (arith, degree-times p q)

pub empty-degree : (n : ℕ) → degree (empty_pattern n) ≡ 0
unfolding degree
empty-degree zero = refl
empty-degree (suc n) = omega (arith, empty-degree n)

pub degree-append : (p q : Pattern) → degree (p ++ q) ≡ degree p + degree q
unfolding degree
degree-append [] q = omega arith
degree-append (e ∷ p) q = omega (arith, degree-append p q)

pub set-degree : (v e : ℕ) (p : Pattern) → e ≤ exponent v p → degree (set p v e) ≤ degree p
unfolding degree
set-degree v e [] h = omega arith
set-degree zero e (f ∷ p) h = omega arith
set-degree (suc v) e (f ∷ p) h = omega (arith, set-degree v e p h)

pub exponent-degree : (v : ℕ) (p : Pattern) → exponent v p ≤ degree p
unfolding degree
exponent-degree v [] = omega arith
exponent-degree zero (e ∷ p) = omega arith
exponent-degree (suc v) (e ∷ p) = omega (arith, exponent-degree v p)

-- ---- One power more and one power less.

module _ (v : ℕ) (p : Pattern) where
  pub raised-exponent : v < length p → exponent v (raised v p) ≡ suc (exponent v p)
  raised-exponent h = get_or-set_same p v (suc (exponent v p)) 0 h

  pub lowered-raised : v < length p → lowered v (raised v p) ≡ p
  lowered-raised h =
      set-set p v (suc (exponent v p)) (exponent v (raised v p) - 1)
      ∙ ap (set p v) (ap (λ n. n - 1) (raised-exponent h) ∙ omega arith) ∙ set-get_or p v 0

pub present : (v : ℕ) (p : Pattern) → 0 < exponent v p → v < length p
present v [] h = absurd (omega arith)
present zero (e ∷ p) h = omega arith
present (suc v) (e ∷ p) h = omega (arith, present v p h)

pub raised-lowered : (v : ℕ) (p : Pattern) → 0 < exponent v p → raised v (lowered v p) ≡ p
raised-lowered v p h =
    set-set p v (exponent v p - 1) (suc (exponent v (lowered v p)))
    ∙ ap (set p v) (ap suc (get_or-set_same p v (exponent v p - 1) 0 (present v p h)) ∙ omega arith) ∙ set-get_or p v 0

pub exponent-times : (v : ℕ) (p q : Pattern) → exponent v (times p q) ≡ exponent v p + exponent v q
unfolding times
exponent-times v [] q = omega arith
exponent-times v (e ∷ p) [] = omega arith
exponent-times zero (e ∷ p) (f ∷ q) = refl
exponent-times (suc v) (e ∷ p) (f ∷ q) = exponent-times v p q

pub lowered-times : (v : ℕ) (p q : Pattern) → 0 < exponent v p → lowered v (times p q) ≡ times (lowered v p) q
unfolding times
lowered-times v [] q h = absurd (omega arith)
lowered-times zero (e ∷ p) [] h = refl
lowered-times (suc v) (e ∷ p) [] h = refl
lowered-times zero (e ∷ p) (f ∷ q) h = ap (λ n. n ∷ times p q) (omega arith)
lowered-times (suc v) (e ∷ p) (f ∷ q) h = ap (λ r. (e + f) ∷ r) (lowered-times v p q h)

pub empty-exponent : (n v : ℕ) → exponent v (empty_pattern n) ≡ 0
empty-exponent zero v = refl
empty-exponent (suc n) zero = refl
empty-exponent (suc n) (suc v) = empty-exponent n v

-- ---- One variable alone, and a pattern made exponent by exponent.

pub empty-length : (n : ℕ) → length (empty_pattern n) ≡ n
empty-length n = length-replicate {A = ℕ} n 0

pub alone-length : (n v e : ℕ) → length (set (empty_pattern n) v e) ≡ n
alone-length n v e = length-set (empty_pattern n) v e ∙ empty-length n

pub alone-degree : (n v e : ℕ) → v < n → degree (set (empty_pattern n) v e) ≡ e
unfolding degree
alone-degree zero v e h = absurd (omega arith)
alone-degree (suc n) zero e h = omega (arith, empty-degree n)
alone-degree (suc n) (suc v) e h = omega (arith, alone-degree n v e (omega arith))

-- a pattern is its power of v and the rest
pub without-times : (n v : ℕ) (p : Pattern) → length p ≡ n → v < n → times (without v p) (set (empty_pattern n) v (exponent v p)) ≡ p
unfolding times
without-times n v [] h inside = absurd (omega arith)
without-times zero v (e ∷ p) h inside = absurd (omega arith)
without-times (suc n) zero (e ∷ p) h inside =
    ap₂ ◌∷◌ (zero-add e) (times-comm p (empty_pattern n) ∙ empty-times n p (omega arith))
without-times (suc n) (suc v) (e ∷ p) h inside = ap₂ ◌∷◌ (add-zero e) (without-times n v p (omega arith) (omega arith))

-- one power more is a product with the variable
pub raised-times : (n v : ℕ) (p : Pattern) → length p ≡ n → v < n → times (set (empty_pattern n) v 1) p ≡ raised v p
unfolding times
raised-times n v [] h inside = absurd (omega arith)
raised-times zero v (e ∷ p) h inside = absurd (omega arith)
raised-times (suc n) zero (e ∷ p) h inside = ap₂ ◌∷◌ (omega arith) (empty-times n p (omega arith))
raised-times (suc n) (suc v) (e ∷ p) h inside = ap₂ ◌∷◌ (zero-add e) (raised-times n v p (omega arith) (omega arith))

pub without-degree : (v : ℕ) (p : Pattern) → degree (without v p) + exponent v p ≡ degree p
unfolding degree
without-degree v [] = refl
without-degree zero (e ∷ p) = omega arith
without-degree (suc v) (e ∷ p) = omega (arith, without-degree v p)

pub filled-length : (n : ℕ) (p : Pattern) → length p ≤ n → length (filled n p) ≡ n
filled-length n p h = length-append p (empty_pattern (n - length p)) ∙ omega (arith, empty-length (n - length p))

pub filled-all : (n : ℕ) (p : Pattern) → length p ≡ n → filled n p ≡ p
filled-all n p h =
    let none : n - length p ≡ 0 = omega arith in
    rw none (append-nil p)

pub filled-degree : (n : ℕ) (p : Pattern) → degree (filled n p) ≡ degree p
filled-degree n p = degree-append p (empty_pattern (n - length p)) ∙ omega (arith, empty-degree (n - length p))

-- the next exponent comes in by a product
pub filled_next : (n : ℕ) (p : Pattern) (e : ℕ) → length p < n → times (filled n p) (set (empty_pattern n) (length p) e) ≡ filled n (p ++ (e ∷ []))
unfolding times
filled_next zero p e h = absurd (omega arith)
filled_next (suc n) [] e h =
    let all : suc n - 0 ≡ suc n = omega arith in
    let rest : suc n - 1 ≡ n = omega arith in
    rw (all, rest) (ap₂ ◌∷◌ (zero-add e) (empty-times n (empty_pattern n) (empty-length n)))
filled_next (suc n) (f ∷ p) e h =
    let left : suc n - suc (length p) ≡ n - length p = omega arith in
    let less : suc n - suc (length (p ++ (e ∷ []))) ≡ n - length (p ++ (e ∷ [])) = omega arith in
    rw (left, less) (ap₂ ◌∷◌ (add-zero f) (filled_next n p e (omega arith)))
