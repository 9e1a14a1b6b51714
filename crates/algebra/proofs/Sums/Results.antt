-- What a sum, a product and a power are like: ordered, with their degree, weight and number of terms bounded as document 01 counts them.
use mathlib.Core.Path.{◌≡◌, refl, ◌∙◌}
use mathlib.Core.Bool.{Bool, true, false}
use mathlib.Core.List.{List, [], ◌∷◌, ◌++◌}
use Prim.Native.Nat.{ℕ, zero, suc, ◌+◌, ◌*◌, ◌^◌, max, ◌≤◌, Ordering}
use native.Mathlib.Omega.{arith}
use native.Mathlib.Nat.{le_refl, le_trans, le-max_left, le-max_right, mul-le-mul_right, one-mul, pow-zero, pow-suc}
use lib.Dec.{T}
use lib.IntN.{ℤ, pos, nat_abs}
use lib.ListN.{length, set, length-set, length-replicate}
use Rattle.algebra.specs.Pattern.{Pattern, empty_pattern, degree, same, order}
use Rattle.algebra.specs.Sum.{Term, term, Sum, is_zero, ahead, in_order, no_zero, ordered, degree_of, weight}
use Rattle.algebra.specs.Collect.{settle, insert, gather, keep, drop_zeros, collect, occurs, count_new, spread}
use Rattle.algebra.specs.Arithmetic.{integer, variable, one_sum, row, pairs, ◌⊕◌, sum_spread, ◌⊗◌, product_spread, power, power_spread}
use Rattle.algebra.specs.Value.{total, only_if, coefficient_in, coefficient}
use Rattle.algebra.proofs.Numbers.Absolute.{abs-add, abs-mul}
use Rattle.algebra.proofs.Patterns.Laws.{times-length, times-degree, empty-degree}
use Rattle.algebra.proofs.Sums.Every.{append-every, collect-every, pairs-every, Long, UpTo, degree-every, every-degree}
use Rattle.algebra.proofs.Sums.Ordered.{parts, whole, collect-ordered}
use Rattle.algebra.proofs.Sums.Occurs.{collect-length}

-- ---- Ordered.

one-term : (n : ℕ) (c : ℤ) (p : Pattern) → T (no_zero (term c p ∷ [])) → length p ≡ n → T (ordered n (term c p ∷ []))
one-term n c p h k = whole n (term c p ∷ []) (record { strict = unfold in_order ahead in tt; full = h; long = (k, tt) })

pub unit-ordered : (n : ℕ) → T (ordered n (one_sum n))
unfolding no_zero
unit-ordered n = one-term n (pos 1) (empty_pattern n) tt (length-replicate n 0)

pub unit-integer : (n : ℕ) → integer n (pos 1) ≡ one_sum n
unfolding integer collect gather insert drop_zeros keep
unit-integer n = refl

pub variable-ordered : (n v : ℕ) → T (ordered n (variable n v))
unfolding variable no_zero
variable-ordered n v = one-term n (pos 1) (set (empty_pattern n) v 1) tt (length-set (empty_pattern n) v 1 ∙ length-replicate n 0)

pub integer-ordered : (n : ℕ) (c : ℤ) → T (ordered n (integer n c))
unfolding integer
integer-ordered n c = collect-ordered n (term c (empty_pattern n) ∷ []) (length-replicate n 0, tt)

pub sum-ordered : (n : ℕ) (s t : Sum) → T (ordered n s) → T (ordered n t) → T (ordered n (s ⊕ t))
unfolding ◌⊕◌
sum-ordered n s t h k = collect-ordered n (s ++ t) (append-every (Long n) s t (parts n s h).long (parts n t k).long)

pub product-ordered : (n : ℕ) (s t : Sum) → T (ordered n s) → T (ordered n t) → T (ordered n (s ⊗ t))
unfolding ◌⊗◌
product-ordered n s t h k = collect-ordered n (pairs s t) (pairs-every (Long n) (Long n) (Long n) (times-length n) s t (parts n s h).long (parts n t k).long)

pub power-ordered : (n : ℕ) (s : Sum) (e : ℕ) → T (ordered n s) → T (ordered n (power n s e))
unfolding power
power-ordered n s zero h = unit-ordered n
power-ordered n s (suc zero) h = h
power-ordered n s (suc (suc e)) h = product-ordered n (power n s (suc e)) s (power-ordered n s (suc e) h) h

-- ---- Degree.

pub sum-degree : (s t : Sum) → degree_of (s ⊕ t) ≤ max (degree_of s) (degree_of t)
unfolding ◌⊕◌
sum-degree s t =
    every-degree _ (collect (s ++ t))
    (collect-every (UpTo (max (degree_of s) (degree_of t))) (s ++ t)
    (append-every _ s t (degree-every _ s (le-max_left (degree_of s) (degree_of t))) (degree-every _ t (le-max_right (degree_of s) (degree_of t)))))

pub product-degree : (s t : Sum) → degree_of (s ⊗ t) ≤ degree_of s + degree_of t
unfolding ◌⊗◌
product-degree s t =
    every-degree _ (collect (pairs s t))
    (collect-every (UpTo (degree_of s + degree_of t)) (pairs s t)
    (pairs-every (UpTo (degree_of s)) (UpTo (degree_of t)) _ (times-degree (degree_of s) (degree_of t)) s t (degree-every _ s (le_refl _)) (degree-every _ t (le_refl _))))

pub power-degree : (n : ℕ) (s : Sum) (e : ℕ) → degree_of (power n s e) ≤ e * degree_of s
unfolding power
power-degree n s zero = unfold degree_of in omega (arith, empty-degree n)
power-degree n s (suc zero) = omega arith
power-degree n s (suc (suc e)) = omega (arith, product-degree (power n s (suc e)) s, power-degree n s (suc e))

pub integer-degree : (n : ℕ) (c : ℤ) → degree_of (integer n c) ≡ 0
unfolding integer
integer-degree n c = omega (arith, every-degree 0 (collect (term c (empty_pattern n) ∷ [])) (collect-every (UpTo 0) (term c (empty_pattern n) ∷ []) (omega (arith, empty-degree n), tt)))

pub variable-degree : (n v : ℕ) → degree_of (variable n v) ≤ 1
unfolding variable
variable-degree n v = every-degree 1 (term (pos 1) (set (empty_pattern n) v 1) ∷ []) (one-degree n v, tt)
  where
    one-degree : (n v : ℕ) → degree (set (empty_pattern n) v 1) ≤ 1
    one-degree zero v = unfold degree in omega arith
    one-degree (suc n) zero = unfold degree in omega (arith, empty-degree n)
    one-degree (suc n) (suc v) = next (one-degree n v)
      where
        next : degree (set (empty_pattern n) v 1) ≤ 1 → degree (set (empty_pattern (suc n)) (suc v) 1) ≤ 1
        next h = unfold degree in omega arith

-- ---- Weight.

place-weight : (o : Ordering) (t u : Term) (s after : Sum) → weight after ≤ nat_abs t.coefficient + weight s
    → weight (settle o t u s after) ≤ nat_abs t.coefficient + (nat_abs u.coefficient + weight s)
unfolding settle weight
place-weight Ordering.lt t u s after h = omega arith
place-weight Ordering.eq t u s after h = omega (arith, abs-add t.coefficient u.coefficient)
place-weight Ordering.gt t u s after h = omega arith

insert-weight : (t : Term) (s : Sum) → weight (insert t s) ≤ nat_abs t.coefficient + weight s
unfolding insert weight
insert-weight t [] = omega arith
insert-weight t (u ∷ s) = place-weight (order t.pattern u.pattern) t u s (insert t s) (insert-weight t s)

pub gather-weight : (l : List Term) → weight (gather l) ≤ weight l
unfolding gather weight
gather-weight [] = omega arith
gather-weight (t ∷ l) = omega (arith, insert-weight t (gather l), gather-weight l)

keep-weight : (b : Bool) (t : Term) (s : Sum) → weight (keep b t s) ≤ nat_abs t.coefficient + weight s
unfolding keep weight
keep-weight true t s = omega arith
keep-weight false t s = omega arith

drop-weight : (s : Sum) → weight (drop_zeros s) ≤ weight s
unfolding drop_zeros weight
drop-weight [] = omega arith
drop-weight (t ∷ s) = omega (arith, keep-weight (is_zero t.coefficient) t (drop_zeros s), drop-weight s)

pub collect-weight : (l : List Term) → weight (collect l) ≤ weight l
unfolding collect
collect-weight l = le_trans (drop-weight (gather l)) (gather-weight l)

pub append-weight : (l m : List Term) → weight (l ++ m) ≡ weight l + weight m
unfolding weight
append-weight [] m = omega arith
append-weight (t ∷ l) m = omega (arith, append-weight l m)

-- one term more, at the end
pub degree-next : (s : Sum) (t : Term) → degree_of (s ++ (t ∷ [])) ≡ max (degree_of s) (degree t.pattern)
unfolding degree_of
degree-next [] t = omega arith
degree-next (u ∷ s) t = omega (arith, degree-next s t)

pub weight-next : (s : Sum) (t : Term) → weight (s ++ (t ∷ [])) ≡ weight s + nat_abs t.coefficient
weight-next s t = append-weight s (t ∷ []) ∙ unfold weight in omega arith

pub row-weight : (u : Term) (s : Sum) → weight (row u s) ≡ nat_abs u.coefficient * weight s
unfolding row weight
row-weight u [] = omega arith
row-weight u (t ∷ s) = omega (arith, abs-mul u.coefficient t.coefficient, row-weight u s)

pub pairs-weight : (s t : Sum) → weight (pairs s t) ≡ weight s * weight t
unfolding pairs weight
pairs-weight [] t = omega arith
pairs-weight (u ∷ s) t = omega (arith, append-weight (row u t) (pairs s t), row-weight u t, pairs-weight s t)

pub integer-weight : (n : ℕ) (c : ℤ) → weight (integer n c) ≤ nat_abs c
unfolding integer
integer-weight n c = unfold weight in omega (arith, collect-weight (term c (empty_pattern n) ∷ []))

pub variable-weight : (n v : ℕ) → weight (variable n v) ≡ 1
unfolding variable weight
variable-weight n v = refl

-- no coefficient is larger than the weight
pub coefficient-weight : (l : List Term) (r : Pattern) → nat_abs (coefficient l r) ≤ weight l
unfolding coefficient total weight
coefficient-weight [] r = omega arith
coefficient-weight (t ∷ l) r = omega (arith, abs-add (coefficient_in r t) (coefficient l r), only (same r t.pattern) t.coefficient, coefficient-weight l r)
  where
    only : (b : Bool) (c : ℤ) → nat_abs (only_if b c) ≤ nat_abs c
    only true c = unfold only_if in omega arith
    only false c = unfold only_if in omega arith

pub sum-weight : (s t : Sum) → weight (s ⊕ t) ≤ weight s + weight t
unfolding ◌⊕◌
sum-weight s t = omega (arith, collect-weight (s ++ t), append-weight s t)

pub product-weight : (s t : Sum) → weight (s ⊗ t) ≤ weight s * weight t
unfolding ◌⊗◌
product-weight s t = omega (arith, collect-weight (pairs s t), pairs-weight s t)

pub power-weight : (n : ℕ) (s : Sum) (e : ℕ) → weight (power n s e) ≤ weight s ^ e
unfolding power
power-weight n s zero = rw pow-zero (unfold weight in le_refl 1)
power-weight n s (suc zero) = rw (pow-suc, pow-zero, one-mul) (le_refl (weight s))
power-weight n s (suc (suc e)) = rw pow-suc (le_trans (product-weight (power n s (suc e)) s) (mul-le-mul_right (weight s) (power-weight n s (suc e))))

-- ---- Number of terms.

pub integer-length : (n : ℕ) (c : ℤ) → length (integer n c) ≤ 1
unfolding integer spread occurs count_new
integer-length n c = collect-length (term c (empty_pattern n) ∷ [])

pub sum-length : (s t : Sum) → length (s ⊕ t) ≤ sum_spread s t
unfolding ◌⊕◌ sum_spread
sum-length s t = collect-length (s ++ t)

pub product-length : (s t : Sum) → length (s ⊗ t) ≤ product_spread s t
unfolding ◌⊗◌ product_spread
product-length s t = collect-length (pairs s t)

pub power-length : (n : ℕ) (s : Sum) (e : ℕ) → length (power n s (suc (suc e))) ≤ power_spread n s (suc (suc e))
unfolding power power_spread
power-length n s e = omega (arith, product-length (power n s (suc e)) s)

-- exponents 0 and 1 form no product: 1 has one term, and the base its own
pub power-length-any : (n : ℕ) (s : Sum) (e : ℕ) → length (power n s e) ≤ max (max 1 (length s)) (power_spread n s e)
power-length-any n s zero = unfold power in omega arith
power-length-any n s (suc zero) = unfold power in omega arith
power-length-any n s (suc (suc e)) = omega (arith, power-length n s e)
