-- Sums are a commutative ring: two ways to write the same terms have the same ordered sum.
use mathlib.Core.Path.{◌≡◌, refl, sym, ◌∙◌, ap, ap₂}
use mathlib.Core.List.{[], ◌∷◌, ◌++◌}
use Prim.Native.Nat.{ℕ, zero, suc}
use lib.Dec.{T}
use lib.IntN.{ℤ, pos, negsuc, ◌+ℤ◌, ◌*ℤ◌, +ℤ_comm, +ℤ_assoc, +ℤ_idr, *ℤ_comm, zero-*ℤ, *ℤ-zero}
use Rattle.algebra.specs.Pattern.{empty_pattern, times}
use Rattle.algebra.specs.Sum.{Term, term, Sum, ordered}
use Rattle.algebra.specs.Collect.{settle, insert, gather, keep, drop_zeros, collect}
use Rattle.algebra.specs.Arithmetic.{integer, one_sum, times_term, pairs, ◌⊕◌, ◌⊗◌, power}
use Rattle.algebra.specs.Value.{total}
use Rattle.algebra.proofs.Numbers.Whole.{*ℤ-assoc, *ℤ-+ℤ, +ℤ-*ℤ, one-*ℤ}
use Rattle.algebra.proofs.Patterns.Laws.{times-comm, times-assoc, empty-times}
use Rattle.algebra.proofs.Patterns.Order.{order-self}
use Rattle.algebra.proofs.Sums.Total.{Additive, total_ext, total-append, total-plus, total-none, total-swap, pairs-total, collect-total}
use Rattle.algebra.proofs.Sums.Every.{Every, Long}
use Rattle.algebra.proofs.Sums.Ordered.{parts, collect-fixed}
use Rattle.algebra.proofs.Sums.Equal.{collect-equal}

-- ---- Terms.

pub term-comm : (u t : Term) → times_term u t ≡ times_term t u
term-comm u t = ap₂ term (*ℤ_comm u.coefficient t.coefficient) (times-comm u.pattern t.pattern)

term-assoc : (a b c : Term) → times_term (times_term a b) c ≡ times_term a (times_term b c)
term-assoc a b c = ap₂ term (*ℤ-assoc a.coefficient b.coefficient c.coefficient) (times-assoc a.pattern b.pattern c.pattern)

-- ---- A product's total, over the pairs; it is additive in each operand.

module _ (f : Term → ℤ) (A : Additive f) where
  pub sum-total : (s t : Sum) → total f (s ⊕ t) ≡ total f s +ℤ total f t
  unfolding ◌⊕◌
  sum-total s t = collect-total f A (s ++ t) ∙ total-append f s t

  pub product-total : (s t : Sum) → total f (s ⊗ t) ≡ total (λ u. total (λ v. f (times_term u v)) t) s
  unfolding ◌⊗◌
  product-total s t = collect-total f A (pairs s t) ∙ pairs-total f s t

module _ (f : Term → ℤ) (A : Additive f) where
  pub left-additive : (t : Sum) → Additive (λ u. total (λ v. f (times_term u v)) t)
  left-additive t = record {
    plus = λ c d p. total_ext (λ v. ap (λ z. f (term z (times p v.pattern))) (+ℤ-*ℤ c d v.coefficient) ∙ A.plus _ _ _) t ∙ total-plus _ _ t;
    none = λ p. total_ext (λ v. ap (λ z. f (term z (times p v.pattern))) (zero-*ℤ v.coefficient) ∙ A.none _) t ∙ total-none t;
  }

  pub right-additive : (u : Term) → Additive (λ v. f (times_term u v))
  right-additive u = record {
    plus = λ c d q. ap (λ z. f (term z (times u.pattern q))) (*ℤ-+ℤ u.coefficient c d) ∙ A.plus (u.coefficient *ℤ c) (u.coefficient *ℤ d) (times u.pattern q);
    none = λ q. ap (λ z. f (term z (times u.pattern q))) (*ℤ-zero u.coefficient) ∙ A.none (times u.pattern q);
  }

  pub comm-total : (s t : Sum) → total f (pairs s t) ≡ total f (pairs t s)
  comm-total s t =
      pairs-total f s t ∙ total-swap (λ u v. f (times_term u v)) s t
      ∙ total_ext (λ v. total_ext (λ u. ap f (term-comm u v)) s) t ∙ sym (pairs-total f t s)

  assoc-total : (s t u : Sum) → total f (pairs (s ⊗ t) u) ≡ total f (pairs s (t ⊗ u))
  assoc-total s t u =
      pairs-total f (s ⊗ t) u ∙ product-total _ (left-additive u) s t
      ∙ total_ext (λ a. total_ext (λ b. total_ext (λ c. ap f (term-assoc a b c)) u) t ∙ sym (product-total _ (right-additive a) t u)) s ∙ sym (pairs-total f s (t ⊗ u))

  over-total : (s t u : Sum) → total f (pairs s (t ⊕ u)) ≡ total f ((s ⊗ t) ++ (s ⊗ u))
  over-total s t u =
      pairs-total f s (t ⊕ u) ∙ total_ext (λ a. sum-total _ (right-additive a) t u) s ∙ total-plus _ _ s
      ∙ sym (total-append f (s ⊗ t) (s ⊗ u) ∙ ap₂ ◌+ℤ◌ (product-total f A s t) (product-total f A s u))

  unit-pairs : (n : ℕ) (s : Sum) → Every (Long n) s → total (λ v. f (times_term (term (pos 1) (empty_pattern n)) v)) s ≡ total f s
  unfolding total
  unit-pairs n [] h = refl
  unit-pairs n (t ∷ s) h = ap₂ ◌+ℤ◌ (ap₂ (λ c p. f (term c p)) (one-*ℤ t.coefficient) (empty-times n t.pattern h.0)) (unit-pairs n s h.1)

  unit-total : (n : ℕ) (s : Sum) → Every (Long n) s → total f (pairs (one_sum n) s) ≡ total f s
  unit-total n s h = pairs-total f (one_sum n) s ∙ unfold total in +ℤ_idr (total (λ v. f (times_term (term (pos 1) (empty_pattern n)) v)) s) ∙ unit-pairs n s h

-- ---- The laws.

pub sum_comm : (s t : Sum) → s ⊕ t ≡ t ⊕ s
unfolding ◌⊕◌
sum_comm s t = collect-equal (s ++ t) (t ++ s) (λ f A. total-append f s t ∙ +ℤ_comm (total f s) (total f t) ∙ sym (total-append f t s))

pub sum-assoc : (s t u : Sum) → (s ⊕ t) ⊕ u ≡ s ⊕ (t ⊕ u)
sum-assoc s t u = unfold ◌⊕◌ in collect-equal (collect (s ++ t) ++ u) (s ++ collect (t ++ u)) agree
  where
    agree : (f : Term → ℤ) → Additive f → total f (collect (s ++ t) ++ u) ≡ total f (s ++ collect (t ++ u))
    agree f A =
        total-append f (collect (s ++ t)) u ∙ ap (λ z. z +ℤ total f u) (collect-total f A (s ++ t) ∙ total-append f s t) ∙ +ℤ_assoc (total f s) (total f t) (total f u)
        ∙ sym (total-append f s (collect (t ++ u)) ∙ ap (λ z. total f s +ℤ z) (collect-total f A (t ++ u) ∙ total-append f t u))

pub sum-zero : (n : ℕ) (s : Sum) → T (ordered n s) → [] ⊕ s ≡ s
unfolding ◌⊕◌
sum-zero n s h = collect-fixed n s h

pub zero-product : (s : Sum) → [] ⊗ s ≡ []
unfolding ◌⊗◌ pairs collect gather drop_zeros
zero-product s = refl

pub product-comm : (s t : Sum) → s ⊗ t ≡ t ⊗ s
unfolding ◌⊗◌
product-comm s t = collect-equal (pairs s t) (pairs t s) (λ f A. comm-total f A s t)

pub product-assoc : (s t u : Sum) → (s ⊗ t) ⊗ u ≡ s ⊗ (t ⊗ u)
product-assoc s t u = unfold ◌⊗◌ in collect-equal (pairs (collect (pairs s t)) u) (pairs s (collect (pairs t u))) (λ f A. unfold ◌⊗◌ in assoc-total f A s t u)

pub product-sum : (s t u : Sum) → s ⊗ (t ⊕ u) ≡ s ⊗ t ⊕ s ⊗ u
product-sum s t u = unfold ◌⊗◌ ◌⊕◌ in collect-equal (pairs s (collect (t ++ u))) (collect (pairs s t) ++ collect (pairs s u)) (λ f A. unfold ◌⊗◌ ◌⊕◌ in over-total f A s t u)

pub unit-product : (n : ℕ) (s : Sum) → T (ordered n s) → one_sum n ⊗ s ≡ s
unfolding ◌⊗◌
unit-product n s h = collect-equal (pairs (one_sum n) s) s (λ f A. unit-total f A n s (parts n s h).long) ∙ collect-fixed n s h

-- 1 and -1 have the same pattern, and cancel
ones : (n : ℕ) → one_sum n ⊕ integer n (negsuc 0) ≡ []
unfolding ◌⊕◌ integer collect gather insert settle drop_zeros keep
ones n = rw (order-self (empty_pattern n))

-- -1 times a sum is its negative
pub sum-negative : (n : ℕ) (s : Sum) → T (ordered n s) → s ⊕ integer n (negsuc 0) ⊗ s ≡ []
sum-negative n s h =
    let minus_one = integer n (negsuc 0) in
    ap (λ u. u ⊕ minus_one ⊗ s) (sym (unit-product n s h)) ∙ ap₂ ◌⊕◌ (product-comm (one_sum n) s) (product-comm minus_one s)
    ∙ sym (product-sum s (one_sum n) minus_one) ∙ ap (λ u. s ⊗ u) (ones n) ∙ product-comm s [] ∙ zero-product s

-- a power is repeated multiplication from 1 on
pub power-suc : (n : ℕ) (s : Sum) (e : ℕ) → T (ordered n s) → power n s (suc e) ≡ power n s e ⊗ s
unfolding power
power-suc n s zero h = sym (unit-product n s h)
power-suc n s (suc e) h = refl
