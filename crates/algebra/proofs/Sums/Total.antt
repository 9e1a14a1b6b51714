-- A function added up over the terms of a list, where it is additive in the coefficient: collecting does not change it. The value
-- and each coefficient of a sum are such totals, so both laws of an operation come from one proof.
use mathlib.Core.Path.{◌≡◌, refl, sym, ◌∙◌, ap, ap₂}
use mathlib.Core.Bool.{Bool, true, false}
use mathlib.Core.List.{List, [], ◌∷◌, ◌++◌, map}
use Prim.Native.Nat.{zero, suc, Ordering}
use lib.IntN.{ℤ, pos, negsuc, ◌+ℤ◌, ◌*ℤ◌, +ℤ_assoc, +ℤ_idl, *ℤ-zero}
use Rattle.algebra.specs.Pattern.{Pattern, order}
use Rattle.algebra.specs.Sum.{Term, term, Sum, is_zero}
use Rattle.algebra.specs.Collect.{settle, insert, gather, keep, drop_zeros, collect}
use Rattle.algebra.specs.Arithmetic.{times_term, row, pairs}
use Rattle.algebra.specs.Value.{total}
use Rattle.algebra.proofs.Numbers.Whole.{*ℤ-+ℤ, +ℤ-left-comm, +ℤ-mix}
use Rattle.algebra.proofs.Patterns.Order.{order-eq}

pub record Additive (f : Term → ℤ) : Type 0 where
  pub plus : (c d : ℤ) (p : Pattern) → f (term (c +ℤ d) p) ≡ f (term c p) +ℤ f (term d p)
  pub none : (p : Pattern) → f (term (pos 0) p) ≡ pos 0

-- ---- Totals of any function.

pub total_ext : {f g : Term → ℤ} → ((t : Term) → f t ≡ g t) → (l : List Term) → total f l ≡ total g l
total_ext h l i = total (λ t. h t i) l

pub total-append : (f : Term → ℤ) (l m : List Term) → total f (l ++ m) ≡ total f l +ℤ total f m
unfolding total
total-append f [] m = sym (+ℤ_idl (total f m))
total-append f (t ∷ l) m = ap (λ z. f t +ℤ z) (total-append f l m) ∙ sym (+ℤ_assoc (f t) (total f l) (total f m))

pub total-map : (f : Term → ℤ) (g : Term → Term) (l : List Term) → total f (map g l) ≡ total (λ t. f (g t)) l
unfolding total
total-map f g [] = refl
total-map f g (t ∷ l) = ap (λ z. f (g t) +ℤ z) (total-map f g l)

pub total-plus : (f g : Term → ℤ) (l : List Term) → total (λ t. f t +ℤ g t) l ≡ total f l +ℤ total g l
unfolding total
total-plus f g [] = refl
total-plus f g (t ∷ l) = rw (total-plus f g l) (+ℤ-mix (f t) (g t) (total f l) (total g l))

pub total-none : (l : List Term) → total (λ t. pos 0) l ≡ pos 0
unfolding total
total-none [] = refl
total-none (t ∷ l) = rw (total-none l)

pub total-times : (k : ℤ) (f : Term → ℤ) (l : List Term) → total (λ t. k *ℤ f t) l ≡ k *ℤ total f l
unfolding total
total-times k f [] = sym (*ℤ-zero k)
total-times k f (t ∷ l) = rw (total-times k f l) (sym (*ℤ-+ℤ k (f t) (total f l)))

pub total-swap : (f : Term → Term → ℤ) (l m : List Term) → total (λ t. total (f t) m) l ≡ total (λ u. total (λ t. f t u) l) m
unfolding total
total-swap f [] m = sym (total-none m)
total-swap f (t ∷ l) m = ap (λ z. total (f t) m +ℤ z) (total-swap f l m) ∙ sym (total-plus (f t) (λ u. total (λ t. f t u) l) m)

-- ---- Rows and pairs.

pub row-total : (f : Term → ℤ) (u : Term) (s : Sum) → total f (row u s) ≡ total (λ t. f (times_term u t)) s
unfolding total row
row-total f u [] = refl
row-total f u (t ∷ s) = ap (λ z. f (times_term u t) +ℤ z) (row-total f u s)

pub pairs-total : (f : Term → ℤ) (s t : Sum) → total f (pairs s t) ≡ total (λ u. total (λ v. f (times_term u v)) t) s
unfolding total pairs
pairs-total f [] t = refl
pairs-total f (u ∷ s) t = total-append f (row u t) (pairs s t) ∙ ap₂ ◌+ℤ◌ (row-total f u t) (pairs-total f s t)

-- ---- Collecting changes no total of an additive function.

pub zero_is : (c : ℤ) → is_zero c ≡ true → c ≡ pos 0
zero_is (pos zero) h = refl
zero_is (pos (suc n)) h = cc
zero_is (negsuc n) h = cc

module _ (f : Term → ℤ) (A : Additive f) where
  settle-total : (o : Ordering) (t u : Term) (s after : Sum) → (o ≡ Ordering.eq → t.pattern ≡ u.pattern)
      → total f after ≡ f t +ℤ total f s → total f (settle o t u s after) ≡ f t +ℤ (f u +ℤ total f s)
  unfolding total settle
  settle-total Ordering.lt t u s after h e = refl
  settle-total Ordering.eq t u s after h e =
      ap (λ z. z +ℤ total f s) (A.plus t.coefficient u.coefficient u.pattern ∙ ap (λ p. f (term t.coefficient p) +ℤ f u) (sym (h refl)))
      ∙ +ℤ_assoc (f t) (f u) (total f s)
  settle-total Ordering.gt t u s after h e = rw e (+ℤ-left-comm (f u) (f t) (total f s))

  pub insert-total : (t : Term) (s : Sum) → total f (insert t s) ≡ f t +ℤ total f s
  unfolding total insert
  insert-total t [] = refl
  insert-total t (u ∷ s) = settle-total (order t.pattern u.pattern) t u s (insert t s) (order-eq t.pattern u.pattern) (insert-total t s)

  pub gather-total : (l : List Term) → total f (gather l) ≡ total f l
  unfolding total gather
  gather-total [] = refl
  gather-total (t ∷ l) = insert-total t (gather l) ∙ ap (λ z. f t +ℤ z) (gather-total l)

  keep-total : (b : Bool) (t : Term) (s : Sum) → is_zero t.coefficient ≡ b → total f (keep b t s) ≡ f t +ℤ total f s
  unfolding total keep
  keep-total true t s h = sym (ap (λ z. z +ℤ total f s) (ap (λ c. f (term c t.pattern)) (zero_is t.coefficient h) ∙ A.none t.pattern) ∙ +ℤ_idl (total f s))
  keep-total false t s h = refl

  pub drop-total : (s : Sum) → total f (drop_zeros s) ≡ total f s
  unfolding total drop_zeros
  drop-total [] = refl
  drop-total (t ∷ s) = keep-total (is_zero t.coefficient) t (drop_zeros s) refl ∙ ap (λ z. f t +ℤ z) (drop-total s)

  pub collect-total : (l : List Term) → total f (collect l) ≡ total f l
  unfolding collect
  collect-total l = drop-total (gather l) ∙ gather-total l
