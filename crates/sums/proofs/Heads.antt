-- Two sums in order, added from the front: the first term of one of them, or of both together, is the first term of what they give.
use mathlib.Core.Path.{◌≡◌, sym, ◌∙◌, ap, subst}
use mathlib.Core.Bool.{false}
use mathlib.Core.List.{[], ◌∷◌, ◌++◌}
use Prim.Native.Nat.{Ordering}
use Prim.Native.Nat.{suc}
use lib.Dec.{T}
use lib.IntN.{◌+ℤ◌}
use lib.ListN.{length}
use Rattle.algebra.specs.Pattern.{Pattern, order}
use Rattle.algebra.specs.Sum.{Term, term, Sum, is_zero, ahead, in_order}
use Rattle.algebra.specs.Collect.{insert, gather, keep, drop_zeros, collect}
use Rattle.algebra.specs.Arithmetic.{◌⊕◌, sum_spread}
use Rattle.algebra.proofs.Patterns.Order.{order-eq}
use Rattle.algebra.proofs.Sums.Every.{Every, append-every, gather-every}
use Rattle.algebra.proofs.Sums.Ordered.{before-is, is-before, order-head, order-tail, ahead-trans, gather-order}
use Rattle.algebra.proofs.Sums.Occurs.{spread-gather}
use Rattle.algebra.proofs.Sums.Spreads.{gather_turned}
use Rattle.sums.proofs.Merging.{insert-front, insert-same}

-- ---- A pattern that stands before two sums stands before what they give.

abbrev After : Pattern → Pattern → Type 0
After p q = order p q ≡ Ordering.lt

all_after : (p : Pattern) (s : Sum) → T (in_order s) → T (ahead p s) → Every (After p) s
unfolding ahead
all_after p [] k h = tt
all_after p (t ∷ s) k h =
    let e : order p t.pattern ≡ Ordering.lt = before-is (order p t.pattern) h in
    (e, all_after p s (order-tail t s k) (ahead-trans p t.pattern s e (order-head t s k)))

first-after : (p : Pattern) (s : Sum) → Every (After p) s → T (ahead p s)
unfolding ahead
first-after p [] h = tt
first-after p (t ∷ s) h = is-before (order p t.pattern) h.0

gather-ahead : (p : Pattern) (s t : Sum) → T (in_order s) → T (ahead p s) → T (in_order t) → T (ahead p t) → T (ahead p (gather (s ++ t)))
gather-ahead p s t k h l j = first-after p (gather (s ++ t)) (gather-every (After p) (s ++ t) (append-every (After p) s t (all_after p s k h) (all_after p t l j)))

-- ---- The first term.

gather-first : (u : Term) (s t : Sum) → T (in_order (u ∷ s)) → T (in_order t) → T (ahead u.pattern t) → gather ((u ∷ s) ++ t) ≡ u ∷ gather (s ++ t)
unfolding gather
gather-first u s t k l h = insert-front u (gather (s ++ t)) (gather-order (s ++ t)) (gather-ahead u.pattern s t (order-tail u s k) (order-head u s k) l h)

gather-second : (s : Sum) (v : Term) (t : Sum) → T (in_order s) → T (in_order (v ∷ t)) → T (ahead v.pattern s) → gather (s ++ (v ∷ t)) ≡ v ∷ gather (s ++ t)
gather-second s v t k l h = gather_turned s (v ∷ t) ∙ gather-first v t s l k h ∙ ap (λ r. v ∷ r) (gather_turned t s)

gather-both : (u : Term) (s : Sum) (v : Term) (t : Sum) → T (in_order (u ∷ s)) → T (in_order (v ∷ t)) → order u.pattern v.pattern ≡ Ordering.eq
    → gather ((u ∷ s) ++ (v ∷ t)) ≡ term (u.coefficient +ℤ v.coefficient) u.pattern ∷ gather (s ++ t)
unfolding gather
gather-both u s v t k l e =
    ap (insert u) (gather-second s v t (order-tail u s k) l (subst (λ (p : Pattern). T (ahead p s)) (order-eq u.pattern v.pattern e) (order-head u s k)))
    ∙ insert-same u v (gather (s ++ t)) e

-- ---- The same of the sum, whose first term has not cancelled, and of the spread.

kept : (u : Term) (s : Sum) → is_zero u.coefficient ≡ false → drop_zeros (u ∷ s) ≡ u ∷ drop_zeros s
unfolding drop_zeros keep
kept u s other = rw other

module _ (u : Term) (s t : Sum) (k : T (in_order (u ∷ s))) (l : T (in_order t)) (h : T (ahead u.pattern t)) where
  pub sum_first : is_zero u.coefficient ≡ false → (u ∷ s) ⊕ t ≡ u ∷ (s ⊕ t)
  unfolding ◌⊕◌ collect
  sum_first other = ap drop_zeros (gather-first u s t k l h) ∙ kept u (gather (s ++ t)) other

  pub spread-first : sum_spread (u ∷ s) t ≡ suc (sum_spread s t)
  unfolding sum_spread
  spread-first = spread-gather ((u ∷ s) ++ t) ∙ ap length (gather-first u s t k l h) ∙ ap suc (sym (spread-gather (s ++ t)))

module _ (s : Sum) (v : Term) (t : Sum) (k : T (in_order s)) (l : T (in_order (v ∷ t))) (h : T (ahead v.pattern s)) where
  pub sum-second : is_zero v.coefficient ≡ false → s ⊕ (v ∷ t) ≡ v ∷ (s ⊕ t)
  unfolding ◌⊕◌ collect
  sum-second other = ap drop_zeros (gather-second s v t k l h) ∙ kept v (gather (s ++ t)) other

  pub spread-second : sum_spread s (v ∷ t) ≡ suc (sum_spread s t)
  unfolding sum_spread
  spread-second = spread-gather (s ++ (v ∷ t)) ∙ ap length (gather-second s v t k l h) ∙ ap suc (sym (spread-gather (s ++ t)))

module _ (u : Term) (s : Sum) (v : Term) (t : Sum) (k : T (in_order (u ∷ s))) (l : T (in_order (v ∷ t))) (e : order u.pattern v.pattern ≡ Ordering.eq) where
  pub sum_both : (u ∷ s) ⊕ (v ∷ t) ≡ keep (is_zero (u.coefficient +ℤ v.coefficient)) (term (u.coefficient +ℤ v.coefficient) u.pattern) (s ⊕ t)
  unfolding ◌⊕◌ collect drop_zeros
  sum_both = ap drop_zeros (gather-both u s v t k l e)

  pub spread-both : sum_spread (u ∷ s) (v ∷ t) ≡ suc (sum_spread s t)
  unfolding sum_spread
  spread-both = spread-gather ((u ∷ s) ++ (v ∷ t)) ∙ ap length (gather-both u s v t k l e) ∙ ap suc (sym (spread-gather (s ++ t)))
