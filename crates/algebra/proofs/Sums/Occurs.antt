-- Which patterns stand in a list, and how many different ones: collecting keeps the patterns, and the spread is their number.
use mathlib.Core.Path.{◌≡◌, refl, sym, ◌∙◌, ap, ap₂}
use mathlib.Core.Bool.{Bool, true, false, ◌||◌, or_self_left}
use mathlib.Core.List.{List, [], ◌∷◌}
use Prim.Native.Nat.{ℕ, suc, ◌≤◌, Ordering}
use native.Mathlib.Omega.{arith}
use lib.Dec.{T}
use lib.IntN.{ℤ, pos, ◌+ℤ◌}
use lib.ListN.{length}
use Rattle.algebra.specs.Pattern.{Pattern, same, order}
use Rattle.algebra.specs.Sum.{Term, Sum, is_zero, ahead, in_order}
use Rattle.algebra.specs.Collect.{settle, insert, gather, keep, drop_zeros, collect, occurs, count_new, spread}
use Rattle.algebra.specs.Value.{total, only_if, coefficient}
use lib.Ieee.Bits.{is_true}
use Rattle.algebra.proofs.Numbers.Test.{false-is, or_swap}
use Rattle.algebra.proofs.Patterns.Order.{same_self, same-eq, order-self, order-eq}
use Rattle.algebra.proofs.Sums.Ordered.{before-is, ahead-trans, order-head, order-tail, gather-order}

-- patterns that stand apart are not the same
pub apart : (p q : Pattern) (o : Ordering) → order p q ≡ o → (o ≡ Ordering.eq → ⊥) → same p q ≡ false
apart p q o e f = false-is (same p q) (λ h. f (sym e ∙ ap (order p) (sym (same-eq p q h)) ∙ order-self p))

lt-not-eq : Ordering.lt ≡ Ordering.eq → ⊥
lt-not-eq e = let z : ◌≡◌ {A = ℕ} 0 1 = cc in omega arith

gt-not-eq : Ordering.gt ≡ Ordering.eq → ⊥
gt-not-eq e = let z : ◌≡◌ {A = ℕ} 0 1 = cc in omega arith

pub before-apart : (p q : Pattern) → order p q ≡ Ordering.lt → same p q ≡ false
before-apart p q e = apart p q Ordering.lt e lt-not-eq

pub after-apart : (p q : Pattern) → order p q ≡ Ordering.gt → same p q ≡ false
after-apart p q e = apart p q Ordering.gt e gt-not-eq

-- ---- Occurrences.

pub occurs-cons : (r : Pattern) (t : Term) (l : List Term) → occurs r (t ∷ l) ≡ same r t.pattern || occurs r l
unfolding occurs
occurs-cons r t l = refl

pub occurs-first : (t : Term) (l : List Term) → occurs t.pattern (t ∷ l) ≡ true
unfolding occurs
occurs-first t l = ap (λ b. b || occurs t.pattern l) (is_true (same t.pattern t.pattern) (same_self t.pattern))

pub ahead-absent : (p : Pattern) (s : Sum) → T (in_order s) → T (ahead p s) → occurs p s ≡ false
unfolding occurs ahead
ahead-absent p [] h k = refl
ahead-absent p (t ∷ s) h k =
    let e : order p t.pattern ≡ Ordering.lt = before-is (order p t.pattern) k in
    ap₂ ◌||◌ (before-apart p t.pattern e) (ahead-absent p s (order-tail t s h) (ahead-trans p t.pattern s e (order-head t s h)))

place-occurs : (r : Pattern) (o : Ordering) (t u : Term) (s after : Sum) → (o ≡ Ordering.eq → t.pattern ≡ u.pattern)
    → occurs r after ≡ same r t.pattern || occurs r s → occurs r (settle o t u s after) ≡ same r t.pattern || (same r u.pattern || occurs r s)
unfolding settle occurs
place-occurs r Ordering.lt t u s after f e = refl
place-occurs r Ordering.eq t u s after f e = rw (f refl) (sym (or_self_left (same r u.pattern) (occurs r s)))
place-occurs r Ordering.gt t u s after f e = rw e (or_swap (same r u.pattern) (same r t.pattern) (occurs r s))

insert-occurs : (r : Pattern) (t : Term) (s : Sum) → occurs r (insert t s) ≡ same r t.pattern || occurs r s
unfolding insert occurs
insert-occurs r t [] = refl
insert-occurs r t (u ∷ s) = place-occurs r (order t.pattern u.pattern) t u s (insert t s) (order-eq t.pattern u.pattern) (insert-occurs r t s)

pub gather-occurs : (r : Pattern) (l : List Term) → occurs r (gather l) ≡ occurs r l
unfolding gather occurs
gather-occurs r [] = refl
gather-occurs r (t ∷ l) = insert-occurs r t (gather l) ∙ ap (λ b. same r t.pattern || b) (gather-occurs r l)

-- a pattern that does not occur has the coefficient 0
absent : (a b : Bool) (c z : ℤ) → (b ≡ false → z ≡ pos 0) → a || b ≡ false → only_if a c +ℤ z ≡ pos 0
unfolding only_if
absent true b c z f e = cc
absent false b c z f e = rw (f e)

pub absent-coefficient : (r : Pattern) (l : List Term) → occurs r l ≡ false → coefficient l r ≡ pos 0
unfolding coefficient total occurs
absent-coefficient r [] h = refl
absent-coefficient r (t ∷ l) h = absent (same r t.pattern) (occurs r l) t.coefficient (coefficient l r) (absent-coefficient r l) h

-- ---- The spread is the number of terms before zeros are dropped.

count-suc : (b : Bool) (m : ℕ) → count_new b (suc m) ≡ suc (count_new b m)
unfolding count_new
count-suc true m = refl
count-suc false m = refl

place-length : (o : Ordering) (t u : Term) (s after : Sum) → order t.pattern u.pattern ≡ o → (o ≡ Ordering.lt → occurs t.pattern (u ∷ s) ≡ false)
    → length after ≡ count_new (occurs t.pattern s) (length s) → length (settle o t u s after) ≡ count_new (occurs t.pattern (u ∷ s)) (suc (length s))
unfolding settle count_new
place-length Ordering.lt t u s after e f h = rw (f refl)
place-length Ordering.eq t u s after e f h = ap (λ b. count_new b (suc (length s))) (sym (is_true (occurs t.pattern (u ∷ s)) here))
  where
    here : T (occurs t.pattern (u ∷ s))
    here = rw (order-eq t.pattern u.pattern e, occurs-first u s) tt
place-length Ordering.gt t u s after e f h =
    ap suc h ∙ sym (count-suc (occurs t.pattern s) (length s))
    ∙ ap (λ b. count_new b (suc (length s))) (sym (occurs-cons t.pattern u s ∙ ap (λ b. b || occurs t.pattern s) (after-apart t.pattern u.pattern e)))

insert-length : (t : Term) (s : Sum) → T (in_order s) → length (insert t s) ≡ count_new (occurs t.pattern s) (length s)
unfolding insert
insert-length t [] h = unfold occurs count_new in refl
insert-length t (u ∷ s) h =
    place-length (order t.pattern u.pattern) t u s (insert t s) refl
    (λ e. ahead-absent t.pattern (u ∷ s) h (unfold ahead in (rw e tt))) (insert-length t s (order-tail u s h))

pub spread-gather : (l : List Term) → spread l ≡ length (gather l)
unfolding spread gather
spread-gather [] = refl
spread-gather (t ∷ l) = sym (insert-length t (gather l) (gather-order l) ∙ ap₂ count_new (gather-occurs t.pattern l) (sym (spread-gather l)))

keep-length : (b : Bool) (t : Term) (s : Sum) → length (keep b t s) ≤ suc (length s)
unfolding keep
keep-length true t s = omega arith
keep-length false t s = omega arith

drop-length : (s : Sum) → length (drop_zeros s) ≤ length s
unfolding drop_zeros
drop-length [] = omega arith
drop-length (t ∷ s) = omega (arith, keep-length (is_zero t.coefficient) t (drop_zeros s), drop-length s)

-- no operation's result has more terms than its spread
pub collect-length : (l : List Term) → length (collect l) ≤ spread l
unfolding collect
collect-length l = rw (spread-gather l) (drop-length (gather l))

count_most : (b : Bool) (m : ℕ) → count_new b m ≤ suc m
unfolding count_new
count_most true m = omega arith
count_most false m = omega arith

pub spread-length : (l : List Term) → spread l ≤ length l
unfolding spread
spread-length [] = omega arith
spread-length (t ∷ l) = omega (arith, count_most (occurs t.pattern l) (spread l), spread-length l)
