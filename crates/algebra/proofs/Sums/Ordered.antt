-- Collecting gives an ordered sum, and leaves one that is ordered as it is.
use mathlib.Core.Path.{◌≡◌, refl, sym, ◌∙◌, ap}
use mathlib.Core.Bool.{Bool, true, false, not, ◌&&◌}
use mathlib.Core.List.{List, [], ◌∷◌}
use Prim.Native.Nat.{ℕ, Ordering}
use lib.Dec.{T, T_not}
use lib.ListN.{length}
use Rattle.algebra.specs.Pattern.{Pattern, times, order}
use Rattle.algebra.specs.Sum.{Term, term, Sum, is_zero, is_before, ahead, in_order, no_zero, in_variables, ordered}
use Rattle.algebra.specs.Arithmetic.{times_term, row}
use Rattle.algebra.specs.Collect.{settle, insert, gather, keep, drop_zeros, collect}
use lib.Ieee.Fits.{and_i, and_l, and_r}
use Rattle.algebra.proofs.Numbers.Test.{false-is}
use Rattle.algebra.proofs.Numbers.Compare.{turn}
use Rattle.algebra.proofs.Patterns.Order.{order-turn, order_trans, order-times}
use Rattle.algebra.proofs.Sums.Every.{Every, Long, variables-every, every-variables, collect-every}

-- ---- The test taken apart and put together.

pub before-is : (o : Ordering) → T (is_before o) → o ≡ Ordering.lt
before-is Ordering.lt h = refl
before-is Ordering.eq h = absurd h
before-is Ordering.gt h = absurd h

pub is-before : (o : Ordering) → o ≡ Ordering.lt → T (is_before o)
is-before o e = rw e tt

pub order-back : (p q : Pattern) → order p q ≡ Ordering.gt → order q p ≡ Ordering.lt
order-back p q e = order-turn p q ∙ ap turn e

-- an ordered sum's three tests
pub record Parts (n : ℕ) (s : Sum) : Type 0 where
  pub strict : T (in_order s)
  pub full : T (no_zero s)
  pub long : Every (Long n) s

pub parts : (n : ℕ) (s : Sum) → T (ordered n s) → Parts n s
unfolding ordered
parts n s h = record {
  strict = and_l (in_order s) (no_zero s) (and_l (in_order s && no_zero s) (in_variables n s) h);
  full = and_r (in_order s) (no_zero s) (and_l (in_order s && no_zero s) (in_variables n s) h);
  long = variables-every n s (and_r (in_order s && no_zero s) (in_variables n s) h);
}

pub ordered-variables : (n : ℕ) (s : Sum) → T (ordered n s) → T (in_variables n s)
unfolding ordered
ordered-variables n s h = and_r (in_order s && no_zero s) (in_variables n s) h

pub whole : (n : ℕ) (s : Sum) → Parts n s → T (ordered n s)
unfolding ordered
whole n s P = and_i (in_order s && no_zero s) (in_variables n s) (and_i (in_order s) (no_zero s) P.strict P.full) (every-variables n s P.long)

module _ (t : Term) (s : Sum) where
  pub order-cons : T (ahead t.pattern s) → T (in_order s) → T (in_order (t ∷ s))
  unfolding in_order
  order-cons h k = and_i (ahead t.pattern s) (in_order s) h k

  pub order-head : T (in_order (t ∷ s)) → T (ahead t.pattern s)
  unfolding in_order
  order-head h = and_l (ahead t.pattern s) (in_order s) h

  pub order-tail : T (in_order (t ∷ s)) → T (in_order s)
  unfolding in_order
  order-tail h = and_r (ahead t.pattern s) (in_order s) h

  pub full-head : T (no_zero (t ∷ s)) → T (not (is_zero t.coefficient))
  unfolding no_zero
  full-head h = and_l (not (is_zero t.coefficient)) (no_zero s) h

  pub full-tail : T (no_zero (t ∷ s)) → T (no_zero s)
  unfolding no_zero
  full-tail h = and_r (not (is_zero t.coefficient)) (no_zero s) h

pub ahead-trans : (p q : Pattern) (s : Sum) → order p q ≡ Ordering.lt → T (ahead q s) → T (ahead p s)
unfolding ahead
ahead-trans p q [] h k = tt
ahead-trans p q (t ∷ s) h k = is-before (order p t.pattern) (order_trans p q t.pattern h (before-is (order q t.pattern) k))

-- ---- Insertion.

settle-ahead : (p : Pattern) (o : Ordering) (t u : Term) (s after : Sum) → order p t.pattern ≡ Ordering.lt → order p u.pattern ≡ Ordering.lt → T (ahead p (settle o t u s after))
unfolding settle ahead
settle-ahead p Ordering.lt t u s after h k = is-before (order p t.pattern) h
settle-ahead p Ordering.eq t u s after h k = is-before (order p u.pattern) k
settle-ahead p Ordering.gt t u s after h k = is-before (order p u.pattern) k

insert-ahead : (p : Pattern) (t : Term) (s : Sum) → order p t.pattern ≡ Ordering.lt → T (ahead p s) → T (ahead p (insert t s))
unfolding insert ahead
insert-ahead p t [] h k = is-before (order p t.pattern) h
insert-ahead p t (u ∷ s) h k = settle-ahead p (order t.pattern u.pattern) t u s (insert t s) h (before-is (order p u.pattern) k)

settle-order : (o : Ordering) (t u : Term) (s after : Sum) → order t.pattern u.pattern ≡ o → T (in_order (u ∷ s)) → T (in_order after)
    → (order u.pattern t.pattern ≡ Ordering.lt → T (ahead u.pattern after)) → T (in_order (settle o t u s after))
unfolding settle ahead
settle-order Ordering.lt t u s after e h k f = order-cons t (u ∷ s) (is-before (order t.pattern u.pattern) e) h
settle-order Ordering.eq t u s after e h k f = order-cons (term _ u.pattern) s (order-head u s h) (order-tail u s h)
settle-order Ordering.gt t u s after e h k f = order-cons u after (f (order-back t.pattern u.pattern e)) k

pub insert-order : (t : Term) (s : Sum) → T (in_order s) → T (in_order (insert t s))
unfolding insert
insert-order t [] h = order-cons t [] (unfold ahead in tt) h
insert-order t (u ∷ s) h = settle-order (order t.pattern u.pattern) t u s (insert t s) refl h (insert-order t s (order-tail u s h)) (λ e. insert-ahead u.pattern t s e (order-head u s h))

pub gather-order : (l : List Term) → T (in_order (gather l))
unfolding gather
gather-order [] = unfold in_order in tt
gather-order (t ∷ l) = insert-order t (gather l) (gather-order l)

-- a term times a sum in order is in order: the code merges such rows
row-ahead : (n : ℕ) (u : Term) (p : Pattern) (s : Sum) → length u.pattern ≡ n → length p ≡ n → Every (Long n) s → T (ahead p s) → T (ahead (times u.pattern p) (row u s))
unfolding row ahead
row-ahead n u p [] h k l a = tt
row-ahead n u p (t ∷ s) h k l a = is-before _ (order-times u.pattern p t.pattern (k ∙ sym l.0) (h ∙ sym k) ∙ before-is (order p t.pattern) a)

pub row-order : (n : ℕ) (u : Term) (s : Sum) → length u.pattern ≡ n → Every (Long n) s → T (in_order s) → T (in_order (row u s))
unfolding row
row-order n u [] h l k = k
row-order n u (t ∷ s) h l k = order-cons (times_term u t) (row u s) (row-ahead n u t.pattern s h l.0 l.1 (order-head t s k)) (row-order n u s h l.1 (order-tail t s k))

-- ---- Zeros dropped.

keep-ahead : (p : Pattern) (b : Bool) (t : Term) (s : Sum) → order p t.pattern ≡ Ordering.lt → T (ahead p s) → T (ahead p (keep b t s))
unfolding keep ahead
keep-ahead p true t s h k = k
keep-ahead p false t s h k = is-before (order p t.pattern) h

drop-ahead : (p : Pattern) (s : Sum) → T (ahead p s) → T (in_order s) → T (ahead p (drop_zeros s))
unfolding drop_zeros ahead
drop-ahead p [] h k = tt
drop-ahead p (t ∷ s) h k =
    let e : order p t.pattern ≡ Ordering.lt = before-is (order p t.pattern) h in
    keep-ahead p (is_zero t.coefficient) t (drop_zeros s) e (drop-ahead p s (ahead-trans p t.pattern s e (order-head t s k)) (order-tail t s k))

keep-order : (b : Bool) (t : Term) (s : Sum) → T (ahead t.pattern s) → T (in_order s) → T (in_order (keep b t s))
unfolding keep
keep-order true t s h k = k
keep-order false t s h k = order-cons t s h k

pub drop-order : (s : Sum) → T (in_order s) → T (in_order (drop_zeros s))
unfolding drop_zeros
drop-order [] h = h
drop-order (t ∷ s) h = keep-order (is_zero t.coefficient) t (drop_zeros s) (drop-ahead t.pattern s (order-head t s h) (order-tail t s h)) (drop-order s (order-tail t s h))

keep-full : (b : Bool) (t : Term) (s : Sum) → is_zero t.coefficient ≡ b → T (no_zero s) → T (no_zero (keep b t s))
unfolding keep no_zero
keep-full true t s e h = h
keep-full false t s e h = and_i (not (is_zero t.coefficient)) (no_zero s) (rw e tt) h

pub drop-full : (s : Sum) → T (no_zero (drop_zeros s))
unfolding drop_zeros
drop-full [] = unfold no_zero in tt
drop-full (t ∷ s) = keep-full (is_zero t.coefficient) t (drop_zeros s) refl (drop-full s)

-- ---- Collecting.

pub collect-order : (l : List Term) → T (in_order (collect l))
unfolding collect
collect-order l = drop-order (gather l) (gather-order l)

pub collect-full : (l : List Term) → T (no_zero (collect l))
unfolding collect
collect-full l = drop-full (gather l)

pub collect-ordered : (n : ℕ) (l : List Term) → Every (Long n) l → T (ordered n (collect l))
collect-ordered n l h = whole n (collect l) (record { strict = collect-order l; full = collect-full l; long = collect-every (Long n) l h })

-- a list that is in order is gathered already, and an ordered sum collected already
insert-front : (t : Term) (s : Sum) → T (ahead t.pattern s) → insert t s ≡ t ∷ s
unfolding insert ahead settle
insert-front t [] h = refl
insert-front t (u ∷ s) h = rw (before-is (order t.pattern u.pattern) h)

pub gather-fixed : (s : Sum) → T (in_order s) → gather s ≡ s
unfolding gather
gather-fixed [] h = refl
gather-fixed (t ∷ s) h = ap (insert t) (gather-fixed s (order-tail t s h)) ∙ insert-front t s (order-head t s h)

pub drop-fixed : (s : Sum) → T (no_zero s) → drop_zeros s ≡ s
unfolding drop_zeros keep
drop-fixed [] h = refl
drop-fixed (t ∷ s) h = rw (false-is (is_zero t.coefficient) (T_not (is_zero t.coefficient) (full-head t s h)), drop-fixed s (full-tail t s h))

pub collect-fixed : (n : ℕ) (s : Sum) → T (ordered n s) → collect s ≡ s
unfolding collect
collect-fixed n s h = ap drop_zeros (gather-fixed s (parts n s h).strict) ∙ drop-fixed s (parts n s h).full
