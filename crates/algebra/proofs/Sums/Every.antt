-- What holds of every pattern of a list of terms: collecting keeps it, and rows and pairs multiply it.
use mathlib.Core.Path.{◌≡◌}
use mathlib.Core.Bool.{Bool, true, false}
use mathlib.Core.List.{List, [], ◌∷◌, ◌++◌}
use Prim.Native.Nat.{ℕ, ◌≤◌, zero-le, Ordering}
use native.Mathlib.Nat.{le_trans, le-max_left, le-max_right, max-le}
use lib.Dec.{T, eqb, eqb→eq, eqb_refl}
use lib.ListN.{length}
use Rattle.algebra.specs.Pattern.{Pattern, times, degree, order}
use Rattle.algebra.specs.Sum.{Term, Sum, is_zero, in_variables, degree_of}
use Rattle.algebra.specs.Collect.{settle, insert, gather, keep, drop_zeros, collect}
use Rattle.algebra.specs.Arithmetic.{row, pairs}
use lib.Ieee.Fits.{and_i, and_l, and_r}

abbrev pub Every : (Pattern → Type 0) → List Term → Type 0
Every P [] = Unit {0}
Every P (t ∷ l) = P t.pattern × Every P l

pub every_map : {P Q : Pattern → Type 0} → ((p : Pattern) → P p → Q p) → (l : List Term) → Every P l → Every Q l
every_map f [] h = tt
every_map f (t ∷ l) h = (f t.pattern h.0, every_map f l h.1)

module _ (P : Pattern → Type 0) where
  pub append-every : (l m : List Term) → Every P l → Every P m → Every P (l ++ m)
  append-every [] m h k = k
  append-every (t ∷ l) m h k = (h.0, append-every l m h.1 k)

  settle-every : (o : Ordering) (t u : Term) (s after : Sum) → P t.pattern → P u.pattern → Every P s → Every P after → Every P (settle o t u s after)
  unfolding settle
  settle-every Ordering.lt t u s after h k l m = (h, (k, l))
  settle-every Ordering.eq t u s after h k l m = (k, l)
  settle-every Ordering.gt t u s after h k l m = (k, m)

  insert-every : (t : Term) (s : Sum) → P t.pattern → Every P s → Every P (insert t s)
  unfolding insert
  insert-every t [] h k = (h, tt)
  insert-every t (u ∷ s) h k = settle-every (order t.pattern u.pattern) t u s (insert t s) h k.0 k.1 (insert-every t s h k.1)

  pub gather-every : (l : List Term) → Every P l → Every P (gather l)
  unfolding gather
  gather-every [] h = tt
  gather-every (t ∷ l) h = insert-every t (gather l) h.0 (gather-every l h.1)

  keep-every : (b : Bool) (t : Term) (s : Sum) → P t.pattern → Every P s → Every P (keep b t s)
  unfolding keep
  keep-every true t s h k = k
  keep-every false t s h k = (h, k)

  pub drop-every : (s : Sum) → Every P s → Every P (drop_zeros s)
  unfolding drop_zeros
  drop-every [] h = tt
  drop-every (t ∷ s) h = keep-every (is_zero t.coefficient) t (drop_zeros s) h.0 (drop-every s h.1)

  pub collect-every : (l : List Term) → Every P l → Every P (collect l)
  unfolding collect
  collect-every l h = drop-every (gather l) (gather-every l h)

module _ (P Q R : Pattern → Type 0) (H : (p q : Pattern) → P p → Q q → R (times p q)) where
  pub row-every : (u : Term) (s : Sum) → P u.pattern → Every Q s → Every R (row u s)
  unfolding row
  row-every u [] h k = tt
  row-every u (t ∷ s) h k = (H u.pattern t.pattern h k.0, row-every u s h k.1)

  pub pairs-every : (s t : Sum) → Every P s → Every Q t → Every R (pairs s t)
  unfolding pairs
  pairs-every [] t h k = tt
  pairs-every (u ∷ s) t h k = append-every R (row u t) (pairs s t) (row-every u t h.0 k) (pairs-every s t h.1 k)

-- ---- The number of exponents, and the degree, are such facts.

abbrev pub Long : ℕ → Pattern → Type 0
Long n p = length p ≡ n

pub variables-every : (n : ℕ) (s : Sum) → T (in_variables n s) → Every (Long n) s
unfolding in_variables
variables-every n [] h = tt
variables-every n (t ∷ s) h =
    let long = eqb (length t.pattern) n in
    (eqb→eq (length t.pattern) n (and_l long (in_variables n s) h), variables-every n s (and_r long (in_variables n s) h))

pub every-variables : (n : ℕ) (s : Sum) → Every (Long n) s → T (in_variables n s)
unfolding in_variables
every-variables n [] h = tt
every-variables n (t ∷ s) h = and_i (eqb (length t.pattern) n) (in_variables n s) (rw h.0 (eqb_refl n)) (every-variables n s h.1)

abbrev pub UpTo : ℕ → Pattern → Type 0
UpTo m p = degree p ≤ m

pub degree-every : (m : ℕ) (s : Sum) → degree_of s ≤ m → Every (UpTo m) s
unfolding degree_of
degree-every m [] h = tt
degree-every m (t ∷ s) h = (le_trans (le-max_left (degree t.pattern) (degree_of s)) h, degree-every m s (le_trans (le-max_right (degree t.pattern) (degree_of s)) h))

pub every-degree : (m : ℕ) (s : Sum) → Every (UpTo m) s → degree_of s ≤ m
unfolding degree_of
every-degree m [] h = zero-le
every-degree m (t ∷ s) h = max-le h.0 (every-degree m s h.1)
