-- The term order is a strict total order, and is kept by multiplication with a pattern.
use mathlib.Core.Path.{◌≡◌, refl, sym, ◌∙◌, ap, ap₂}
use mathlib.Core.List.{[], ◌∷◌, ◌++◌}
use Prim.Native.Nat.{ℕ, ◌-◌, ◌<◌, compare, Ordering}
use native.Mathlib.Omega.{arith}
use lib.Dec.{T, eqb, eqb→eq, eqb_refl}
use lib.ListN.{length, set, length-set}
use Rattle.algebra.specs.Pattern.{Pattern, empty_pattern, times, degree, exponent, lowered, without, same, then_by, by_powers, order}
use Rattle.algebra.specs.Inside.Filled.{filled}
use lib.Ieee.Fits.{and_i, and_l, and_r}
use Rattle.algebra.proofs.Patterns.Laws.{times-comm, degree-times, present, raised-lowered, raised-times, alone-length, without-times, filled-degree}
use Rattle.algebra.proofs.Numbers.Compare.{Says, compare-says, compare-is, compare-eq, turn, compare-turn, compare-add}

-- ---- The test that two patterns are the same.

pub same_self : (p : Pattern) → T (same p p)
unfolding same
same_self [] = tt
same_self (e ∷ p) = and_i (eqb e e) (same p p) (eqb_refl e) (same_self p)

pub same-eq : (p q : Pattern) → T (same p q) → p ≡ q
unfolding same
same-eq [] [] h = refl
same-eq [] (f ∷ q) h = absurd h
same-eq (e ∷ p) [] h = absurd h
same-eq (e ∷ p) (f ∷ q) h = ap₂ ◌∷◌ (eqb→eq e f (and_l (eqb e f) (same p q) h)) (same-eq p q (and_r (eqb e f) (same p q) h))

-- ---- Ties.

tie : (o o' : Ordering) → o ≡ Ordering.eq → o' ≡ Ordering.eq → then_by o o' ≡ Ordering.eq
unfolding then_by
tie Ordering.lt o' h k = h
tie Ordering.eq o' h k = k
tie Ordering.gt o' h k = h

tie-l : (o o' : Ordering) → then_by o o' ≡ Ordering.eq → o ≡ Ordering.eq
unfolding then_by
tie-l Ordering.lt o' h = h
tie-l Ordering.eq o' h = refl
tie-l Ordering.gt o' h = h

tie-r : (o o' : Ordering) → then_by o o' ≡ Ordering.eq → o' ≡ Ordering.eq
unfolding then_by
tie-r Ordering.lt o' h = cc
tie-r Ordering.eq o' h = h
tie-r Ordering.gt o' h = cc

powers-self : (p : Pattern) → by_powers p p ≡ Ordering.eq
unfolding by_powers
powers-self [] = refl
powers-self (e ∷ p) = tie (compare e e) (by_powers p p) (compare-is Ordering.eq e e refl) (powers-self p)

pub order-self : (p : Pattern) → order p p ≡ Ordering.eq
unfolding order
order-self p = tie (compare (degree p) (degree p)) (by_powers p p) (compare-is Ordering.eq _ _ refl) (powers-self p)

powers-eq : (p q : Pattern) → by_powers p q ≡ Ordering.eq → p ≡ q
unfolding by_powers
powers-eq [] [] h = refl
powers-eq [] (f ∷ q) h = cc
powers-eq (e ∷ p) [] h = cc
powers-eq (e ∷ p) (f ∷ q) h =
    ap₂ ◌∷◌ (sym (compare-eq f e (tie-l (compare f e) (by_powers p q) h))) (powers-eq p q (tie-r (compare f e) (by_powers p q) h))

pub order-eq : (p q : Pattern) → order p q ≡ Ordering.eq → p ≡ q
unfolding order
order-eq p q h = powers-eq p q (tie-r (compare (degree q) (degree p)) (by_powers p q) h)

-- ---- Of two patterns one stands before the other, or they are the same.

turn-then : (o o' : Ordering) → turn (then_by o o') ≡ then_by (turn o) (turn o')
unfolding then_by
turn-then Ordering.lt o' = refl
turn-then Ordering.eq o' = refl
turn-then Ordering.gt o' = refl

powers-turn : (p q : Pattern) → by_powers q p ≡ turn (by_powers p q)
unfolding by_powers
powers-turn [] [] = refl
powers-turn [] (f ∷ q) = refl
powers-turn (e ∷ p) [] = refl
powers-turn (e ∷ p) (f ∷ q) = ap₂ then_by (compare-turn f e) (powers-turn p q) ∙ sym (turn-then (compare f e) (by_powers p q))

pub order-turn : (p q : Pattern) → order q p ≡ turn (order p q)
unfolding order
order-turn p q = ap₂ then_by (compare-turn (degree q) (degree p)) (powers-turn p q) ∙ sym (turn-then (compare (degree q) (degree p)) (by_powers p q))

-- ---- Transitivity.

then-trans : (i j k : ℕ) (a b c : Ordering) → (a ≡ Ordering.lt → b ≡ Ordering.lt → c ≡ Ordering.lt)
    → then_by (compare j i) a ≡ Ordering.lt → then_by (compare k j) b ≡ Ordering.lt → then_by (compare k i) c ≡ Ordering.lt
then-trans i j k a b c t = go (compare j i) (compare k j) (compare-says j i) (compare-says k j)
  where
    below : k < i → then_by (compare k i) c ≡ Ordering.lt
    below h = unfold then_by in rw (compare-is Ordering.lt k i h)

    level : k ≡ i → c ≡ Ordering.lt → then_by (compare k i) c ≡ Ordering.lt
    level h e = unfold then_by in rw (compare-is Ordering.eq k i h) e

    go : (o o' : Ordering) → Says o j i → Says o' k j → then_by o a ≡ Ordering.lt → then_by o' b ≡ Ordering.lt → then_by (compare k i) c ≡ Ordering.lt
    go Ordering.lt Ordering.lt r r' h h' = below (omega arith)
    go Ordering.lt Ordering.eq r r' h h' = below (omega arith)
    go Ordering.lt Ordering.gt r r' h h' = unfold then_by in cc
    go Ordering.eq Ordering.lt r r' h h' = below (omega arith)
    go Ordering.eq Ordering.eq r r' h h' = unfold then_by in level (omega arith) (t h h')
    go Ordering.eq Ordering.gt r r' h h' = unfold then_by in cc
    go Ordering.gt Ordering.lt r r' h h' = unfold then_by in cc
    go Ordering.gt Ordering.eq r r' h h' = unfold then_by in cc
    go Ordering.gt Ordering.gt r r' h h' = unfold then_by in cc

powers-trans : (p q r : Pattern) → by_powers p q ≡ Ordering.lt → by_powers q r ≡ Ordering.lt → by_powers p r ≡ Ordering.lt
unfolding by_powers
powers-trans [] [] r h k = k
powers-trans [] (f ∷ q) r h k = cc
powers-trans (e ∷ p) [] [] h k = refl
powers-trans (e ∷ p) [] (g ∷ r) h k = cc
powers-trans (e ∷ p) (f ∷ q) [] h k = refl
powers-trans (e ∷ p) (f ∷ q) (g ∷ r) h k = then-trans e f g (by_powers p q) (by_powers q r) (by_powers p r) (powers-trans p q r) h k

pub order_trans : (p q r : Pattern) → order p q ≡ Ordering.lt → order q r ≡ Ordering.lt → order p r ≡ Ordering.lt
unfolding order
order_trans p q r h k = then-trans (degree p) (degree q) (degree r) (by_powers p q) (by_powers q r) (by_powers p r) (powers-trans p q r) h k

-- ---- A pattern multiplied on both sides changes nothing.

powers-times : (u p q : Pattern) → length p ≡ length q → length u ≡ length p → by_powers (times u p) (times u q) ≡ by_powers p q
unfolding by_powers times
powers-times [] p q h k = refl
powers-times (d ∷ u) [] [] h k = absurd (omega arith)
powers-times (d ∷ u) [] (f ∷ q) h k = absurd (omega arith)
powers-times (d ∷ u) (e ∷ p) [] h k = absurd (omega arith)
powers-times (d ∷ u) (e ∷ p) (f ∷ q) h k = ap₂ then_by (compare-add d f e) (powers-times u p q (omega arith) (omega arith))

pub order-times : (u p q : Pattern) → length p ≡ length q → length u ≡ length p → order (times u p) (times u q) ≡ order p q
unfolding order
order-times u p q h k =
    ap₂ then_by (ap₂ compare (degree-times u q) (degree-times u p) ∙ compare-add (degree u) (degree q) (degree p)) (powers-times u p q h k)

-- nor does one power less of a variable that both have
pub order-lowered : (v : ℕ) (p q : Pattern) → length p ≡ length q → 0 < exponent v p → 0 < exponent v q → order (lowered v p) (lowered v q) ≡ order p q
order-lowered v p q h k l = sym (order-times one (lowered v p) (lowered v q) (low p q h) (alone-length (length p) v 1 ∙ sym (long p)))
    ∙ ap₂ order (again p refl k) (again q (sym h) l)
  where
    one : Pattern
    one = set (empty_pattern (length p)) v 1

    long : (r : Pattern) → length (lowered v r) ≡ length r
    long r = length-set r v (exponent v r - 1)

    low : (r t : Pattern) → length r ≡ length t → length (lowered v r) ≡ length (lowered v t)
    low r t e = long r ∙ e ∙ sym (long t)

    again : (r : Pattern) → length r ≡ length p → 0 < exponent v r → times one (lowered v r) ≡ r
    again r e some = raised-times (length p) v (lowered v r) (long r ∙ e) (omega (arith, present v r some)) ∙ raised-lowered v r some

-- nor does a power that both have, as a whole
pub order-without : (n v : ℕ) (p q : Pattern) → length p ≡ n → length q ≡ n → v < n → exponent v p ≡ exponent v q → order (without v p) (without v q) ≡ order p q
order-without n v p q h k inside e =
    let own = set (empty_pattern n) v (exponent v p) in
    let long : length (without v p) ≡ n = length-set p v 0 ∙ h in
    let other : length (without v q) ≡ n = length-set q v 0 ∙ k in
    sym (order-times own (without v p) (without v q) (long ∙ sym other) (alone-length n v (exponent v p) ∙ sym long))
    ∙ ap₂ order (times-comm own (without v p) ∙ without-times n v p h inside)
    (times-comm own (without v q) ∙ ap (λ (i : ℕ). times (without v q) (set (empty_pattern n) v i)) e ∙ without-times n v q k inside)

-- ---- Patterns that are filled up with exponents 0 stand as before.

powers-append : (p q r : Pattern) → length p ≡ length q → by_powers (p ++ r) (q ++ r) ≡ by_powers p q
unfolding by_powers
powers-append [] [] r h = powers-self r
powers-append [] (f ∷ q) r h = absurd (omega arith)
powers-append (e ∷ p) [] r h = absurd (omega arith)
powers-append (e ∷ p) (f ∷ q) r h = ap (then_by (compare f e)) (powers-append p q r (omega arith))

pub order-filled : (n : ℕ) (p q : Pattern) → length p ≡ length q → order (filled n p) (filled n q) ≡ order p q
unfolding order
order-filled n p q h =
    rw (filled-degree n p, filled-degree n q, ← h) (ap (then_by (compare (degree q) (degree p))) (powers-append p q (empty_pattern (n - length p)) h))
