-- The slope of an ordered sum needs no collecting: a term without the variable goes, and the others stay in order.
use mathlib.Core.Path.{◌≡◌, refl, sym, ◌∙◌, ap}
use mathlib.Core.Bool.{Bool, true, false, not}
use mathlib.Core.List.{[], ◌∷◌, map}
use Prim.Native.Nat.{Ordering}
use Prim.Native.Nat.{ℕ, ◌<◌}
use native.Mathlib.Omega.{arith}
use borrow.Author.Tests.{eqb-true, eqb-false}
use lib.Dec.{T, eqb}
use lib.IntN.{ℤ, pos, nat_abs, ◌+ℤ◌, ◌*ℤ◌, +ℤ_idl, *ℤ-zero}
use lib.ListN.{length, length-set}
use Rattle.algebra.specs.Pattern.{Pattern, exponent, lowered, order}
use Rattle.algebra.specs.Sum.{Term, term, Sum, is_zero, ahead, in_order, no_zero, ordered, weight}
use Rattle.algebra.specs.Collect.{keep}
use Rattle.algebra.specs.Slope.{slope_term, slope}
use Rattle.algebra.specs.Value.{total}
use lib.Ieee.Fits.{and_i}
use Rattle.algebra.proofs.Numbers.Absolute.{some_size, times-some}
use Rattle.algebra.proofs.Patterns.Order.{order-lowered}
use Rattle.algebra.proofs.Sums.Total.{Additive}
use Rattle.algebra.proofs.Sums.Every.{Every, Long}
use Rattle.algebra.proofs.Sums.Ordered.{parts, whole, before-is, is-before, ahead-trans, order-cons, order-head, order-tail, full-head, full-tail, collect-fixed}
use Rattle.algebra.proofs.Sums.Equal.{collect-equal}

abbrev pub lacks : ℕ → Term → Bool
lacks v t = eqb (exponent v t.pattern) 0

-- the terms with a power of v, each with its slope
unfoldable pub slope_terms : ℕ → Sum → Sum
slope_terms v [] = []
slope_terms v (t ∷ s) = keep (lacks v t) (slope_term v t) (slope_terms v s)

some : (n : ℕ) → eqb n 0 ≡ false → 0 < n
some n e = omega (arith, eqb-false n 0 e)

-- the slope of a term without v has the coefficient 0
lacking : (v : ℕ) (t : Term) → lacks v t ≡ true → (slope_term v t).coefficient ≡ pos 0
lacking v t e = ap (λ n. t.coefficient *ℤ pos n) (eqb-true (exponent v t.pattern) 0 e) ∙ *ℤ-zero t.coefficient

-- ---- It adds nothing to a total, nor to the weight.

module _ (v : ℕ) (f : Term → ℤ) (A : Additive f) where
  slope-terms-total : (s : Sum) → total f (map (slope_term v) s) ≡ total f (slope_terms v s)
  unfolding total slope_terms
  slope-terms-total [] = refl
  slope-terms-total (t ∷ s) = ap (λ z. f (slope_term v t) +ℤ z) (slope-terms-total s) ∙ step (lacks v t) refl
    where
      step : (b : Bool) → lacks v t ≡ b → f (slope_term v t) +ℤ total f (slope_terms v s) ≡ total f (keep b (slope_term v t) (slope_terms v s))
      step false e = unfold keep total in refl
      step true e =
          unfold keep in (ap (λ c. f (term c (lowered v t.pattern)) +ℤ total f (slope_terms v s)) (lacking v t e)
          ∙ ap (λ z. z +ℤ total f (slope_terms v s)) (A.none (lowered v t.pattern)) ∙ +ℤ_idl (total f (slope_terms v s)))

slope-terms-weight : (v : ℕ) (s : Sum) → weight (map (slope_term v) s) ≡ weight (slope_terms v s)
unfolding weight slope_terms
slope-terms-weight v [] = refl
slope-terms-weight v (t ∷ s) = step (lacks v t) refl (slope-terms-weight v s)
  where
    step : (b : Bool) → lacks v t ≡ b → weight (map (slope_term v) s) ≡ weight (slope_terms v s) → weight (map (slope_term v) (t ∷ s)) ≡ weight (keep b (slope_term v t) (slope_terms v s))
    step false e h = unfold keep weight in omega arith
    step true e h = unfold keep weight in omega (arith, ap nat_abs (lacking v t e))

-- ---- The others stay in order, and none is 0.

module _ (n v : ℕ) where
  slope-ahead : (p : Pattern) (s : Sum) → 0 < exponent v p → length p ≡ n → Every (Long n) s → T (in_order s) → T (ahead p s) → T (ahead (lowered v p) (slope_terms v s))
  unfolding slope_terms ahead
  slope-ahead p [] has long h k a = tt
  slope-ahead p (t ∷ s) has long h k a =
      let o : order p t.pattern ≡ Ordering.lt = before-is (order p t.pattern) a in
      step (lacks v t) refl o (slope-ahead p s has long h.1 (order-tail t s k) (ahead-trans p t.pattern s o (order-head t s k)))
    where
      step : (b : Bool) → lacks v t ≡ b → order p t.pattern ≡ Ordering.lt → T (ahead (lowered v p) (slope_terms v s)) → T (ahead (lowered v p) (keep b (slope_term v t) (slope_terms v s)))
      step true e o l = unfold keep in l
      step false e o l =
          unfold keep ahead in is-before (order (lowered v p) (lowered v t.pattern))
          (order-lowered v p t.pattern (long ∙ sym h.0) has (some (exponent v t.pattern) e) ∙ o)

  slope-strict : (s : Sum) → Every (Long n) s → T (in_order s) → T (in_order (slope_terms v s))
  unfolding slope_terms
  slope-strict [] h k = k
  slope-strict (t ∷ s) h k = step (lacks v t) refl (slope-strict s h.1 (order-tail t s k))
    where
      step : (b : Bool) → lacks v t ≡ b → T (in_order (slope_terms v s)) → T (in_order (keep b (slope_term v t) (slope_terms v s)))
      step true e l = unfold keep in l
      step false e l =
          unfold keep in order-cons (slope_term v t) (slope_terms v s)
          (slope-ahead t.pattern s (some (exponent v t.pattern) e) h.0 h.1 (order-tail t s k) (order-head t s k)) l

  slope-long : (s : Sum) → Every (Long n) s → Every (Long n) (slope_terms v s)
  unfolding slope_terms
  slope-long [] h = tt
  slope-long (t ∷ s) h = step (lacks v t) (slope-long s h.1)
    where
      step : (b : Bool) → Every (Long n) (slope_terms v s) → Every (Long n) (keep b (slope_term v t) (slope_terms v s))
      step true l = unfold keep in l
      step false l = unfold keep in (length-set t.pattern v _ ∙ h.0, l)

slope-full : (v : ℕ) (s : Sum) → T (no_zero s) → T (no_zero (slope_terms v s))
unfolding slope_terms
slope-full v [] h = h
slope-full v (t ∷ s) h = step (lacks v t) refl (slope-full v s (full-tail t s h))
  where
    step : (b : Bool) → lacks v t ≡ b → T (no_zero (slope_terms v s)) → T (no_zero (keep b (slope_term v t) (slope_terms v s)))
    step true e l = unfold keep in l
    step false e l =
        unfold keep no_zero in and_i (not (is_zero (slope_term v t).coefficient)) (no_zero (slope_terms v s))
        (times-some t.coefficient (pos (exponent v t.pattern)) (full-head t s h) (some_size (pos (exponent v t.pattern)) (eqb-false (exponent v t.pattern) 0 e))) l

-- ---- The slope is these terms.

module _ (n v : ℕ) (s : Sum) (h : T (ordered n s)) where
  pub slope-terms : slope v s ≡ slope_terms v s
  slope-terms =
      let P = parts n s h in
      unfold slope in collect-equal (map (slope_term v) s) (slope_terms v s) (λ f A. slope-terms-total v f A s)
      ∙ collect-fixed n (slope_terms v s) (whole n (slope_terms v s)
      (record { strict = slope-strict n v s P.long P.strict; full = slope-full v s P.full; long = slope-long n v s P.long }))

  pub slope-weighs : weight (slope v s) ≡ weight (map (slope_term v) s)
  slope-weighs = ap weight slope-terms ∙ sym (slope-terms-weight v s)
