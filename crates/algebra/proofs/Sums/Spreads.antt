-- The spread goes by the patterns alone: not by the order of the terms, nor by that of a product's operands; and it never falls.
use mathlib.Core.Path.{◌≡◌, refl, sym, ◌∙◌, ap, ap₂}
use mathlib.Core.Bool.{Bool, true, false, ◌||◌, or_comm, or_assoc}
use mathlib.Core.List.{List, [], ◌∷◌, ◌++◌, map}
use Prim.Native.Nat.{ℕ, ◌≤◌}
use native.Mathlib.Omega.{arith}
use lib.IntN.{pos, ◌+ℤ◌, +ℤ_comm}
use lib.ListN.{length}
use Rattle.algebra.specs.Pattern.{Pattern, times, same}
use Rattle.algebra.specs.Sum.{Term, term, Sum}
use Rattle.algebra.specs.Collect.{gather, occurs, count_new, spread}
use Rattle.algebra.specs.Arithmetic.{times_term, row, pairs, sum_spread, product_spread}
use Rattle.algebra.specs.Value.{total, coefficient_in, coefficient}
use Rattle.algebra.proofs.Numbers.Test.{or-mix}
use Rattle.algebra.proofs.Patterns.Laws.{times-comm}
use Rattle.algebra.proofs.Sums.Total.{total-append}
use Rattle.algebra.proofs.Sums.Occurs.{occurs-cons, spread-gather}
use Rattle.algebra.proofs.Sums.Equal.{if_none, gather-equal}

-- ---- The terms with all coefficients 0 have the same patterns, so the same spread.

blank : Term → Term
blank t = term (pos 0) t.pattern

blank-occurs : (r : Pattern) (l : List Term) → occurs r (map blank l) ≡ occurs r l
unfolding occurs blank
blank-occurs r [] = refl
blank-occurs r (t ∷ l) = ap (λ b. same r t.pattern || b) (blank-occurs r l)

blank-spread : (l : List Term) → spread (map blank l) ≡ spread l
unfolding spread blank
blank-spread [] = refl
blank-spread (t ∷ l) = ap₂ count_new (unfold blank in blank-occurs t.pattern l) (blank-spread l)

blank-coefficient : (r : Pattern) (l : List Term) → coefficient (map blank l) r ≡ pos 0
unfolding coefficient total blank
blank-coefficient r [] = refl
blank-coefficient r (t ∷ l) = ap₂ ◌+ℤ◌ (if_none (same r t.pattern)) (blank-coefficient r l)

pub same-spread : (l m : List Term) → ((r : Pattern) → occurs r l ≡ occurs r m) → spread l ≡ spread m
same-spread l m h =
    sym (blank-spread l) ∙ spread-gather (map blank l)
    ∙ ap length (gather-equal (map blank l) (map blank m) (λ r. blank-occurs r l ∙ h r ∙ sym (blank-occurs r m)) (λ r. blank-coefficient r l ∙ sym (blank-coefficient r m)))
    ∙ sym (spread-gather (map blank m)) ∙ blank-spread m

-- ---- Lists one after the other.

pub append-occurs : (r : Pattern) (l m : List Term) → occurs r (l ++ m) ≡ occurs r l || occurs r m
unfolding occurs
append-occurs r [] m = refl
append-occurs r (t ∷ l) m = ap (λ b. same r t.pattern || b) (append-occurs r l m) ∙ sym (or_assoc (same r t.pattern) (occurs r l) (occurs r m))

pub append-spread : (l m : List Term) → spread (l ++ m) ≡ spread (m ++ l)
append-spread l m = same-spread (l ++ m) (m ++ l) (λ r. append-occurs r l m ∙ or_comm (occurs r l) (occurs r m) ∙ sym (append-occurs r m l))

-- and gathering does not depend on which list comes first
pub gather_turned : (l m : List Term) → gather (l ++ m) ≡ gather (m ++ l)
gather_turned l m =
    gather-equal (l ++ m) (m ++ l) (λ r. append-occurs r l m ∙ or_comm (occurs r l) (occurs r m) ∙ sym (append-occurs r m l))
    (λ r. let f = coefficient_in r in unfold coefficient in (total-append f l m ∙ +ℤ_comm (total f l) (total f m) ∙ sym (total-append f m l)))

count-least : (b : Bool) (k : ℕ) → k ≤ count_new b k
unfolding count_new
count-least true k = omega arith
count-least false k = omega arith

-- more terms never have fewer patterns: a count that is already too high stays so
pub spread-rises : (l m : List Term) → spread m ≤ spread (l ++ m)
unfolding spread
spread-rises [] m = omega arith
spread-rises (t ∷ l) m = omega (arith, spread-rises l m, count-least (occurs t.pattern (l ++ m)) (spread (l ++ m)))

pub sum-spread-comm : (s t : Sum) → sum_spread s t ≡ sum_spread t s
unfolding sum_spread
sum-spread-comm s t = append-spread s t

-- ---- A product's rows and columns.

column-occurs : (r : Pattern) (u : Term) (s t : Sum) → occurs r (pairs t (u ∷ s)) ≡ occurs r (row u t) || occurs r (pairs t s)
unfolding pairs row
column-occurs r u s [] = unfold occurs in refl
column-occurs r u s (v ∷ t) =
    append-occurs r (times_term v u ∷ row v s) (pairs t (u ∷ s)) ∙ ap₂ ◌||◌ (occurs-cons r (times_term v u) (row v s)) (column-occurs r u s t)
    ∙ or-mix (same r (times v.pattern u.pattern)) (occurs r (row v s)) (occurs r (row u t)) (occurs r (pairs t s))
    ∙ ap₂ ◌||◌ (ap (λ p. same r p || occurs r (row u t)) (times-comm v.pattern u.pattern) ∙ sym (occurs-cons r (times_term u v) (row u t))) (sym (append-occurs r (row v s) (pairs t s)))

pub pairs-occurs : (r : Pattern) (s t : Sum) → occurs r (pairs s t) ≡ occurs r (pairs t s)
unfolding pairs row
pairs-occurs r [] t = none t
  where
    none : (t : Sum) → occurs r [] ≡ occurs r (pairs t [])
    none [] = refl
    none (v ∷ t) = none t
pairs-occurs r (u ∷ s) t = append-occurs r (row u t) (pairs s t) ∙ ap (λ b. occurs r (row u t) || b) (pairs-occurs r s t) ∙ sym (column-occurs r u s t)

pub product-spread-comm : (s t : Sum) → product_spread s t ≡ product_spread t s
unfolding product_spread
product-spread-comm s t = same-spread (pairs s t) (pairs t s) (λ r. pairs-occurs r s t)
