-- The value of a sum, a product and a power is the sum, the product and the power of the values.
use mathlib.Core.Path.{◌≡◌, refl, sym, ◌∙◌, ap, ap₂}
use mathlib.Core.List.{List, [], ◌∷◌, ◌++◌}
use Prim.Native.Nat.{ℕ, zero, suc, ◌+◌, ◌<◌}
use native.Mathlib.Omega.{arith}
use native.Mathlib.Nat.{add-zero, add-suc}
use lib.IntN.{ℤ, pos, ◌+ℤ◌, ◌*ℤ◌, +ℤ_idr, zero-*ℤ, pow, one}
use lib.ListN.{get_or, set}
use Rattle.algebra.specs.Pattern.{Pattern, empty_pattern, times}
use Rattle.algebra.specs.Sum.{Term, term, Sum}
use Rattle.algebra.specs.Collect.{collect}
use Rattle.algebra.specs.Arithmetic.{integer, variable, one_sum, times_term, row, pairs, ◌⊕◌, ◌⊗◌, power}
use Rattle.algebra.specs.Value.{total, pattern_value, term_value, value}
use Rattle.algebra.proofs.Numbers.Whole.{*ℤ-assoc, +ℤ-*ℤ, one-*ℤ, *ℤ-oner, *ℤ-mix}
use Rattle.algebra.proofs.Sums.Total.{Additive, total_ext, total-append, total-times, row-total, collect-total}

pub value-additive : (x : List ℤ) → Additive (term_value x)
value-additive x = record { plus = λ c d p. +ℤ-*ℤ c d (pattern_value p x); none = λ p. zero-*ℤ (pattern_value p x) }

pub collect-value : (l : List Term) (x : List ℤ) → value (collect l) x ≡ value l x
unfolding value
collect-value l x = collect-total (term_value x) (value-additive x) l

pub append-value : (l m : List Term) (x : List ℤ) → value (l ++ m) x ≡ value l x +ℤ value m x
unfolding value
append-value l m x = total-append (term_value x) l m

pub cons-value : (t : Term) (l : List Term) (x : List ℤ) → value (t ∷ l) x ≡ term_value x t +ℤ value l x
unfolding value total
cons-value t l x = refl

-- ---- Patterns.

pub pow-add : (a : ℤ) (e f : ℕ) → pow a (e + f) ≡ pow a e *ℤ pow a f
unfolding pow one
pow-add a e zero = rw add-zero (sym (*ℤ-oner (pow a e)))
pow-add a e (suc f) = rw (add-suc, pow-add a e f) (*ℤ-assoc (pow a e) (pow a f) a)

pub times-value : (p q : Pattern) (x : List ℤ) → pattern_value (times p q) x ≡ pattern_value p x *ℤ pattern_value q x
unfolding times pattern_value
times-value [] q x = sym (one-*ℤ (pattern_value q x))
times-value (e ∷ p) [] x = sym (*ℤ-oner (pattern_value (e ∷ p) x))
times-value (e ∷ p) (f ∷ q) [] = refl
times-value (e ∷ p) (f ∷ q) (a ∷ x) = rw (pow-add a e f, times-value p q x) (*ℤ-mix (pow a e) (pow a f) (pattern_value p x) (pattern_value q x))

pub term-value : (x : List ℤ) (u t : Term) → term_value x (times_term u t) ≡ term_value x u *ℤ term_value x t
term-value x u t = rw (times-value u.pattern t.pattern x) (*ℤ-mix u.coefficient t.coefficient (pattern_value u.pattern x) (pattern_value t.pattern x))

pub empty-value : (n : ℕ) (x : List ℤ) → pattern_value (empty_pattern n) x ≡ pos 1
unfolding pattern_value pow one
empty-value zero x = refl
empty-value (suc n) [] = refl
empty-value (suc n) (a ∷ x) = rw (empty-value n x)

one_value : (n v : ℕ) (x : List ℤ) → v < n → pattern_value (set (empty_pattern n) v 1) x ≡ get_or x v (pos 1)
unfolding pattern_value pow one
one_value zero v x h = absurd (omega arith)
one_value (suc n) v [] h = go v
  where
    go : (v : ℕ) → pattern_value (set (empty_pattern (suc n)) v 1) [] ≡ get_or [] v (pos 1)
    go zero = refl
    go (suc v) = refl
one_value (suc n) zero (a ∷ x) h = rw (empty-value n x) (*ℤ-oner (pos 1 *ℤ a) ∙ one-*ℤ a)
one_value (suc n) (suc v) (a ∷ x) h = one-*ℤ (pattern_value (set (empty_pattern n) v 1) x) ∙ one_value n v x (omega arith)

-- ---- Sums.

pub unit-value : (n : ℕ) (x : List ℤ) → value (one_sum n) x ≡ pos 1
unfolding value total
unit-value n x = rw (empty-value n x)

pub integer-value : (n : ℕ) (c : ℤ) (x : List ℤ) → value (integer n c) x ≡ c
unfolding integer
integer-value n c x = collect-value (term c (empty_pattern n) ∷ []) x ∙ unfold value total in (+ℤ_idr (c *ℤ pattern_value (empty_pattern n) x) ∙ ap (λ z. c *ℤ z) (empty-value n x) ∙ *ℤ-oner c)

pub variable-value : (n v : ℕ) (x : List ℤ) → v < n → value (variable n v) x ≡ get_or x v (pos 1)
unfolding variable value total
variable-value n v x h = +ℤ_idr (pos 1 *ℤ pattern_value (set (empty_pattern n) v 1) x) ∙ one-*ℤ (pattern_value (set (empty_pattern n) v 1) x) ∙ one_value n v x h

pub sum-value : (s t : Sum) (x : List ℤ) → value (s ⊕ t) x ≡ value s x +ℤ value t x
unfolding ◌⊕◌
sum-value s t x = collect-value (s ++ t) x ∙ append-value s t x

pub row-value : (u : Term) (s : Sum) (x : List ℤ) → value (row u s) x ≡ term_value x u *ℤ value s x
unfolding value
row-value u s x = row-total (term_value x) u s ∙ total_ext (term-value x u) s ∙ total-times (term_value x u) (term_value x) s

pairs-value : (s t : Sum) (x : List ℤ) → value (pairs s t) x ≡ value s x *ℤ value t x
unfolding pairs
pairs-value [] t x = unfold value total in sym (zero-*ℤ (value t x))
pairs-value (u ∷ s) t x =
    append-value (row u t) (pairs s t) x ∙ ap₂ ◌+ℤ◌ (row-value u t x) (pairs-value s t x)
    ∙ sym (ap (λ z. z *ℤ value t x) (cons-value u s x) ∙ +ℤ-*ℤ (term_value x u) (value s x) (value t x))

pub product_value : (s t : Sum) (x : List ℤ) → value (s ⊗ t) x ≡ value s x *ℤ value t x
unfolding ◌⊗◌
product_value s t x = collect-value (pairs s t) x ∙ pairs-value s t x

pub power-value : (n : ℕ) (s : Sum) (e : ℕ) (x : List ℤ) → value (power n s e) x ≡ pow (value s x) e
unfolding power pow one
power-value n s zero x = unit-value n x
power-value n s (suc zero) x = sym (one-*ℤ (value s x))
power-value n s (suc (suc e)) x = product_value (power n s (suc e)) s x ∙ ap (λ z. z *ℤ value s x) (power-value n s (suc e) x)
