-- Coefficients at a pattern: those of a list, of a number, of a variable and of a sum. A product's are in Splits.
use mathlib.Core.Path.{◌≡◌, ◌∙◌}
use mathlib.Core.List.{List, [], ◌∷◌}
use Prim.Native.Nat.{ℕ}
use lib.IntN.{ℤ, pos, ◌+ℤ◌, +ℤ_idr}
use lib.ListN.{set}
use Rattle.algebra.specs.Pattern.{Pattern, empty_pattern, same}
use Rattle.algebra.specs.Sum.{Term, term, Sum}
use Rattle.algebra.specs.Collect.{collect}
use Rattle.algebra.specs.Arithmetic.{integer, one_sum, variable, ◌⊕◌}
use Rattle.algebra.specs.Value.{total, only_if, coefficient_in, coefficient}
use Rattle.algebra.proofs.Sums.Total.{collect-total}
use Rattle.algebra.proofs.Sums.Equal.{coefficient-additive}
use Rattle.algebra.proofs.Sums.Ring.{sum-total}

pub collect-coefficient : (l : List Term) (r : Pattern) → coefficient (collect l) r ≡ coefficient l r
unfolding coefficient
collect-coefficient l r = collect-total (coefficient_in r) (coefficient-additive r) l

one-coefficient : (c : ℤ) (p r : Pattern) → coefficient (term c p ∷ []) r ≡ only_if (same r p) c
unfolding coefficient total
one-coefficient c p r = +ℤ_idr (only_if (same r p) c)

pub integer-coefficient : (n : ℕ) (c : ℤ) (r : Pattern) → coefficient (integer n c) r ≡ only_if (same r (empty_pattern n)) c
unfolding integer
integer-coefficient n c r = collect-coefficient (term c (empty_pattern n) ∷ []) r ∙ one-coefficient c (empty_pattern n) r

-- a power with exponent 0 is this
pub unit-coefficient : (n : ℕ) (r : Pattern) → coefficient (one_sum n) r ≡ only_if (same r (empty_pattern n)) (pos 1)
unit-coefficient n r = one-coefficient (pos 1) (empty_pattern n) r

pub variable-coefficient : (n v : ℕ) (r : Pattern) → coefficient (variable n v) r ≡ only_if (same r (set (empty_pattern n) v 1)) (pos 1)
unfolding variable
variable-coefficient n v r = one-coefficient (pos 1) (set (empty_pattern n) v 1) r

pub sum-coefficient : (s t : Sum) (r : Pattern) → coefficient (s ⊕ t) r ≡ coefficient s r +ℤ coefficient t r
unfolding coefficient
sum-coefficient s t r = sum-total (coefficient_in r) (coefficient-additive r) s t
