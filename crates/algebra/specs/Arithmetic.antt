-- Sum, product and power of sums in n variables, each with its spread.
use Rattle.std.specs.Prelude.{List, [], ◌∷◌, ◌++◌, ℕ, zero, suc, max, ℤ, pos, ◌*ℤ◌, set}
use Rattle.algebra.specs.Pattern.{empty_pattern, times}
use Rattle.algebra.specs.Sum.{Term, term, Sum}
use Rattle.algebra.specs.Collect.{collect, spread}

-- an integer, and the variable v (below n), as a sum
unfoldable pub integer : ℕ → ℤ → Sum
integer n c = collect (term c (empty_pattern n) ∷ [])

unfoldable pub variable : ℕ → ℕ → Sum
variable n v = term (pos 1) (set (empty_pattern n) v 1) ∷ []

-- the number 1 written out; it is integer n 1
abbrev pub one_sum : ℕ → Sum
one_sum n = term (pos 1) (empty_pattern n) ∷ []

infixl 6 ◌⊕◌
infixl 7 ◌⊗◌
unfoldable pub ◌⊕◌ : Sum → Sum → Sum
s ⊕ t = collect (s ++ t)

-- the number of different patterns in the two operands together
unfoldable pub sum_spread : Sum → Sum → ℕ
sum_spread s t = spread (s ++ t)

-- the product of two terms, of a term with each term of s, and of all pairs, one term from each operand
abbrev pub times_term : Term → Term → Term
times_term u t = term (u.coefficient *ℤ t.coefficient) (times u.pattern t.pattern)

unfoldable pub row : Term → Sum → List Term
row u [] = []
row u (t ∷ s) = times_term u t ∷ row u s

unfoldable pub pairs : Sum → Sum → List Term
pairs [] t = []
pairs (u ∷ s) t = row u t ++ pairs s t

unfoldable pub ◌⊗◌ : Sum → Sum → Sum
s ⊗ t = collect (pairs s t)

-- the number of different patterns among all pairs
unfoldable pub product_spread : Sum → Sum → ℕ
product_spread s t = spread (pairs s t)

-- exponent 0 gives 1 and exponent 1 the base; otherwise it multiplies by the base again and again
unfoldable pub power : ℕ → Sum → ℕ → Sum
power n s zero = one_sum n
power n s (suc zero) = s
power n s (suc (suc e)) = power n s (suc e) ⊗ s

-- every step's spread counts: the largest of them
unfoldable pub power_spread : ℕ → Sum → ℕ → ℕ
power_spread n s zero = 0
power_spread n s (suc zero) = 0
power_spread n s (suc (suc e)) = max (power_spread n s (suc e)) (product_spread (power n s (suc e)) s)
