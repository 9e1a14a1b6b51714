-- What a sum says: its value at whole numbers, and its coefficient at a pattern. Both are defined for any list of terms.
use Rattle.std.specs.Prelude.{Bool, true, false, List, [], ◌∷◌, ◌++◌, map, ℕ, zero, suc, ℤ, pos, ◌+ℤ◌, ◌*ℤ◌}
use Rattle.std.proofs.Math.IntN.{pow}
use Rattle.algebra.specs.Pattern.{Pattern, same}
use Rattle.algebra.specs.Sum.{Term}

-- f added up over the terms
unfoldable pub total : (Term → ℤ) → List Term → ℤ
total f [] = pos 0
total f (t ∷ l) = f t +ℤ total f l

-- the powers of the variables' values multiplied; a variable that is given no value counts as 1
unfoldable pub pattern_value : Pattern → List ℤ → ℤ
pattern_value [] x = pos 1
pattern_value (e ∷ p) [] = pos 1
pattern_value (e ∷ p) (a ∷ x) = pow a e *ℤ pattern_value p x

abbrev pub term_value : List ℤ → Term → ℤ
term_value x t = t.coefficient *ℤ pattern_value t.pattern x

unfoldable pub value : List Term → List ℤ → ℤ
value s x = total (term_value x) s

-- c where the test holds, else 0
unfoldable pub only_if : Bool → ℤ → ℤ
only_if true c = c
only_if false c = pos 0

abbrev pub coefficient_in : Pattern → Term → ℤ
coefficient_in r t = only_if (same r t.pattern) t.coefficient

unfoldable pub coefficient : List Term → Pattern → ℤ
coefficient s r = total (coefficient_in r) s

-- ---- All ways to split a pattern in two: a product's coefficients are sums over them.

-- i and j; then i - 1 and j + 1; and so on down to 0 and i + j
unfoldable pub number_splits : ℕ → ℕ → List (ℕ × ℕ)
number_splits zero j = (zero, j) ∷ []
number_splits (suc i) j = (suc i, j) ∷ number_splits i (suc j)

-- each pair of numbers put before each pair of patterns
unfoldable pub each_before : List (ℕ × ℕ) → List (Pattern × Pattern) → List (Pattern × Pattern)
each_before [] rest = []
each_before (n ∷ ns) rest = map (λ (s : Pattern × Pattern). (n.0 ∷ s.0, n.1 ∷ s.1)) rest ++ each_before ns rest

-- all patterns p and q, each as long as r, whose product is r
unfoldable pub splits : Pattern → List (Pattern × Pattern)
splits [] = ([], []) ∷ []
splits (e ∷ r) = each_before (number_splits e 0) (splits r)

-- f p q added up over a list of such p and q
unfoldable pub over_splits : (Pattern → Pattern → ℤ) → List (Pattern × Pattern) → ℤ
over_splits f [] = pos 0
over_splits f (s ∷ ss) = f s.0 s.1 +ℤ over_splits f ss
