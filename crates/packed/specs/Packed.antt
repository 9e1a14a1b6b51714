-- A packed sum: the term count, then for each term its coefficient's code and its exponents, all as numbers in groups of seven bits.
use Rattle.std.specs.Prelude.{List, [], ◌∷◌, ◌++◌, ℕ, ◌+◌, ◌*◌, length}
use Rattle.algebra.specs.Limits.{most_terms}
use Rattle.algebra.specs.Pattern.{Pattern}
use Rattle.algebra.specs.Sum.{Term, Sum}
use Rattle.numbers.specs.Number.{most_groups, number_bytes}
use Rattle.numbers.specs.Code.{code}

unfoldable pub exponent_bytes : Pattern → List ℕ
exponent_bytes [] = []
exponent_bytes (e ∷ p) = number_bytes e ++ exponent_bytes p

unfoldable pub term_bytes : Term → List ℕ
term_bytes t = number_bytes (code t.coefficient) ++ exponent_bytes t.pattern

unfoldable pub bytes_of_terms : Sum → List ℕ
bytes_of_terms [] = []
bytes_of_terms (t ∷ s) = term_bytes t ++ bytes_of_terms s

unfoldable pub packed : Sum → List ℕ
packed s = number_bytes (length s) ++ bytes_of_terms s

-- ---- The most bytes, in n variables: ten for a coefficient, one for an exponent, two for a count.

-- in eight variables 18
abbrev pub most_term_bytes : ℕ → ℕ
most_term_bytes n = most_groups + n

-- in eight variables 2,306
abbrev pub most_bytes : ℕ → ℕ
most_bytes n = most_term_bytes n * most_terms + 2
