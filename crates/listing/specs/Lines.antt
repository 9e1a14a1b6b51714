-- The lines that tell a sum, or a refusal.
use Rattle.std.specs.Prelude.{List, [], ◌∷◌, ◌++◌, ℕ, ◌+◌, ◌*◌, length}
use Prim.Native.String.{String}
use Rattle.algebra.specs.Limits.{most_terms}
use Rattle.algebra.specs.Pattern.{Pattern}
use Rattle.algebra.specs.Sum.{Term, Sum}
use Rattle.answers.specs.Quoted.{quoted}
use Rattle.numbers.specs.Decimal.{decimal, signed_decimal}

abbrev pub newline : ℕ
newline = 10

abbrev pub blank : ℕ
blank = 32

-- a word, and a number after it
unfoldable pub numbered : String → ℕ → List ℕ
numbered word n = quoted word ++ decimal n

-- ---- A sum: the number of its terms; then for each term its coefficient, and the exponents of a to h.

unfoldable pub exponents_line : Pattern → List ℕ
exponents_line [] = newline ∷ []
exponents_line (e ∷ p) = blank ∷ (decimal e ++ exponents_line p)

unfoldable pub term_line : Term → List ℕ
term_line t = signed_decimal t.coefficient ++ exponents_line t.pattern

unfoldable pub term_lines : Sum → List ℕ
term_lines [] = []
term_lines (t ∷ s) = term_line t ++ term_lines s

unfoldable pub sum_lines : Sum → List ℕ
sum_lines s = numbered "terms " (length s) ++ (newline ∷ term_lines s)

-- the most bytes, in n variables: 10 for the first line; for each term 19 digits and a minus, a blank and two digits for each exponent, and the newline. In eight variables 5,770
abbrev pub most_lines : ℕ → ℕ
most_lines n = (20 + 3 * n + 1) * most_terms + 10

-- ---- A refusal: its number, and its place.

unfoldable pub refusal_line : ℕ → ℕ → List ℕ
refusal_line refusal place = numbered "refused " refusal ++ (numbered " at " place ++ (newline ∷ []))
