-- A sum as it is held in two areas: the word of each pattern in one, the coefficients in the other.
use Rattle.std.specs.Prelude.{List, map, ℕ, ℤ, take}
use Rattle.algebra.specs.Sum.{Term, Sum}
use Rattle.algebra.specs.Word.{word, terms}

abbrev pub words_of : Sum → List ℕ
words_of s = map (λ (t : Term). word t.pattern) s

abbrev pub coefficients_of : Sum → List ℤ
coefficients_of s = map (λ (t : Term). t.coefficient) s

-- the terms in the first places of two areas
abbrev pub first_terms : ℕ → List ℕ → List ℤ → Sum
first_terms count ws cs = terms (take count ws) (take count cs)
