-- The letters of a word's pattern, and the number before them.
use Rattle.std.specs.Prelude.{◌≡◌, Bool, false, cond, List, [], ◌∷◌, ℕ, ◌+◌, ◌<◌, eqb, length, drop}
use Rattle.std.proofs.lemmas.List.Edits.{sets}
use Rattle.algebra.specs.Pattern.{exponent}
use Rattle.algebra.specs.Word.{exponents}
use Rattle.numbers.specs.Decimal.{decimal}
use Rattle.spelling.specs.Spelling.{Power, powers}

-- from a variable on
abbrev pub letters_from : ℕ → ℕ → List Power
letters_from w v = powers v (drop v (exponents w))

-- no variable before this one is a letter
abbrev pub NoneBefore : ℕ → ℕ → Type 0
NoneBefore w v = (k : ℕ) → k < v → exponent k (exponents w) ≡ 0

-- a number is left out: it is 1, and letters follow
unfoldable pub is_left_out : ℕ → List Power → Bool
is_left_out c [] = false
is_left_out c (f ∷ fs) = eqb c 1

-- where the letters of a term begin whose sign has the place `at`, and the area with the number before them
unfoldable pub after_number : ℕ → List Power → ℕ → List ℕ → ℕ × List ℕ
after_number c fs at area = cond (is_left_out c fs) (at, area) (at + 1 + length (decimal c), sets area (at + 1) (decimal c))
