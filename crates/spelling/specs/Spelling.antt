-- A sum as a typed formula: its text, and the tree that the grammar gives it.
use Rattle.std.specs.Prelude.{cond, List, [], ◌∷◌, ◌++◌, ℕ, zero, suc, eqb, ℤ, pos, negsuc, nat_abs}
use Rattle.algebra.specs.Pattern.{Pattern}
use Rattle.algebra.specs.Sum.{Term, Sum}
use Rattle.numbers.specs.Decimal.{decimal}
use Rattle.text.specs.Signs.{plus_sign, minus_sign, times_sign, power_sign, zero_digit}
use Rattle.text.specs.Letters.{name_of}
use Rattle.text.specs.Tree.{Tree, Tree.number, Tree.letter, Tree.plus, Tree.times, Tree.raised, Tree.minus}

-- a letter of a term, with its exponent
pub record Power : Type 0 where
  pub variable : ℕ
  pub exponent : ℕ

-- the letters of a pattern, in order; one with exponent 0 is none of them. The pattern's first exponent is that of variable v
unfoldable pub powers : ℕ → Pattern → List Power
powers v [] = []
powers v (zero ∷ p) = powers (suc v) p
powers v (suc e ∷ p) = record { variable = v; exponent = suc e } ∷ powers (suc v) p

-- ---- The text.

-- exponent 1 is not written
unfoldable pub letter_text : ℕ → ℕ → List ℕ
letter_text v e = name_of v ∷ cond (eqb e 1) [] (power_sign ∷ decimal e)

abbrev pub power_text : Power → List ℕ
power_text f = letter_text f.variable f.exponent

-- each with * before it
unfoldable pub more_powers : List Power → List ℕ
more_powers [] = []
more_powers (f ∷ fs) = times_sign ∷ (power_text f ++ more_powers fs)

-- an absolute coefficient and letters: 1 is not written, unless there are no letters
unfoldable pub factors_text : ℕ → List Power → List ℕ
factors_text c [] = decimal c
factors_text c (f ∷ fs) = cond (eqb c 1) (power_text f ++ more_powers fs) (decimal c ++ more_powers (f ∷ fs))

-- a term without its sign
unfoldable pub term_text : Term → List ℕ
term_text t = factors_text (nat_abs t.coefficient) (powers 0 t.pattern)

-- a minus for a negative term, before the first as between two; a first positive term has no sign
unfoldable pub first_sign : ℤ → List ℕ
first_sign (pos n) = []
first_sign (negsuc n) = minus_sign ∷ []

unfoldable pub next_sign : ℤ → ℕ
next_sign (pos n) = plus_sign
next_sign (negsuc n) = minus_sign

unfoldable pub first_text : Term → List ℕ
first_text t = first_sign t.coefficient ++ term_text t

unfoldable pub next_text : Term → List ℕ
next_text t = next_sign t.coefficient ∷ term_text t

unfoldable pub more_terms : Sum → List ℕ
more_terms [] = []
more_terms (t ∷ s) = next_text t ++ more_terms s

-- terms in their order; zero is 0
unfoldable pub sum_text : Sum → List ℕ
sum_text [] = zero_digit ∷ []
sum_text (t ∷ s) = first_text t ++ more_terms s

-- ---- The tree: operators group to the left.

unfoldable pub letter_tree : ℕ → ℕ → Tree
letter_tree v e = cond (eqb e 1) (letter v) (raised (letter v) e)

abbrev pub power_tree : Power → Tree
power_tree f = letter_tree f.variable f.exponent

unfoldable pub times_powers : Tree → List Power → Tree
times_powers t [] = t
times_powers t (f ∷ fs) = times_powers (times t (power_tree f)) fs

unfoldable pub factors_tree : ℕ → List Power → Tree
factors_tree c [] = number c
factors_tree c (f ∷ fs) = cond (eqb c 1) (times_powers (power_tree f) fs) (times_powers (number c) (f ∷ fs))

unfoldable pub signed_tree : ℤ → Tree → Tree
signed_tree (pos n) t = t
signed_tree (negsuc n) t = minus t

unfoldable pub term_tree : Term → Tree
term_tree t = signed_tree t.coefficient (factors_tree (nat_abs t.coefficient) (powers 0 t.pattern))

unfoldable pub plus_terms : Tree → Sum → Tree
plus_terms t [] = t
plus_terms t (u ∷ s) = plus_terms (plus t (term_tree u)) s

unfoldable pub sum_tree : Sum → Tree
sum_tree [] = number 0
sum_tree (t ∷ s) = plus_terms (term_tree t) s
