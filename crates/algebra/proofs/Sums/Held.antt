-- A sum held in words and coefficients: any words spell patterns of all variables, and a sum within the limits is spelled by its own.
use mathlib.Core.Path.{◌≡◌, refl, ap₂}
use mathlib.Core.List.{List, [], ◌∷◌}
use Prim.Native.Nat.{ℕ}
use lib.IntN.{ℤ}
use Rattle.algebra.specs.Limits.{variables, largest_degree}
use Rattle.algebra.specs.Pattern.{Pattern}
use Rattle.algebra.specs.Sum.{term, Sum}
use Rattle.algebra.specs.Word.{terms_by, terms}
use Rattle.algebra.specs.Held.{words_of, coefficients_of}
use Rattle.algebra.proofs.Patterns.Word.{exponents-length, exponents-word}
use Rattle.algebra.proofs.Sums.Every.{Every, Long, UpTo}

pub terms-long : (ws : List ℕ) (cs : List ℤ) → Every (Long variables) (terms ws cs)
unfolding terms terms_by
terms-long [] cs = tt
terms-long (w ∷ ws) [] = tt
terms-long (w ∷ ws) (c ∷ cs) = (exponents-length w, terms-long ws cs)

pub terms-again : (s : Sum) → Every (Long variables) s → Every (UpTo largest_degree) s → terms (words_of s) (coefficients_of s) ≡ s
unfolding terms terms_by
terms-again [] long low = refl
terms-again (t ∷ s) long low =
    ap₂ (λ (p : Pattern) (l : Sum). term t.coefficient p ∷ l) (exponents-word t.pattern long.0 low.0) (terms-again s long.1 low.1)
