-- The rows in the order in which the code adds them: those of the terms without v, then those with its first power, and so on. For the contracts of private
-- functions.
use Rattle.std.specs.Prelude.{cond, List, [], ◌∷◌, ℕ, ◌+◌, ◌≤◌, ◌<◌, eqb, ℤ, length, take}
use Rattle.algebra.specs.Limits.{variables, largest_degree, most_terms, largest_weight}
use Rattle.algebra.specs.Pattern.{exponent, without}
use Rattle.algebra.specs.Sum.{Term, term, Sum, degree_of, weight}
use Rattle.algebra.specs.Arithmetic.{pairs}
use Rattle.algebra.specs.Word.{terms}
use Rattle.algebra.specs.Held.{first_terms}
use Rattle.sums.specs.Held.{Held}

-- the terms with the power k of v, without it
unfoldable pub part_at : ℕ → ℕ → Sum → Sum
part_at v k [] = []
part_at v k (t ∷ s) = cond (eqb (exponent v t.pattern) k) (term t.coefficient (without v t.pattern) ∷ part_at v k s) (part_at v k s)

-- their rows; F is what they are multiplied by
abbrev pub rows_at : ℕ → ℕ → Sum → Sum → List Term
rows_at v k F s = pairs (part_at v k s) F

-- what adding them to a running sum asks; it has n terms, whose words are the first of ws, and stands in two areas that have room for 128 terms and a row of
-- 128 more
pub record CanAddRows (v k : ℕ) (fp : List ℕ) (fc : List ℤ) (wp : List ℕ) (wc : List ℤ) (ws : List ℕ) (cs : List ℤ) (n : ℕ) : Type 0 where
  pub known : v < variables
  pub into : Held fp fc
  pub factor : Held wp wc
  pub running : Held (take n ws) (take n cs)
  pub few : n ≤ most_terms
  pub low : degree_of (rows_at v k (terms wp wc) (terms fp fc)) ≤ largest_degree
  pub light : weight (rows_at v k (terms wp wc) (terms fp fc)) + weight (first_terms n ws cs) ≤ largest_weight
  pub words_room : most_terms + most_terms ≤ length ws
  pub coefficients_room : most_terms + most_terms ≤ length cs
