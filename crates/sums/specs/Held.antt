-- Two slices that hold terms in order, of a sum or of one that is being formed.
use Rattle.std.specs.Prelude.{◌≡◌, List, ℕ, ◌≤◌, T, ℤ, length}
use Rattle.algebra.specs.Limits.{variables, largest_degree, most_terms}
use Rattle.algebra.specs.Sum.{in_order, degree_of}
use Rattle.algebra.specs.Accepted.{Accepted}
use Rattle.algebra.specs.Held.{words_of, coefficients_of}
use Rattle.algebra.specs.Word.{terms}

-- they are the words and the coefficients of the terms that they spell; the terms stand in order, of degree 60 at most, and at most 128 of them. A
-- coefficient may be 0, and nothing is said of the weight
pub record Held (ws : List ℕ) (cs : List ℤ) : Type 0 where
  pub words_are : ws ≡ words_of (terms ws cs)
  pub coefficients_are : cs ≡ coefficients_of (terms ws cs)
  pub strict : T (in_order (terms ws cs))
  pub low : degree_of (terms ws cs) ≤ largest_degree
  pub few : length ws ≤ most_terms

-- two slices hold an accepted sum
pub record HeldSum (ws : List ℕ) (cs : List ℤ) : Type 0 where
  pub held : Held ws cs
  pub accepted : Accepted variables (terms ws cs)
