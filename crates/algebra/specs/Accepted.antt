-- Which sums are accepted: ordered sums in n variables, within the limits.
use Rattle.std.specs.Prelude.{ℕ, ◌≤◌, T, length}
use Rattle.algebra.specs.Limits.{largest_degree, most_terms, largest_weight}
use Rattle.algebra.specs.Sum.{Sum, ordered, degree_of, weight}

pub record Accepted (n : ℕ) (s : Sum) : Type 0 where
  pub is_ordered : T (ordered n s)
  pub light : weight s ≤ largest_weight
  pub low : degree_of s ≤ largest_degree
  pub few : length s ≤ most_terms
