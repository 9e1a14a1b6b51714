-- What the code holds of a product at the readings x and at the raised readings y, and of the readings themselves.
use Rattle.std.specs.Prelude.{◌≡◌, List, ℕ, ◌≤◌, ◌<◌, ℤ, pos, nat_abs, length, get_or}
use Rattle.algebra.specs.Limits.{variables, largest_weight}
use Rattle.weights.specs.Capped.{capped}

-- a reading for each variable, and a raised one that is no smaller
pub record Covers (x : List ℤ) (y : List ℕ) : Type 0 where
  pub readings_long : length x ≡ variables
  pub raised_long : length y ≡ variables
  pub no_smaller : (v : ℕ) → v < variables → nat_abs (get_or x v (pos 0)) ≤ get_or y v 0

-- A raised product m, and the product n at the readings, however large they are: the first as a weight is kept, and the second where the first is allowed.
pub record Holds (most : ℕ) (product : ℤ) (m : ℕ) (n : ℤ) : Type 0 where
  pub most_is : capped most ≡ capped m
  pub product_is : m ≤ largest_weight → product ≡ n
  pub within : nat_abs n ≤ m

-- where the raised product is allowed, the other is no larger
abbrev pub Sound : ℕ → ℤ → Type 0
Sound most product = most ≤ largest_weight → nat_abs product ≤ most
