-- What the functions of this crate ask: a sum in fp and fc, a sum in sp and sc, and the variable for which the second is put into the first.
use Rattle.std.specs.Prelude.{List, ℕ, ◌≤◌, ◌<◌, ℤ}
use Rattle.algebra.specs.Limits.{variables, largest_degree, largest_weight}
use Rattle.algebra.specs.Substitute.{pair_degree, pair_weight}
use Rattle.algebra.specs.Word.{terms}
use Rattle.sums.specs.Held.{HeldSum}

pub record CanPut (v : ℕ) (sp : List ℕ) (sc : List ℤ) (fp : List ℕ) (fc : List ℤ) : Type 0 where
  pub known : v < variables
  pub put : HeldSum sp sc
  pub into : HeldSum fp fc

-- degree and weight have passed
pub record Allowed (v : ℕ) (sp : List ℕ) (sc : List ℤ) (fp : List ℕ) (fc : List ℤ) : Type 0 where
  pub low : pair_degree v (terms sp sc) (terms fp fc) ≤ largest_degree
  pub light : pair_weight v (terms sp sc) (terms fp fc) ≤ largest_weight
