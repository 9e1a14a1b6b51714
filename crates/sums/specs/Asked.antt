-- What the functions that form a sum ask: room for it, and that no degree becomes too high and no coefficient too large.
use Rattle.std.specs.Prelude.{List, ℕ, ◌+◌, ◌*◌, ◌^◌, ◌≤◌, min, T, ℤ, length}
use Rattle.algebra.specs.Limits.{largest_degree, most_terms, largest_weight}
use Rattle.algebra.specs.Sum.{no_zero, degree_of, weight}
use Rattle.algebra.specs.Word.{terms}
use Rattle.sums.specs.Held.{Held, HeldSum}

-- the two areas have room for any sum
pub record Room (ws : List ℕ) (cs : List ℤ) : Type 0 where
  pub words : most_terms ≤ length ws
  pub coefficients : most_terms ≤ length cs

-- and for one that has so many terms at most: none that is formed has more than 128
pub record RoomOf (many : ℕ) (ws : List ℕ) (cs : List ℤ) : Type 0 where
  pub words : min many most_terms ≤ length ws
  pub coefficients : min many most_terms ≤ length cs

-- two sums that can be added
pub record Addends (sp : List ℕ) (sc : List ℤ) (tp : List ℕ) (tc : List ℤ) : Type 0 where
  pub first : HeldSum sp sc
  pub second : HeldSum tp tc
  pub light : weight (terms sp sc) + weight (terms tp tc) ≤ largest_weight

-- two sums that can be multiplied
pub record Factors (sp : List ℕ) (sc : List ℤ) (tp : List ℕ) (tc : List ℤ) : Type 0 where
  pub first : Held sp sc
  pub second : Held tp tc
  pub low : degree_of (terms sp sc) + degree_of (terms tp tc) ≤ largest_degree
  pub light : weight (terms sp sc) * weight (terms tp tc) ≤ largest_weight

-- and one that can be raised to the power e; nothing in it is 0
pub record Base (sp : List ℕ) (sc : List ℤ) (e : ℕ) : Type 0 where
  pub held : Held sp sc
  pub full : T (no_zero (terms sp sc))
  pub low : degree_of (terms sp sc) * e ≤ largest_degree
  pub light : weight (terms sp sc) ^ e ≤ largest_weight
