-- What is promised of readings and tolerances: when they are given, and when not.
use Rattle.std.specs.Prelude.{◌≡◌, true, false, List, map, ℕ, ◌<◌, ℤ, pos, length, get_or}
use Rattle.std.specs.Int.Signed.{non_neg}
use Rattle.algebra.specs.Limits.{variables}
use Rattle.estimates.specs.Readings.{reading_bytes, two_byte_numbers}

-- both are as long as they must be
pub record RightLength (readings tolerances : List ℕ) : Type 0 where
  pub readings_long : length readings ≡ reading_bytes variables
  pub tolerances_long : length tolerances ≡ reading_bytes variables

-- the readings are rs; the tolerances are ts, none of them negative
pub record Given (readings tolerances : List ℕ) (rs : List ℤ) (ts : List ℕ) : Type 0 where
  pub long : RightLength readings tolerances
  pub readings_are : two_byte_numbers readings ≡ rs
  pub tolerances_are : two_byte_numbers tolerances ≡ map pos ts

-- no tolerance before place v is negative
abbrev pub NoneBefore : List ℤ → ℕ → Type 0
NoneBefore ts v = (i : ℕ) → i < v → non_neg (get_or ts i (pos 0)) ≡ true

-- the one at place v is negative, and none before it
pub record FirstNegative (ts : List ℤ) (v : ℕ) : Type 0 where
  pub negative_there : non_neg (get_or ts v (pos 0)) ≡ false
  pub none_before : NoneBefore ts v
