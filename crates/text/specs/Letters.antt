-- Which byte names which variable. (How many variables there are is no matter of this file.)
use Rattle.std.specs.Prelude.{cond, ◌&&◌, ℕ, ◌+◌, ◌-◌, leb}

pub data Letter : Type 0 where
  -- the variable that it names
  names : ℕ → Letter
  nothing : Letter

-- a is 97, h is 104: a to h name the variables 0 to 7
unfoldable pub letter_of : ℕ → Letter
letter_of b = cond (leb 97 b && leb b 104) (names (b - 97)) nothing

-- the byte that a variable is written as
unfoldable pub name_of : ℕ → ℕ
name_of v = 97 + v
