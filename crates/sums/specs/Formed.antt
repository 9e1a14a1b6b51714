-- A sum that is formed of others: it is given only where no spread on the way is above 128.
use Rattle.std.specs.Prelude.{cond, List, ◌++◌, ℕ, Option, Some, None, leb, ℤ, length}
use Rattle.algebra.specs.Limits.{variables, most_terms}
use Rattle.algebra.specs.Sum.{Sum}
use Rattle.algebra.specs.Collect.{gather, spread}
use Rattle.algebra.specs.Arithmetic.{◌⊕◌, sum_spread, ◌⊗◌, product_spread, power, power_spread}
use Rattle.algebra.specs.Held.{words_of, coefficients_of}
use Rattle.answers.specs.Areas.{written}

pub data Formed (A : Type 0) : Type 0 where
  formed : A → Formed A
  -- a spread is above 128
  over : Formed A

-- what the code's answer tells: the number of terms
abbrev pub formed_of : Option ℕ → Formed ℕ
formed_of (Some n) = formed n
formed_of None = over

unfoldable pub within : ℕ → Sum → Formed Sum
within m s = cond (leb m most_terms) (formed s) over

unfoldable pub sum_of : Sum → Sum → Formed Sum
sum_of s t = within (sum_spread s t) (s ⊕ t)

unfoldable pub product_of : Sum → Sum → Formed Sum
product_of s t = within (product_spread s t) (s ⊗ t)

unfoldable pub power_of : Sum → ℕ → Formed Sum
power_of s e = within (power_spread variables s e) (power variables s e)

-- a row goes into a running sum; what cancels stays, and counts
unfoldable pub with_row : Sum → Sum → Formed Sum
with_row row running = within (spread (row ++ running)) (gather (row ++ running))

-- the number of terms, and two areas with the terms in their first places; without a sum the areas stay
unfoldable pub formed_into : Formed Sum → List ℕ → List ℤ → Formed ℕ × List ℕ × List ℤ
formed_into (formed s) ws cs = (formed (length s), written (words_of s) ws, written (coefficients_of s) cs)
formed_into over ws cs = (over, ws, cs)
