-- Degrees, weights and spreads, beside the cases of document 01 (which are in `promises`): one table of counts in eight variables, which the checker computes.
use mathlib.Core.Path.{◌≡◌, refl}
use mathlib.Core.List.{List, [], ◌∷◌}
use Prim.Native.Nat.{ℕ}
use lib.IntN.{ℤ, pos, negsuc}
use lib.ListN.{length}
use Rattle.answers.proofs.Tables.{◌also◌}
use Rattle.answers.specs.Promised.{Each}
use Rattle.algebra.specs.Limits.{variables, largest_weight}
use Rattle.algebra.specs.Pattern.{times, degree, same, then_by, by_powers, order}
use Rattle.algebra.specs.Sum.{Sum, degree_of, weight}
use Rattle.algebra.specs.Collect.{settle, insert, gather, keep, drop_zeros, collect, occurs, count_new, spread}
use Rattle.algebra.specs.Arithmetic.{integer, variable, row, pairs, ◌⊕◌, sum_spread, ◌⊗◌, product_spread, power, power_spread}
use Rattle.algebra.specs.Margin.{pattern_size, size, unsigned, raised_by, margin}
use Rattle.algebra.specs.Substitute.{rows, pair_rows, substitute, pair_degree, pair_weight, largest_power, pair_spread}

-- ---- A case is a count, and what it comes to.

pub data Case : Type 0 where
  counts : ℕ → ℕ → Case

abbrev pub Says : Case → Type 0
Says (counts m n) = m ≡ n

-- ---- Short names for the table. `unfolding computing` opens every definition that it computes with.

computing : ℕ
unfolding times degree same then_by by_powers order degree_of weight settle insert gather keep drop_zeros collect occurs count_new spread integer variable row pairs ◌⊕◌ sum_spread ◌⊗◌ product_spread power power_spread rows pair_rows substitute pair_degree pair_weight largest_power pair_spread pattern_size size unsigned raised_by margin
computing = 0

x : ℕ → Sum
unfolding computing
x v = variable variables v

a : Sum
unfolding x
a = x 0

b : Sum
unfolding x
b = x 1

number : ℤ → Sum
unfolding computing
number n = integer variables n

infixl 9 ◌to◌
◌to◌ : Sum → ℕ → Sum
unfolding computing
s to k = power variables s k

minus : Sum → Sum
unfolding number
minus s = number (negsuc 0) ⊗ s

-- (a + b)² − b²
square : Sum
unfolding a b ◌to◌ minus
square = (a ⊕ b) to 2 ⊕ minus (b to 2)

-- 1 + 2a − 2a²
bent : Sum
unfolding a ◌to◌ number minus
bent = number (pos 1) ⊕ number (pos 2) ⊗ a ⊕ minus (number (pos 2) ⊗ a to 2)

-- ---- The table.

pub table : List Case
unfolding square bent ◌to◌ minus number a b x
table =
    -- 4 · (2a)^60 has the largest weight
    counts (weight (number (pos 4) ⊗ (number (pos 2) ⊗ a) to 60)) largest_weight
    -- (a − b)(a + b): three patterns among the pairs, and two terms
    ∷ counts (product_spread (a ⊕ minus b) (a ⊕ b)) 3
    ∷ counts (length ((a ⊕ minus b) ⊗ (a ⊕ b))) 2
    ∷ counts (sum_spread (a ⊕ b) (minus a ⊕ x 2)) 3
    -- degree with a³ put for b; weight with a − c put for b, and with 0 put for b, where 0^0 is 1
    ∷ counts (pair_degree 1 (a to 3) square) 4
    ∷ counts (pair_weight 1 (a ⊕ minus (x 2)) square) 5
    ∷ counts (pair_weight 1 [] square) 1
    -- 1 + 2a − 2a² put for a in a²: its square has five patterns, of which a² cancels
    ∷ counts (pair_spread variables 0 bent (a to 2)) 5
    ∷ counts (length (substitute variables 0 bent (a to 2))) 4
    -- the margin of (a + b)² − b² where a is 10 within 1 and b is 3 within 2; with like terms apart it would be 103
    ∷ counts (margin square (pos 10 ∷ pos 3 ∷ []) (1 ∷ 2 ∷ [])) 71
    ∷ []

pub cases-hold : Each Says table
unfolding table
cases-hold = refl also refl also refl also refl also refl also refl also refl also refl also refl also refl also tt
