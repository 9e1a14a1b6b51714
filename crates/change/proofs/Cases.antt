-- Slopes and substitutions, beside the cases of document 01 (which are in `promises`): one table, which the checker computes.
use mathlib.Core.Path.{◌≡◌, refl}
use mathlib.Core.List.{List, [], ◌∷◌, ◌++◌}
use Prim.Native.Nat.{ℕ, zero, suc, ◌+◌, ◌*◌, ◌-◌}
use lib.ListN.{length, replicate}
use Rattle.answers.proofs.Tables.{◌also◌}
use Rattle.answers.specs.Promised.{Each}
use Rattle.algebra.specs.Limits.{variables}
use Rattle.algebra.specs.Pattern.{times, degree, same, then_by, by_powers, order}
use Rattle.algebra.specs.Sum.{Sum, degree_of, weight}
use Rattle.algebra.specs.Collect.{settle, insert, gather, keep, drop_zeros, collect, occurs, count_new, spread}
use Rattle.algebra.specs.Arithmetic.{row, pairs, ◌⊗◌, product_spread, power, power_spread}
use Rattle.algebra.specs.Slope.{slope}
use Rattle.algebra.specs.Substitute.{substitute}
use Rattle.algebra.specs.Substitute.{rows, pair_rows, pair_degree, pair_weight, largest_power, pair_spread}
use Rattle.answers.specs.Refusals.{DEGREE, WEIGHT, SPREAD, SUM, LIST, VARIABLE}
use Rattle.answers.specs.Judge.{Judged, Judged.good, Judged.fails, holding, and_then}
use Rattle.numbers.specs.Item as item
use Rattle.numbers.specs.Number.{groups_of, number_bytes, read_byte, read_groups, read_number}
use Rattle.numbers.specs.Code.{code, decode}
use Rattle.packed.specs.Packed.{exponent_bytes, term_bytes, bytes_of_terms, packed}
use Rattle.packed.proofs.CaseBytes.{powers, two, square, heaviest}
use Rattle.packed.specs.Judge.{weighs, follows}
use Rattle.packed.specs.ReadSum.{read_coefficient, read_exponents, read_term, read_terms, read_sum, read_whole}
use Rattle.packed.specs.Whole.{judged}
use Rattle.change.specs.Slope.{judge_slope}
use Rattle.change.specs.Pairs.{read_pairs, read_list}
use Rattle.change.specs.Substitute.{judge_pair, judge_pairs, judge_substitute}

-- ---- A case says what bytes give: packed bytes, or a refusal and its place.

pub data Case : Type 0 where
  -- the slope by a variable
  slopes : List ℕ → ℕ → Judged (List ℕ) → Case
  -- a list put in
  puts : List ℕ → List ℕ → Judged (List ℕ) → Case

abbrev pub bytes_of : Judged Sum → Judged (List ℕ)
bytes_of (good s) = good (packed s)
bytes_of (fails refusal settle) = fails refusal settle

abbrev pub Says : Case → Type 0
Says (slopes bytes v gives) = bytes_of (and_then (judged SUM (read_whole variables bytes)) (judge_slope v)) ≡ gives
Says (puts bytes list gives) = bytes_of (judge_substitute bytes list) ≡ gives

-- ---- Short names.

-- the power k of one letter alone
alone : ℕ → ℕ → List ℕ
alone v k = 2 ∷ powers (replicate v 0 ++ (k ∷ []))

nothing : List ℕ
nothing = 0 ∷ []

-- the code of 2^61
half : List ℕ
half = replicate 8 128 ++ (64 ∷ [])

a_squared : List ℕ
a_squared = 1 ∷ two 2 2 0

-- the power k of each of the last letters, so many of them
lasts : ℕ → ℕ → List ℕ
unfolding alone
lasts zero k = []
lasts (suc m) k = alone (variables - suc m) k ++ lasts m k

-- every letter, and its cube: any two of these have a product of their own
every_twice : List ℕ
unfolding lasts
every_twice = (2 * variables) ∷ lasts variables 3 ++ lasts variables 1

-- a·b^k, and so on down to a
column : ℕ → List ℕ
column zero = two 2 1 0
column (suc k) = two 2 1 (suc k) ++ column k

-- ---- The table.

pub table : List Case
unfolding alone nothing half a_squared lasts every_twice column
table =
    -- a term without the variable has the pattern of another's slope: ab + a by b is a
    slopes (2 ∷ two 2 1 1 ++ two 2 1 0) 1 (good (1 ∷ two 2 1 0))
    -- there is no such variable, and a bad sum comes before that
    ∷ slopes square variables (fails VARIABLE 0)
    ∷ slopes (square ++ nothing) variables (fails SUM (length square))
    -- 2^61·a² has a slope of weight 2^62; 2^62·a² is refused, and not by c
    ∷ slopes (1 ∷ half ++ powers (2 ∷ [])) 0 (good (1 ∷ heaviest ++ powers (1 ∷ [])))
    ∷ slopes (1 ∷ heaviest ++ powers (2 ∷ [])) 0 (fails WEIGHT 0)
    ∷ slopes (1 ∷ heaviest ++ powers (2 ∷ [])) 2 (good nothing)
    -- a list without pairs, no list at all, and one pair more than there are variables
    ∷ puts square (0 ∷ []) (good square)
    ∷ puts square [] (fails LIST 0)
    ∷ puts square (suc variables ∷ []) (fails LIST 0)
    -- a count that is not shortest, and a list that ends at a variable
    ∷ puts square (128 ∷ 0 ∷ []) (fails LIST 0)
    ∷ puts square (1 ∷ []) (fails LIST 1)
    -- a variable too many, and a number that is not shortest; a sum that is cut, one that is bad, and a byte left over
    ∷ puts square (1 ∷ variables ∷ []) (fails VARIABLE 1)
    ∷ puts square (1 ∷ (128 + variables) ∷ 0 ∷ []) (fails LIST 1)
    ∷ puts square (1 ∷ 0 ∷ 1 ∷ 2 ∷ []) (fails LIST 4)
    ∷ puts square (1 ∷ 0 ∷ 1 ∷ 0 ∷ []) (fails LIST 3)
    ∷ puts square (0 ∷ 5 ∷ []) (fails LIST 1)
    -- the sum comes before the list, and the whole list before any pair
    ∷ puts (square ++ nothing) [] (fails SUM (length square))
    ∷ puts (1 ∷ two 2 60 0) (2 ∷ 0 ∷ a_squared ++ (variables ∷ [])) (fails VARIABLE (2 + length a_squared))
    -- a := b, b := a, one after the other: a + 2b becomes 3b, and then 3a
    ∷ puts (2 ∷ two 2 1 0 ++ two 4 0 1) (2 ∷ 0 ∷ 1 ∷ two 2 0 1 ++ (1 ∷ 1 ∷ two 2 1 0)) (good (1 ∷ two 6 1 0))
    -- a := a + 1, twice
    ∷ puts (1 ∷ two 2 1 0) (2 ∷ 0 ∷ 2 ∷ two 2 1 0 ++ two 2 0 0 ++ (0 ∷ 2 ∷ two 2 1 0 ++ two 2 0 0)) (good (2 ∷ two 2 1 0 ++ two 4 0 0))
    -- a², a := b^30 and then b := b²: the second pair has the degree 120
    ∷ puts a_squared (2 ∷ 0 ∷ 1 ∷ two 2 0 30 ++ (1 ∷ 1 ∷ two 2 0 2)) (fails DEGREE 1)
    -- the degree is judged before the weight
    ∷ puts a_squared (1 ∷ 0 ∷ 1 ∷ heaviest ++ powers (0 ∷ 60 ∷ [])) (fails DEGREE 0)
    -- a² + 1 with a := 2^31·b weighs 2^62 + 1; the same with a := 0 is 1
    ∷ puts (2 ∷ two 2 2 0 ++ two 2 0 0) (1 ∷ 0 ∷ 1 ∷ 128 ∷ 128 ∷ 128 ∷ 128 ∷ 16 ∷ powers (0 ∷ 1 ∷ [])) (fails WEIGHT 0)
    ∷ puts (2 ∷ two 2 2 0 ++ two 2 0 0) (1 ∷ 0 ∷ nothing) (good (1 ∷ two 2 0 0))
    -- the square of a sum of every letter and its cube has more than 128 patterns
    ∷ puts a_squared (1 ∷ 0 ∷ every_twice) (fails SPREAD 0)
    -- 43 terms with a, and three terms put for it: 129 patterns together
    ∷ puts (43 ∷ column 42) (1 ∷ 0 ∷ 3 ∷ alone 2 1 ++ alone 3 1 ++ alone 4 1) (fails SPREAD 0)
    ∷ []

pub cases-hold : Each Says table
unfolding table alone nothing half a_squared lasts every_twice column times degree same then_by by_powers order degree_of weight settle insert gather keep drop_zeros collect occurs count_new spread row pairs ◌⊗◌ product_spread power power_spread slope rows pair_rows substitute pair_degree pair_weight largest_power pair_spread holding and_then item.and_then item.provided item.mapped groups_of number_bytes read_byte read_groups read_number code decode exponent_bytes term_bytes bytes_of_terms packed weighs follows read_coefficient read_exponents read_term read_terms read_sum read_whole judge_slope item.renamed read_pairs read_list judge_pair judge_pairs judge_substitute
cases-hold =
    refl also refl also refl
    also refl also refl also refl
    also refl also refl also refl
    also refl also refl
    also refl also refl also refl also refl also refl
    also refl also refl
    also refl also refl
    also refl
    also refl
    also refl also refl
    also refl also refl
    also tt
