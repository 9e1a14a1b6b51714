-- Estimates, beside the cases of document 01 (which are in `promises`): one table, which the checker computes.
use mathlib.Core.Path.{◌≡◌, refl}
use mathlib.Core.Bool.{true}
use mathlib.Core.List.{List, [], ◌∷◌, ◌++◌}
use Prim.Native.Nat.{ℕ, ◌+◌, ◌*◌, ◌-◌}
use lib.IntN.{ℤ, pos, negsuc, one, pow}
use lib.ListN.{length, replicate}
use Rattle.algebra.specs.Limits.{variables, largest_weight}
use Rattle.algebra.specs.Pattern.{degree, then_by, by_powers, order}
use Rattle.algebra.specs.Sum.{weight}
use Rattle.algebra.specs.Value.{total, pattern_value, value}
use Rattle.algebra.specs.Margin.{pattern_size, size, unsigned, raised_by, margin}
use Rattle.answers.specs.Refusals.{SUM, READING, RANGE}
use Rattle.answers.specs.Host.{hosted, narrow_unit}
use Rattle.answers.specs.Judge.{Judged, Judged.good, Judged.fails, holding, and_then}
use Rattle.answers.proofs.Tables.{◌also◌}
use Rattle.answers.specs.Promised.{Each}
use Rattle.numbers.specs.Item as item
use Rattle.numbers.specs.Number.{read_byte, read_groups, read_number}
use Rattle.numbers.specs.Code.{decode}
use Rattle.packed.proofs.CaseBytes.{powers, two, square, heaviest}
use Rattle.packed.specs.Judge.{weighs, follows}
use Rattle.packed.specs.ReadSum.{read_coefficient, read_exponents, read_term, read_terms, read_sum, read_whole}
use Rattle.packed.specs.Whole.{judged}
use Rattle.numbers.specs.Bytes.{plain_number, signed_number, plain_bytes, signed_bytes}
use Rattle.estimates.specs.Readings.{reading_bytes, two_byte_numbers, spelled, before_negative, judge_readings}
use Rattle.router.specs.Cases.{of_letters, in_bytes, numbers_in, together, value_at, is_within}
use Rattle.estimates.specs.Range.{judge_range, judge_terms}
use Rattle.router.specs.Estimate.{judge_estimate, answer_into, estimate}

-- ---- A case is about packed bytes, readings and tolerances.

pub data Case : Type 0 where
  -- the estimate and its margin, or the refusal and its place
  gives : List ℕ → List ℤ → List ℤ → Judged (ℤ × ℕ) → Case
  -- the same, for readings and tolerances in bytes
  takes : List ℕ → List ℕ → List ℕ → Judged (ℤ × ℕ) → Case
  -- what is left in an area, and what a C host gets
  leaves : List ℕ → List ℤ → List ℤ → List ℕ → List ℕ → ℕ → Case
  -- true numbers within the tolerances, and the value there, which is the estimate and the margin together
  reaches : List ℕ → List ℤ → List ℤ → List ℤ → ℤ → Case

abbrev pub Says : Case → Type 0
Says (gives bytes rs ts said) = numbers_in (judge_estimate bytes (in_bytes rs) (in_bytes ts)) ≡ said
Says (takes bytes readings tolerances said) = numbers_in (judge_estimate bytes readings tolerances) ≡ said
Says (leaves bytes rs ts area area' number) = hosted narrow_unit (estimate bytes (in_bytes rs) (in_bytes ts) area) ≡ (number, area')
Says (reaches bytes rs ts xs n) =
    (is_within (of_letters xs) (of_letters rs) (unsigned (of_letters ts)) ≡ true)
    × ((value_at (judged SUM (read_whole variables bytes)) (of_letters xs) ≡ good n) × (together (judge_estimate bytes (in_bytes rs) (in_bytes ts)) ≡ good n))

-- ---- Short names.

-- the number 5 of places
fives : ℕ → List ℕ
fives n = replicate n 5

-- the code of −2^62
lowest : List ℕ
lowest = 255 ∷ replicate 7 255 ++ (127 ∷ [])

a : ℤ → List ℤ
a n = n ∷ []

ab : ℤ → ℤ → List ℤ
ab m n = m ∷ n ∷ []

-- how long the bytes of the readings are
abbrev long : ℕ
long = reading_bytes variables

-- ---- The table.

pub table : List Case
unfolding fives lowest a ab
table =
    -- what is left in an area of 18 bytes where estimate and margin are 160 and 71
    leaves square (ab (pos 10) (pos 3)) (ab (pos 1) (pos 2)) (fives 18) (160 ∷ replicate 7 0 ++ (71 ∷ replicate 7 0) ++ fives 2) 16
    -- the margin of a² at −3, within 1, is reached at −4
    ∷ reaches (1 ∷ two 2 2 0) (a (negsuc 2)) (a (pos 1)) (a (negsuc 3)) (pos 16)
    -- a² − 2a at 1, within 1: signs are dropped, so the margin is 5 although no truth is further off than 1
    ∷ gives (2 ∷ two 2 2 0 ++ two 3 1 0) (a (pos 1)) (a (pos 1)) (good (negsuc 0, 5))
    -- a^59·b, and a·b^59: a large power counts nothing beside a reading that is 0 for sure, and too much where that may be 1
    ∷ gives (1 ∷ two 2 59 1) (ab (pos 32767) (pos 0)) (ab (pos 32767) (pos 0)) (good (pos 0, 0))
    ∷ gives (1 ∷ two 2 1 59) (ab (pos 0) (pos 32767)) (ab (pos 0) (pos 1)) (good (pos 0, 0))
    ∷ gives (1 ∷ two 2 59 1) (ab (pos 32767) (pos 0)) (ab (pos 0) (pos 1)) (fails RANGE 0)
    -- ±2^62 alone; and the lowest reading, raised to 65535
    ∷ gives (1 ∷ heaviest ++ powers []) [] [] (good (pos largest_weight, 0))
    ∷ gives (1 ∷ lowest ++ powers []) [] [] (good (negsuc (largest_weight - 1), 0))
    ∷ gives (1 ∷ two 2 1 0) (a (negsuc 32767)) (a (pos 32767)) (good (negsuc 32767, 32767))
    -- −5, in two's complement; the zero sum
    ∷ leaves (1 ∷ two 1 1 0) (a (pos 5)) (a (pos 2)) (fives 16) (251 ∷ replicate 7 255 ++ (2 ∷ replicate 7 0)) 16
    ∷ gives (0 ∷ []) (a (negsuc 32767)) (a (pos 32767)) (good (pos 0, 0))
    -- the first negative tolerance, also of a letter that is not in the sum; 0 is none
    ∷ gives square [] (pos 0 ∷ pos 4 ∷ negsuc 0 ∷ pos 0 ∷ negsuc 32767 ∷ []) (fails READING 2)
    ∷ leaves square [] (replicate (variables - 1) (pos 0) ++ (negsuc 0 ∷ [])) (fives 16) (fives 16) (10 * narrow_unit + (variables - 1))
    -- a length that is not two bytes for each variable comes before that; and the sum before both
    ∷ takes square (replicate (long - 1) 0) (replicate long 255) (fails READING 0)
    ∷ takes square (replicate long 0) (replicate (long + 1) 255) (fails READING 0)
    ∷ takes square (replicate long 0) [] (fails READING 0)
    ∷ takes (square ++ (0 ∷ [])) (replicate (long - 1) 0) [] (fails SUM (length square))
    -- READING before RANGE
    ∷ gives (1 ∷ two 2 60 0) (a (pos 2000)) (pos 0 ∷ negsuc 0 ∷ []) (fails READING 1)
    -- an area of 15 bytes comes before all; on refusal the area stays
    ∷ leaves (1 ∷ []) [] (a (negsuc 0)) (fives 15) (fives 15) 65536
    ∷ leaves (1 ∷ []) [] (a (negsuc 0)) (fives 16) (fives 16) 458753
    ∷ leaves (1 ∷ two 2 60 0) (a (pos 2000)) [] (fives 16) (fives 16) 720896
    ∷ []

pub cases-hold : Each Says table
unfolding table spelled fives lowest a ab degree then_by by_powers order weight total pattern_value value pattern_size size unsigned raised_by margin pow one holding and_then item.and_then item.provided item.mapped read_byte read_groups read_number decode weighs follows read_coefficient read_exponents read_term read_terms read_sum read_whole plain_number signed_number plain_bytes signed_bytes two_byte_numbers before_negative judge_readings judge_range judge_terms judge_estimate answer_into estimate
cases-hold =
    refl also (refl, (refl, refl))
    also refl also refl also refl
    also refl also refl also refl also refl also refl
    also refl also refl also refl also refl also refl
    also refl also refl also refl also refl also refl
    also refl also tt
