-- What the estimate answers fits in the number for a C host, and what the host learns from it.
use mathlib.Core.Path.{◌≡◌}
use mathlib.Core.List.{List, [], ◌∷◌}
use Prim.Native.Nat.{ℕ, ◌≤◌, ◌<◌}
use native.Mathlib.Omega.{arith}
use lib.Dec.{T}
use lib.ListN.{length, get_or}
use Rattle.answers.specs.Answers.{outcome}
use Rattle.answers.specs.Host.{hosted, heard, narrow_unit}
use Rattle.answers.specs.Inside.Fits.{fits_host}
use Rattle.answers.proofs.Hosting.{between, within, within-fits, narrow-heard, outcome-heard}
use Rattle.answers.specs.Promised.{Numbered, Hearable}
use Rattle.packed.proofs.Results.{fault-small}
use Rattle.estimates.specs.Readings.{two_byte_numbers}
use Rattle.router.specs.Estimate.{estimate}
use Rattle.estimates.proofs.Tolerances.{negative-inside}
use Rattle.router.specs.Promised.{EstimateRefuses, EstimateRefuses.no_room, EstimateRefuses.at_sum, EstimateRefuses.at_length, EstimateRefuses.at_tolerance, EstimateRefuses.beyond}
use Rattle.router.proofs.Estimating.{estimate-means, estimate-refuses}

-- no more numbers than bytes
numbers-most : (bytes : List ℕ) → length (two_byte_numbers bytes) ≤ length bytes
unfolding two_byte_numbers
numbers-most [] = omega arith
numbers-most (low ∷ []) = omega arith
numbers-most (low ∷ high ∷ rest) = omega (arith, numbers-most rest)

module _ (bytes : List ℕ) (byte : (i : ℕ) → get_or bytes i 0 < 256) (readings tolerances area : List ℕ) where
  refusal-place : {refusal p : ℕ} {area' : List ℕ} → EstimateRefuses bytes readings tolerances area refusal p area' → p < narrow_unit
  refusal-place (no_room short) = omega arith
  refusal-place (at_sum room a) = fault-small bytes byte a
  refusal-place (at_length room s short) = omega arith
  refusal-place (at_tolerance room s l first) = omega (arith, negative-inside (two_byte_numbers tolerances) first, numbers-most tolerances, l.tolerances_long)
  refusal-place (beyond room s g far) = omega arith

  refusal-numbered : {refusal p : ℕ} {area' : List ℕ} → EstimateRefuses bytes readings tolerances area refusal p area' → Numbered refusal
  refusal-numbered (no_room short) = between (omega arith) (omega arith)
  refusal-numbered (at_sum room a) = between (omega arith) (omega arith)
  refusal-numbered (at_length room s short) = between (omega arith) (omega arith)
  refusal-numbered (at_tolerance room s l first) = between (omega arith) (omega arith)
  refusal-numbered (beyond room s g far) = between (omega arith) (omega arith)

  estimate_within : Hearable narrow_unit (estimate bytes readings tolerances area).answer
  estimate_within =
      within (estimate bytes readings tolerances area)
      (λ n a e. omega (arith, (estimate-means bytes byte readings tolerances area e).number_is))
      (λ r p a e. let d = estimate-refuses bytes byte readings tolerances area e in record { numbered = refusal-numbered d; below = refusal-place d })

  pub estimate-fits : T (fits_host narrow_unit (estimate bytes readings tolerances area).answer)
  estimate-fits = within-fits narrow_unit (omega arith) (estimate bytes readings tolerances area).answer estimate_within

  -- the host's number, and the area, tell the whole outcome
  pub estimate-heard : {number : ℕ} {area' : List ℕ} → (number, area') ≡ hosted narrow_unit (estimate bytes readings tolerances area)
      → estimate bytes readings tolerances area ≡ outcome (heard number) area'
  estimate-heard e =
      let o = estimate bytes readings tolerances area in
      outcome-heard narrow_unit o (narrow-heard o.answer estimate_within) e
