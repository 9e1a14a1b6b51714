-- What is promised of the estimate: when it is done, with what, and when it is refused, and how.
use Rattle.std.specs.Prelude.{◌≡◌, List, ℕ, ◌≤◌, ◌<◌, ℤ, length}
use Rattle.algebra.specs.Limits.{variables, largest_weight}
use Rattle.algebra.specs.Sum.{Sum}
use Rattle.algebra.specs.Value.{value}
use Rattle.algebra.specs.Margin.{size, raised_by, margin}
use Rattle.answers.specs.Refusals.{ROOM, SUM, READING, RANGE}
use Rattle.answers.specs.Areas.{written}
use Rattle.packed.specs.ReadSum.{read_whole}
use Rattle.packed.specs.Promised.{PackedSum, AtFault}
use Rattle.estimates.specs.Readings.{two_byte_numbers}
use Rattle.estimates.specs.Promised.{RightLength, Given, FirstNegative}
use Rattle.router.specs.Estimate.{answer_bytes, answer_of}

-- it is done: every check passes, and the answer has the value at the readings and the margin
pub record Estimated (bytes readings tolerances area : List ℕ) (n : ℕ) (area' : List ℕ) : Type 0 where
  pub sum : Sum
  pub rs : List ℤ
  pub ts : List ℕ
  pub room : answer_bytes ≤ length area
  pub of_bytes : PackedSum bytes sum
  pub given : Given readings tolerances rs ts
  pub within : size sum (raised_by rs ts) ≤ largest_weight
  pub number_is : n ≡ answer_bytes
  pub area_is : area' ≡ written (answer_of (value sum rs) (margin sum rs ts)) area

-- it is refused: the refusal, its place, and the area, which stays
pub data EstimateRefuses (bytes readings tolerances area : List ℕ) : ℕ → ℕ → List ℕ → Type 0 where
  no_room : length area < answer_bytes → EstimateRefuses bytes readings tolerances area ROOM 0 area
  at_sum : {p : ℕ} → answer_bytes ≤ length area → AtFault (read_whole variables bytes) p → EstimateRefuses bytes readings tolerances area SUM p area
  at_length : {s : Sum} → answer_bytes ≤ length area → PackedSum bytes s → (RightLength readings tolerances → ⊥) → EstimateRefuses bytes readings tolerances area READING 0 area
  at_tolerance : {s : Sum} {v : ℕ} → answer_bytes ≤ length area → PackedSum bytes s → RightLength readings tolerances → FirstNegative (two_byte_numbers tolerances) v
      → EstimateRefuses bytes readings tolerances area READING v area
  beyond : {s : Sum} {rs : List ℤ} {ts : List ℕ} → answer_bytes ≤ length area → PackedSum bytes s → Given readings tolerances rs ts
      → largest_weight < size s (raised_by rs ts) → EstimateRefuses bytes readings tolerances area RANGE 0 area
