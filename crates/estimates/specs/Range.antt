-- Estimate and margin of a sum at readings: RANGE.
use Rattle.std.specs.Prelude.{List, ℕ, leb, ℤ}
use Rattle.algebra.specs.Limits.{largest_weight}
use Rattle.algebra.specs.Sum.{Sum}
use Rattle.algebra.specs.Value.{value}
use Rattle.algebra.specs.Margin.{size, raised_by, margin}
use Rattle.answers.specs.Refusals.{RANGE}
use Rattle.answers.specs.Judge.{Judged, Judged.good, holding, and_then}
use Rattle.estimates.specs.Readings.{Readings, judge_readings}

-- the value at the readings, and a bound on how far the true value is from it
pub record Estimate : Type 0 where
  pub estimate : ℤ
  pub margin : ℕ

-- refused if the raised value is above 2^62
unfoldable pub judge_range : Sum → Readings → Judged Estimate
judge_range s r =
    holding (leb (size s (raised_by r.readings r.tolerances)) largest_weight) RANGE 0
    (good (record { estimate = value s r.readings; margin = margin s r.readings r.tolerances }))

-- readings and tolerances are judged first
unfoldable pub judge_terms : Sum → List ℕ → List ℕ → Judged Estimate
judge_terms s readings tolerances = and_then (judge_readings readings tolerances) (judge_range s)
