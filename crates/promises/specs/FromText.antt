-- What a typed formula comes to at readings: read, simplified, estimated; or the first refusal on the way.
use Rattle.std.specs.Prelude.{List, ℕ}
use Rattle.answers.specs.Judge.{Judged, and_then}
use Rattle.text.specs.Text.{text_sum}
use Rattle.estimates.specs.Range.{Estimate, judge_terms}

unfoldable pub estimate_of : List ℕ → List ℕ → List ℕ → Judged Estimate
estimate_of text readings tolerances = and_then (text_sum text) (λ s. judge_terms s readings tolerances)
