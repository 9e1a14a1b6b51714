-- Slope of a packed sum by one variable: ROOM, SUM, VARIABLE, WEIGHT, SPREAD.
use Rattle.std.specs.Prelude.{List, ℕ, ltb, leb, length}
use Rattle.algebra.specs.Limits.{variables, most_terms, largest_weight}
use Rattle.algebra.specs.Sum.{Sum, weight}
use Rattle.algebra.specs.Slope as algebra
use Rattle.answers.specs.Refusals.{ROOM, WEIGHT, SPREAD, SUM, VARIABLE}
use Rattle.answers.specs.Answers.{Outcome, check}
use Rattle.answers.specs.Judge.{Judged, Judged.good, holding, and_then}
use Rattle.packed.specs.Packed.{most_bytes}
use Rattle.packed.specs.ReadSum.{read_whole}
use Rattle.packed.specs.Whole.{judged}
use Rattle.packed.specs.Result.{packed_into}

-- refused if the variable's number is above 7, if the absolute coefficients of the result, added, are above 2^62, or if its terms are more than 128
unfoldable pub judge_slope : ℕ → Sum → Judged Sum
judge_slope v s =
    let sloped = algebra.slope v s in
    holding (ltb v variables) VARIABLE 0
    (holding (leb (weight sloped) largest_weight) WEIGHT 0
    (holding (leb (length sloped) most_terms) SPREAD 0
    (good sloped)))

unfoldable pub slope : List ℕ → ℕ → List ℕ → Outcome (List ℕ)
slope bytes v result =
    check (leb (most_bytes variables) (length result)) ROOM 0 result
    (packed_into (and_then (judged SUM (read_whole variables bytes)) (judge_slope v)) result)
