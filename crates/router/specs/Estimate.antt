-- Estimate: ROOM, SUM, READING, RANGE. Done, the first 16 bytes of the answer area are the estimate and then its margin, and the rest stay.
use Rattle.std.specs.Prelude.{List, ◌++◌, ℕ, ◌+◌, leb, ℤ, pos, length, take, drop}
use Rattle.algebra.specs.Limits.{variables}
use Rattle.answers.specs.Refusals.{ROOM, SUM}
use Rattle.answers.specs.Answers.{Told.done, Told.refused, Outcome, outcome, check}
use Rattle.answers.specs.Areas.{written}
use Rattle.answers.specs.Judge.{Judged, Judged.good, Judged.fails, and_then}
use Rattle.packed.specs.ReadSum.{read_whole}
use Rattle.packed.specs.Whole.{judged}
use Rattle.numbers.specs.Bytes.{whole_bytes, signed_number, signed_bytes}
use Rattle.estimates.specs.Range.{Estimate, judge_terms}

unfoldable pub judge_estimate : List ℕ → List ℕ → List ℕ → Judged Estimate
judge_estimate bytes readings tolerances = and_then (judged SUM (read_whole variables bytes)) (λ s. judge_terms s readings tolerances)

-- 16
abbrev pub answer_bytes : ℕ
answer_bytes = whole_bytes + whole_bytes

-- the estimate, and then the margin
abbrev pub answer_of : ℤ → ℕ → List ℕ
answer_of e m = signed_bytes whole_bytes e ++ signed_bytes whole_bytes (pos m)

-- on refusal the area stays
unfoldable pub answer_into : Judged Estimate → List ℕ → Outcome (List ℕ)
answer_into (good e) answer = outcome (done answer_bytes) (written (answer_of e.estimate e.margin) answer)
answer_into (fails refusal place) answer = outcome (refused refusal place) answer

unfoldable pub estimate : List ℕ → List ℕ → List ℕ → List ℕ → Outcome (List ℕ)
estimate bytes readings tolerances answer =
    check (leb answer_bytes (length answer)) ROOM 0 answer
    (answer_into (judge_estimate bytes readings tolerances) answer)

-- ---- An answer, read: its first number, and the next one.

abbrev pub estimate_in : List ℕ → ℤ
estimate_in answer = signed_number (take whole_bytes answer)

abbrev pub margin_in : List ℕ → ℤ
margin_in answer = signed_number (take whole_bytes (drop whole_bytes answer))
