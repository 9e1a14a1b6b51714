-- Simplify, from a table to a packed sum: ROOM, SHAPE, then the nodes. Done, it returns the length: that many bytes are written into the result area, and its
-- other places stay. On refusal the result area stays. After any answer but ROOM the first 8,192 places of both work areas are zero, and their further places
-- stay; after ROOM all stay.
use Rattle.std.specs.Prelude.{◌&&◌, List, [], ℕ, ◌-◌, leb, ℤ, pos, length, get_or}
use Rattle.algebra.specs.Limits.{variables, work_places}
use Rattle.algebra.specs.Sum.{Sum}
use Rattle.answers.specs.Refusals.{ROOM}
use Rattle.answers.specs.Answers.{Outcome, check}
use Rattle.answers.specs.Areas.{cleared}
use Rattle.answers.specs.Judge.{Judged, Judged.good, and_then}
use Rattle.packed.specs.Packed.{most_bytes}
use Rattle.packed.specs.Result.{WorkAreas, packed_into, beside}
use Rattle.formula.specs.Table.{Entry, sums, judge_table}

-- the last node is the formula
abbrev pub last_sum : List Entry → Sum
last_sum nodes = get_or (sums nodes) (length nodes - 1) []

-- the sum of a table that has passed, or its first refusal
unfoldable pub table_sum : List ℤ → Judged Sum
table_sum table = and_then (judge_table table) (λ nodes. good (last_sum nodes))

unfoldable pub simplify : List ℤ → List ℕ → List ℤ → List ℕ → Outcome WorkAreas
simplify table patterns coefficients result =
    check (leb work_places (length patterns) && (leb work_places (length coefficients) && leb (most_bytes variables) (length result))) ROOM 0 (patterns, coefficients, result)
    (beside (cleared 0 work_places patterns) (cleared (pos 0) work_places coefficients) (packed_into (table_sum table) result))
