-- Substitute: a packed sum and a list. ROOM, SUM, the list's faults; then the pairs are applied one after the other, each to the result of the one before, and
-- each is judged by DEGREE, WEIGHT and SPREAD, with its index for the place. Done, it returns the length: that many bytes are written into the result area, and
-- its other places stay. On refusal the result area stays. After any answer but ROOM the first 8,192 places of both work areas are zero, and their further
-- places stay; after ROOM all stay.
use Rattle.std.specs.Prelude.{◌&&◌, List, [], ◌∷◌, ℕ, suc, leb, ℤ, pos, length}
use Rattle.algebra.specs.Limits.{variables, largest_degree, most_terms, largest_weight, work_places}
use Rattle.algebra.specs.Sum.{Sum}
use Rattle.algebra.specs.Substitute as algebra
use Rattle.algebra.specs.Substitute.{pair_degree, pair_weight, pair_spread}
use Rattle.answers.specs.Refusals.{ROOM, DEGREE, WEIGHT, SPREAD, SUM}
use Rattle.answers.specs.Answers.{Outcome, check}
use Rattle.answers.specs.Areas.{cleared}
use Rattle.answers.specs.Judge.{Judged, Judged.good, holding, and_then}
use Rattle.packed.specs.Packed.{most_bytes}
use Rattle.packed.specs.ReadSum.{read_whole}
use Rattle.packed.specs.Whole.{judged}
use Rattle.packed.specs.Result.{WorkAreas, packed_into, beside}
use Rattle.change.specs.Pairs.{Pair, read_list, list_judged}

-- what a pair makes of a sum
abbrev pub put_in : Pair → Sum → Sum
put_in p s = algebra.substitute variables p.variable p.sum s

-- pair j of the list, applied to s
unfoldable pub judge_pair : ℕ → Pair → Sum → Judged Sum
judge_pair j p s =
    holding (leb (pair_degree p.variable p.sum s) largest_degree) DEGREE j
    (holding (leb (pair_weight p.variable p.sum s) largest_weight) WEIGHT j
    (holding (leb (pair_spread variables p.variable p.sum s) most_terms) SPREAD j
    (good (put_in p s))))

-- the pairs from pair j on
unfoldable pub judge_pairs : ℕ → List Pair → Sum → Judged Sum
judge_pairs j [] s = good s
judge_pairs j (p ∷ ps) s = and_then (judge_pair j p s) (judge_pairs (suc j) ps)

unfoldable pub judge_substitute : List ℕ → List ℕ → Judged Sum
judge_substitute bytes list =
    and_then (judged SUM (read_whole variables bytes)) (λ s.
    and_then (list_judged (read_list variables list)) (λ ps.
    judge_pairs 0 ps s))

unfoldable pub substitute : List ℕ → List ℕ → List ℕ → List ℤ → List ℕ → Outcome WorkAreas
substitute bytes list patterns coefficients result =
    check (leb work_places (length patterns) && (leb work_places (length coefficients) && leb (most_bytes variables) (length result))) ROOM 0 (patterns, coefficients, result)
    (beside (cleared 0 work_places patterns) (cleared (pos 0) work_places coefficients) (packed_into (judge_substitute bytes list) result))
