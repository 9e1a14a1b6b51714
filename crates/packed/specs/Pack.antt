-- Pack: ROOM, SHAPE, then SUM at the first bad term. Done, it returns the length of the packed sum, which stands in the result area.
use Rattle.std.specs.Prelude.{Bool, cond, ◌&&◌, List, [], ◌∷◌, ℕ, suc, eqb, leb, ℤ, length, take}
use Rattle.algebra.specs.Limits.{variables, most_terms}
use Rattle.algebra.specs.Sum.{term, Sum, weight}
use Rattle.algebra.specs.Word.{exponents, is_valid}
use Rattle.answers.specs.Refusals.{ROOM, SHAPE, SUM}
use Rattle.answers.specs.Answers.{Told.done, Outcome, outcome, check}
use Rattle.answers.specs.Areas.{written}
use Rattle.packed.specs.Packed.{packed, most_bytes}
use Rattle.packed.specs.Judge.{weighs, follows}
use Rattle.algebra.specs.Held.{first_terms}

-- no zero coefficient, no total above 2^62, no degree above 60 (a word that is no pattern's is not valid either) and no wrong order
unfoldable pub is_good : Sum → ℕ → ℤ → Bool
is_good before w c = weighs (weight before) c && is_valid w && follows before (exponents w)

-- how many terms, held in words and coefficients, are good before the first bad one
unfoldable pub good_terms : Sum → List ℕ → List ℤ → ℕ
good_terms before [] cs = 0
good_terms before (w ∷ ws) [] = 0
good_terms before (w ∷ ws) (c ∷ cs) = cond (is_good before w c) (suc (good_terms (term c (exponents w) ∷ before) ws cs)) 0

-- `count` terms from the front of the two areas
unfoldable pub pack : ℕ → List ℕ → List ℤ → List ℕ → Outcome (List ℕ)
pack count patterns coefficients result =
    let good = good_terms [] (take count patterns) (take count coefficients) in
    let bytes = packed (first_terms count patterns coefficients) in
    check (leb (most_bytes variables) (length result)) ROOM 0 result
    (check (leb count most_terms && (leb count (length patterns) && leb count (length coefficients))) SHAPE 0 result
    (check (eqb good count) SUM good result
    (outcome (done (length bytes)) (written bytes result))))
