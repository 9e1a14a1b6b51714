use mathlib.Core.Path.{◌≡◌, refl}
use mathlib.Core.List.{[], ◌∷◌, ◌++◌}
use Prim.Native.Nat.{◌<◌}
use native.Mathlib.Omega.{arith}
use borrow.Author.Rules.{rules}
use lib.IntN.{pos}
use lib.ListN.{length, get_or, drop}
use mir.Syntax.{w64}
use mir.Val.{SFits}
use Rattle.algebra.specs.Word.{terms}
use Rattle.numbers.proofs.Writing.{Writing, start, first, left_as, has_room, next, joined, byte-room, completed}
use Rattle.text.specs.Signs.{zero_digit}
use Rattle.spelling.specs.Spelling.{first_text, next_text, more_terms, sum_text}
use Rattle.spelling.proofs.SumText.{handed, leading, further, no-further, zero-text}
use Rattle.spelling.proofs.terms.write_sum.Goals as goal
use Rattle.spelling.proofs.terms.write_sum.Goals.{After-loop-k, After-write_first-place, Else-is_empty, Then-is_empty}

-- there are no terms
none : (d : Then-is_empty) → Writing d.args.area.now 0 (sum_text (terms d.args.sum.patterns.now d.args.sum.coefficients.now)) d.args.area.now 0 (zero_digit ∷ [])
none d =
    let empty : length d.args.sum.patterns.now ≡ 0 = search rules in
    left_as (zero-text _ _ d.requires.as_many empty) (first _ _ d.requires.sum_in_bounds)

-- the first term, and the others after it
begun : (d : Else-is_empty) → SFits w64 (get_or d.args.sum.coefficients.now 0 (pos 0))
    → Writing d.args.area.now 0 (sum_text (terms d.args.sum.patterns.now d.args.sum.coefficients.now)) d.args.area.now 0
    (first_text (handed d.args.sum.patterns.now d.args.sum.coefficients.now 0) ++ more_terms (drop 1 (terms d.args.sum.patterns.now d.args.sum.coefficients.now)))
begun d fits =
    let some : 0 < length d.args.sum.patterns.now = search rules in
    left_as (leading _ _ d.requires.as_many some fits) (first _ _ d.requires.sum_in_bounds)

-- the first term is written
led : (d : After-write_first-place)
    → Writing d.args.area.now 0 (sum_text (terms d.args.sum.patterns.now d.args.sum.coefficients.now)) d.args.area.now 0
    (first_text (handed d.args.sum.patterns.now d.args.sum.coefficients.now 0) ++ more_terms (drop 1 (terms d.args.sum.patterns.now d.args.sum.coefficients.now)))
    → Writing d.args.area.now 0 (sum_text (terms d.args.sum.patterns.now d.args.sum.coefficients.now)) d.write_first-place.new.area d.write_first-place.result
    (more_terms (drop 1 (terms d.args.sum.patterns.now d.args.sum.coefficients.now)))
led d w = next _ _ refl w d.write_first-place.ensures.area_after d.write_first-place.ensures.value

-- all terms are written
ended : (d : After-loop-k)
    → Writing d.args.area.now 0 (sum_text (terms d.args.sum.patterns.now d.args.sum.coefficients.now)) d.write_first-place.new.area d.write_first-place.result
    (more_terms (drop 1 (terms d.args.sum.patterns.now d.args.sum.coefficients.now)))
    → Writing d.args.area.now 0 (sum_text (terms d.args.sum.patterns.now d.args.sum.coefficients.now)) d.loop-k.area d.loop-k.place []
ended d w = joined w (left_as (no-further _ _ d.requires.as_many _ d.loop-k-test.false) d.loop-k.invariant)

pub bounds-area-0 : goal.bounds-area-0
bounds-area-0 c = byte-room (none c) _ _ refl

pub returns-then-is_empty : goal.returns-then-is_empty
returns-then-is_empty c = let all = completed (none c) refl refl in record { value = all.0; area_after = all.1 }

pub write_first-place-requires-clause-pattern_in_bounds : goal.write_first-place-requires-clause-pattern_in_bounds
write_first-place-requires-clause-pattern_in_bounds c = has_room (first_text (handed c.args.sum.patterns.now c.args.sum.coefficients.now 0)) _ refl (begun (goal.at.write_first-place-requires-clause-pattern_in_bounds c).Else-is_empty (search rules))

pub loop-k-init : goal.loop-k-init
loop-k-init c =
    let d = goal.at.loop-k-init c in
    let w = led d.After-write_first-place (begun d.Else-is_empty (search rules)) in
    start _ _ _ w.room

pub write_next-place-requires-clause-pattern_in_bounds : goal.write_next-place-requires-clause-pattern_in_bounds
write_next-place-requires-clause-pattern_in_bounds c = has_room (next_text (handed c.args.sum.patterns.now c.args.sum.coefficients.now c.loop-k.k)) _ (further _ _ c.requires.as_many _ c.loop-k-test.true (search rules)) c.loop-k.invariant

pub loop-k-preserved : goal.loop-k-preserved
loop-k-preserved c = next _ _ (further _ _ c.requires.as_many _ c.loop-k-test.true (search rules)) c.loop-k.invariant c.write_next-place.ensures.area_after c.write_next-place.ensures.value

pub returns : goal.returns
returns c =
    let d = goal.at.returns c in
    let all = completed (ended c (led d.After-write_first-place (begun d.Else-is_empty (search rules)))) {place' = c.loop-k.place} (omega arith) refl in
    record { value = all.0; area_after = all.1 }
