use mathlib.Core.Path.{◌≡◌, ◌∙◌, ap}
use mathlib.Core.List.{[], ◌∷◌, ◌++◌}
use Prim.Native.Nat.{◌+◌, ◌≤◌, ◌<◌}
use native.Mathlib.Omega.{arith}
use borrow.Author.Rules.{rules}
use lib.IntN.{pos}
use lib.ListN.{get_or, length, length-append}
use mir.Syntax.{w64}
use mir.ValLaws.{to_z-of_z}
use Rattle.std.proofs.lemmas.Slice.Zip.{zip_turn, zip_end}
use Rattle.numbers.specs.Code.{code}
use Rattle.packed.proofs.WriteSum.{count_room, counted_is, begin, Due, code-room, exponents-room, again, stops}
use Rattle.packed.proofs.writer.write_sum.Goals as goal
use Rattle.packed.proofs.writer.write_sum.Goals.{After-code, In-None}

-- the next pattern and coefficient, and their place
turn : (d : After-code)
    → (length d.loop-pattern.yielded < length d.args.sum.patterns.now)
    × (d.in-Some.field-0-0.now ≡ get_or d.args.sum.patterns.now (length d.loop-pattern.yielded) 0)
    × (d.in-Some.field-0-1.now ≡ get_or d.args.sum.coefficients.now (length d.loop-pattern.yielded) (pos 0))
turn d =
    let all = zip_turn d.args.sum.patterns.now d.args.sum.coefficients.now d.loop-pattern.yielded d.into_iter-pattern-iterator.result d.loop-pattern.pattern-iterator d.next.new.self d.next.result (search rules) (search rules) d.loop-pattern.yielded_by _ d.in-Some.is d.next.ensures.steps in
    (all.0, all.2 0, all.3 (pos 0))

-- the coefficient's code is known
due : (d : After-code)
    → Due d.write_number-place.new.area d.write_number-place.result d.args.sum.patterns.now d.args.sum.coefficients.now d.loop-pattern.area d.loop-pattern.place (length d.loop-pattern.yielded) d.code.result
due d =
    let next = turn d in
    record {
      writing = d.loop-pattern.invariant;
      more = next.0;
      is = d.code.ensures ∙ ap code (to_z-of_z w64 d.in-Some.field-0-1.now (search rules) ∙ next.2);
    }

pub write_number-place-requires : goal.write_number-place-requires
write_number-place-requires c = rw c.len.ensures (count_room _ _ c.requires.as_many _ _ c.requires.room)

pub loop-pattern-init : goal.loop-pattern-init
loop-pattern-init c = begin _ _ c.requires.as_many (counted_is _ _ c.requires.as_many c.requires.room c.len.ensures c.write_number-place.ensures.0 c.write_number-place.ensures.1)

pub write_number-place-requires-in-loop-pattern : goal.write_number-place-requires-in-loop-pattern
write_number-place-requires-in-loop-pattern c = code-room (due c)

pub write_exponents-place-requires-clause-valid : goal.write_exponents-place-requires-clause-valid
write_exponents-place-requires-clause-valid c = let next = turn (goal.at.write_exponents-place-requires-clause-valid c).After-code in rw next.1 (c.requires.each_valid _ next.0)

pub write_exponents-place-requires-clause-pattern_in_bounds : goal.write_exponents-place-requires-clause-pattern_in_bounds
write_exponents-place-requires-clause-pattern_in_bounds c =
    let next = turn (goal.at.write_exponents-place-requires-clause-pattern_in_bounds c).After-code in
    rw next.1 (exponents-room (due (goal.at.write_exponents-place-requires-clause-pattern_in_bounds c).After-code) c.write_number-place-in-loop-pattern.ensures.0 c.write_number-place-in-loop-pattern.ensures.1)

pub loop-pattern-preserved : goal.loop-pattern-preserved
loop-pattern-preserved c =
    let d = (goal.at.loop-pattern-preserved c).After-code in
    let next = turn d in
    let put = c.write_exponents-place.ensures in
    let more : length (c.loop-pattern.yielded ++ ((c.in-Some.field-0-0, c.in-Some.field-0-1) ∷ [])) ≡ length c.loop-pattern.yielded + 1 = omega (arith, length-append c.loop-pattern.yielded ((c.in-Some.field-0-0, c.in-Some.field-0-1) ∷ [])) in
    rw more
    (again (due d) c.write_number-place-in-loop-pattern.ensures.0 c.write_number-place-in-loop-pattern.ensures.1 (rw next.1 at put.value) (rw next.1 at put.area_after))

-- all terms were met
many : (d : In-None) → length d.args.sum.patterns.now ≤ length d.loop-pattern.yielded
many d =
    let all = zip_end d.args.sum.patterns.now d.args.sum.coefficients.now d.loop-pattern.yielded d.into_iter-pattern-iterator.result d.loop-pattern.pattern-iterator d.next.new.self d.next.result (search rules) (search rules) d.loop-pattern.yielded_by d.in-None.is d.next.ensures.steps in
    omega (arith, all, d.requires.as_many)

pub returns-clause-value : goal.returns-clause-value
returns-clause-value c = (stops (counted_is _ _ c.requires.as_many c.requires.room c.len.ensures c.write_number-place.ensures.0 c.write_number-place.ensures.1) c.loop-pattern.invariant (many c)).0

pub returns-clause-area_after : goal.returns-clause-area_after
returns-clause-area_after c = (stops (counted_is _ _ c.requires.as_many c.requires.room c.len.ensures c.write_number-place.ensures.0 c.write_number-place.ensures.1) c.loop-pattern.invariant (many c)).1
