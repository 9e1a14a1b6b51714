-- `write_factors` meets its contract: a number first, unless it is 1 and a letter follows.
use mathlib.Core.Path.{◌≡◌, refl}
use mathlib.Core.List.{◌++◌}
use Prim.Native.Nat.{◌+◌}
use Rattle.algebra.specs.Word.{exponents}
use Rattle.numbers.specs.Decimal.{decimal}
use Rattle.numbers.proofs.Writing.{Writing, start, left_as, has_room, next, finished}
use Rattle.spelling.specs.Spelling.{powers, letter_text, more_powers, factors_text}
use Rattle.spelling.specs.Inside.Code.{letters_from}
use Rattle.spelling.proofs.Factors.{one-unwritten, number-alone, number-first}
use Rattle.spelling.proofs.FromLetter.{exponent-low, letters-begin, no-letters}
use Rattle.spelling.proofs.letters.write_factors.Goals as goal
use Rattle.spelling.proofs.letters.write_factors.Goals.{After-exponent, After-write_letter-after, After-write_decimal-after, Joined-size-eq1, then-size-eq1+in_default, else-size-eq1}

-- 1 is left out before the first letter
lettered : (d : After-exponent) → Writing d.args.area.now d.args.at (factors_text d.args.size (powers 0 (exponents d.args.pattern.0))) d.args.area.now d.args.at
    (letter_text d.in-Some.v d.exponent.result ++ more_powers (letters_from d.args.pattern.0 (d.in-Some.v + 1)))
lettered d =
    let letter = d.in-Some.ensures in
    left_as (one-unwritten _ d.if-size-eq1.true _ _ (letters-begin _ _ letter.0 letter.2 d.exponent.ensures letter.1)) (start _ _ _ d.requires.pattern_in_bounds)

-- the other letters are left to write
begun : (d : After-write_letter-after) → Writing d.args.area.now d.args.at (factors_text d.args.size (powers 0 (exponents d.args.pattern.0))) d.args.area.now d.args.at
    (letter_text d.in-Some.v d.exponent.result ++ more_powers (letters_from d.args.pattern.0 (d.in-Some.v + 1)))
    → Writing d.args.area.now d.args.at (factors_text d.args.size (powers 0 (exponents d.args.pattern.0))) d.write_letter-after.new.area d.write_letter-after.result
    (more_powers (letters_from d.args.pattern.0 (d.in-Some.v + 1)))
begun d w = next _ _ refl w d.write_letter-after.ensures.area_after d.write_letter-after.ensures.value

-- a number is written that is not 1, or has no letters after it
numbered : (d : Joined-size-eq1) → Writing d.args.area.now d.args.at (factors_text d.args.size (powers 0 (exponents d.args.pattern.0))) d.args.area.now d.args.at
    (decimal d.args.size ++ more_powers (letters_from d.args.pattern.0 0))
numbered d =
    let is : factors_text d.args.size (powers 0 (exponents d.args.pattern.0)) ≡ decimal d.args.size ++ more_powers (letters_from d.args.pattern.0 0) = elim d.if-size-eq1.branch [
      | then-size-eq1+in_default w ↦ number-alone _ (no-letters _ w.in_default.ensures)
      | else-size-eq1 w ↦ number-first _ w.if-size-eq1.false _
    ] in
    left_as is (start _ _ _ d.requires.pattern_in_bounds)

-- and its letters are left to write
after : (d : After-write_decimal-after) → Writing d.args.area.now d.args.at (factors_text d.args.size (powers 0 (exponents d.args.pattern.0))) d.args.area.now d.args.at
    (decimal d.args.size ++ more_powers (letters_from d.args.pattern.0 0))
    → Writing d.args.area.now d.args.at (factors_text d.args.size (powers 0 (exponents d.args.pattern.0))) d.write_decimal-after.new.area d.write_decimal-after.result
    (more_powers (letters_from d.args.pattern.0 0))
after d w = next _ _ refl w d.write_decimal-after.ensures.area_after d.write_decimal-after.ensures.value

pub write_letter-after-requires-clause-e_le_largest_degree : goal.write_letter-after-requires-clause-e_le_largest_degree
write_letter-after-requires-clause-e_le_largest_degree c = exponent-low c.requires.valid c.in-Some.v c.exponent.ensures

pub write_letter-after-requires-clause-e_in_bounds : goal.write_letter-after-requires-clause-e_in_bounds
write_letter-after-requires-clause-e_in_bounds c = has_room (letter_text c.in-Some.v c.exponent.result) (more_powers (letters_from c.args.pattern.0 (c.in-Some.v + 1))) refl (lettered c)

pub write_letters-requires-clause-from_in_bounds : goal.write_letters-requires-clause-from_in_bounds
write_letters-requires-clause-from_in_bounds c = let d = goal.at.write_letters-requires-clause-from_in_bounds c in (begun d.After-write_letter-after (lettered d.After-exponent)).room

pub write_decimal-after-requires : goal.write_decimal-after-requires
write_decimal-after-requires c = has_room (decimal c.args.size) _ refl (numbered (goal.at.write_decimal-after-requires c).Joined-size-eq1)

pub write_letters-requires-2-clause-from_in_bounds : goal.write_letters-requires-2-clause-from_in_bounds
write_letters-requires-2-clause-from_in_bounds c = let d = goal.at.write_letters-requires-2-clause-from_in_bounds c in (after d.After-write_decimal-after (numbered d.Joined-size-eq1)).room

pub returns-in-Some : goal.returns-in-Some
returns-in-Some c =
    let d = goal.at.returns-in-Some c in
    let all = finished (begun d.After-write_letter-after (lettered d.After-exponent)) c.write_letters.ensures.value c.write_letters.ensures.area_after in record { value = all.0; area_after = all.1 }

pub returns : goal.returns
returns c =
    let d = goal.at.returns c in
    let all = finished (after d.After-write_decimal-after (numbered d.Joined-size-eq1)) c.write_letters-2.ensures.value c.write_letters-2.ensures.area_after in record { value = all.0; area_after = all.1 }
