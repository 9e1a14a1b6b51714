-- `write_first` meets its contract: a minus first, if the term is negative.
use mathlib.Core.Path.{refl}
use mathlib.Core.List.{◌∷◌}
use Rattle.algebra.specs.Sum.{term}
use Rattle.algebra.specs.Word.{exponents}
use Rattle.numbers.proofs.Writing.{Writing, start, left_as, byte-room, byte, finished}
use Rattle.text.specs.Signs.{minus_sign}
use Rattle.spelling.specs.Spelling.{powers, factors_text, first_text}
use Rattle.spelling.proofs.Signs.{first-up, first-down}
use Rattle.spelling.proofs.terms.write_first.Goals as goal
use Rattle.spelling.proofs.terms.write_first.Goals.{Else-coefficient-ge0, Then-coefficient-ge0}

-- where the coefficient is at least 0, the factors are left to write; else a minus and the factors are
upward : (d : Then-coefficient-ge0) → Writing d.args.area.now d.args.at (first_text (term d.args.coefficient (exponents d.args.pattern.0))) d.args.area.now d.args.at
    (factors_text d.unsigned_abs-size.result (powers 0 (exponents d.args.pattern.0)))
upward d = left_as (first-up _ d.ranges.coefficient _ d.unsigned_abs-size.ensures.value d.if-coefficient-ge0.true) (start _ _ _ d.requires.pattern_in_bounds)

downward : (d : Else-coefficient-ge0) → Writing d.args.area.now d.args.at (first_text (term d.args.coefficient (exponents d.args.pattern.0))) d.args.area.now d.args.at
    (minus_sign ∷ factors_text d.unsigned_abs-size.result (powers 0 (exponents d.args.pattern.0)))
downward d = left_as (first-down _ d.ranges.coefficient _ d.unsigned_abs-size.ensures.value d.if-coefficient-ge0.false) (start _ _ _ d.requires.pattern_in_bounds)

pub write_factors-requires-clause-pattern_in_bounds : goal.write_factors-requires-clause-pattern_in_bounds
write_factors-requires-clause-pattern_in_bounds c = (upward (goal.at.write_factors-requires-clause-pattern_in_bounds c).Then-coefficient-ge0).room

pub returns-then-coefficient-ge0 : goal.returns-then-coefficient-ge0
returns-then-coefficient-ge0 c =
    let all = finished (upward (goal.at.returns-then-coefficient-ge0 c).Then-coefficient-ge0) c.write_factors.ensures.value c.write_factors.ensures.area_after in record { value = all.0; area_after = all.1 }

pub bounds-area-at : goal.bounds-area-at
bounds-area-at c = byte-room (downward c) _ _ refl

pub write_factors-requires-2-clause-pattern_in_bounds : goal.write_factors-requires-2-clause-pattern_in_bounds
write_factors-requires-2-clause-pattern_in_bounds c = (byte (downward (goal.at.write_factors-requires-2-clause-pattern_in_bounds c).Else-coefficient-ge0) _ _ refl).room

pub returns : goal.returns
returns c =
    let all = finished (byte (downward (goal.at.returns c).Else-coefficient-ge0) _ _ refl) c.write_factors-2.ensures.value c.write_factors-2.ensures.area_after in record { value = all.0; area_after = all.1 }
