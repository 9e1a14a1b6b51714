-- `write_next` meets its contract: number and letters leave the first byte for the sign, which is written over whatever stands there.
use mathlib.Core.Path.{sym, ◌∙◌, ap}
use mathlib.Core.List.{List}
use Prim.Native.Nat.{ℕ, suc, ◌+◌, ◌≤◌}
use native.Mathlib.Omega.{arith}
use lib.ListN.{length, set}
use lib.Seq.{sets}
use Rattle.algebra.specs.Word.{exponents}
use Rattle.numbers.proofs.Writing.{finished, over_first}
use Rattle.spelling.specs.Spelling.{powers, factors_text}
use Rattle.spelling.proofs.Signs.{next-length, next_is}
use Rattle.spelling.proofs.WriteNumber.{Open, opened, number-within}
use Rattle.spelling.proofs.terms.write_next.Goals as goal
use Rattle.spelling.proofs.terms.write_next.Goals.{After-unsigned_abs, After-write_number-after}

-- there is room for the sign and the factors
room : (d : After-unsigned_abs) → d.args.at + suc (length (factors_text d.unsigned_abs.result (powers 0 (exponents d.args.pattern.0)))) ≤ length d.args.area.now
room d = omega (arith, d.requires.pattern_in_bounds, next-length _ d.ranges.coefficient (exponents d.args.pattern.0) d.unsigned_abs.ensures.value)

-- the letters are left to write
lettered : (d : After-write_number-after) → Open d.args.area.now d.args.at d.unsigned_abs.result (powers 0 (exponents d.args.pattern.0)) d.write_number-after.new.area d.write_number-after.result
lettered d = opened _ _ _ _ ((omega (arith, d.requires.pattern_in_bounds, next-length _ d.ranges.coefficient (exponents d.args.pattern.0) d.unsigned_abs.ensures.value))) d.write_number-after.ensures

pub write_number-after-requires-clause-size_in_bounds : goal.write_number-after-requires-clause-size_in_bounds
write_number-after-requires-clause-size_in_bounds c = omega (arith, room c, number-within c.unsigned_abs.result (powers 0 (exponents c.args.pattern.0)))

pub write_letters-end-requires-clause-from_in_bounds : goal.write_letters-end-requires-clause-from_in_bounds
write_letters-end-requires-clause-from_in_bounds c = (lettered (goal.at.write_letters-end-requires-clause-from_in_bounds c).After-write_number-after).writing.room

pub bounds-area-at : goal.bounds-area-at
bounds-area-at c = omega (arith, room (goal.at.bounds-area-at c).After-unsigned_abs, c.write_letters-end.auto.area, c.write_number-after.auto.area)

pub returns : goal.returns
returns c =
    let left = lettered (goal.at.returns c).After-write_number-after in
    let all = finished left.writing c.write_letters-end.ensures.value c.write_letters-end.ensures.area_after in
    let is = next_is _ c.ranges.coefficient _ c.unsigned_abs.ensures.value c.next_sign.ensures in
    record {
      value = all.0 ∙ ap (λ (l : List ℕ). c.args.at + length l) (sym is);
      area_after = ap (λ (l : List ℕ). set l c.args.at c.next_sign.result) all.1
          ∙ over_first c.args.area.now c.args.at c.next_sign.result left.first (factors_text c.unsigned_abs.result (powers 0 (exponents c.args.pattern.0)))
          ∙ ap (λ (l : List ℕ). sets c.args.area.now c.args.at l) (sym is);
    }
