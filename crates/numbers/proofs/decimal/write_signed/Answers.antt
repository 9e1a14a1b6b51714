-- `write_signed` meets its contract: a minus first, if the number is negative.
use mathlib.Core.Path.{refl}
use mathlib.Core.List.{◌∷◌}
use Rattle.numbers.proofs.Writing.{Writing, start}
use Rattle.numbers.specs.Decimal.{minus_sign}
use Rattle.numbers.specs.Decimal.{decimal, signed_decimal}
use Rattle.numbers.proofs.Decimals.{signed_up, signed-down}
use Rattle.numbers.proofs.Writing.{left_as, byte-room, byte, finished}
use Rattle.numbers.proofs.decimal.write_signed.Goals as goal
use Rattle.numbers.proofs.decimal.write_signed.Goals.{Else-n-ge0, Then-n-ge0}

-- where the number is at least 0, its digits are left to write; else a minus and the digits are
upward : (d : Then-n-ge0) → Writing d.args.area.now d.args.at (signed_decimal d.args.n) d.args.area.now d.args.at (decimal d.absolute-size.result)
upward d =
    left_as (signed_up _ d.ranges.n d.absolute-size.ensures d.if-n-ge0.true) (start _ _ _ d.requires)

downward : (d : Else-n-ge0) → Writing d.args.area.now d.args.at (signed_decimal d.args.n) d.args.area.now d.args.at (minus_sign ∷ decimal d.absolute-size.result)
downward d =
    left_as (signed-down _ d.ranges.n d.absolute-size.ensures d.if-n-ge0.false) (start _ _ _ d.requires)

pub write_decimal-requires : goal.write_decimal-requires
write_decimal-requires c = (upward (goal.at.write_decimal-requires c).Then-n-ge0).room

pub returns-then-n-ge0-clause-value : goal.returns-then-n-ge0-clause-value
returns-then-n-ge0-clause-value c = (finished (upward (goal.at.returns-then-n-ge0-clause-value c).Then-n-ge0) c.write_decimal.ensures.value c.write_decimal.ensures.area_after).0

pub returns-then-n-ge0-clause-area_after : goal.returns-then-n-ge0-clause-area_after
returns-then-n-ge0-clause-area_after c = (finished (upward (goal.at.returns-then-n-ge0-clause-area_after c).Then-n-ge0) c.write_decimal.ensures.value c.write_decimal.ensures.area_after).1

pub bounds-area-at : goal.bounds-area-at
bounds-area-at c = byte-room (downward c) _ _ refl

pub write_decimal-requires-2 : goal.write_decimal-requires-2
write_decimal-requires-2 c = (byte (downward (goal.at.write_decimal-requires-2 c).Else-n-ge0) _ _ refl).room

pub returns-clause-value : goal.returns-clause-value
returns-clause-value c = (finished (byte (downward (goal.at.returns-clause-value c).Else-n-ge0) _ _ refl) c.write_decimal-2.ensures.value c.write_decimal-2.ensures.area_after).0

pub returns-clause-area_after : goal.returns-clause-area_after
returns-clause-area_after c = (finished (byte (downward (goal.at.returns-clause-area_after c).Else-n-ge0) _ _ refl) c.write_decimal-2.ensures.value c.write_decimal-2.ensures.area_after).1
