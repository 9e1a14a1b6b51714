-- `write_decimal` meets its contract: one digit, two, or the last ones after those of the number without them.
use Rattle.std.proofs.Common.{refl, ℕ, ◌+◌, ◌/◌, ◌%◌, ◌<◌, ◌≤◌, List, [], ◌∷◌, ◌++◌, length, arith}
use Rattle.numbers.specs.Decimal.{zero_digit, decimal}
use Rattle.numbers.specs.Inside.Digits.{two_digits, four_digits}
use Rattle.numbers.proofs.Writing.{Writing, start, left_as, byte-room, has_room, next, finished}
use Rattle.numbers.proofs.Decimals.{decimal-last, decimal-two, decimal-hundred, decimal-myriad}
use Rattle.numbers.proofs.decimal.+write_decimal.Goals as goal

-- ---- What is left to write, where the digits have room.

module _ (area : List ℕ) (at n : ℕ) (room : at + length (decimal n) ≤ length area) where
  one : n < 10 → Writing area at (decimal n) area at ((zero_digit + n) ∷ [])
  one few = left_as (decimal-last _ few) (start _ _ _ room)

  two : 10 ≤ n → n < 100 → Writing area at (decimal n) area at (two_digits n)
  two many few = left_as (decimal-two _ many few) (start _ _ _ room)

  hundred : 100 ≤ n → Writing area at (decimal n) area at (decimal (n / 100) ++ two_digits (n % 100))
  hundred many = left_as (decimal-hundred _ many) (start _ _ _ room)

  myriad : 10000 ≤ n → Writing area at (decimal n) area at (decimal (n / 10000) ++ four_digits (n % 10000))
  myriad many = left_as (decimal-myriad _ many) (start _ _ _ room)

-- ---- One digit.

pub bounds-area-at : goal.bounds-area-at
bounds-area-at t c = byte-room (one _ _ _ c.requires c.if-n-lt10.true) _ _ refl

pub returns-then-n-lt10-clause-value : goal.returns-then-n-lt10-clause-value
returns-then-n-lt10-clause-value t c = (finished (one _ _ _ c.requires c.if-n-lt10.true) refl refl).0

pub returns-then-n-lt10-clause-area_after : goal.returns-then-n-lt10-clause-area_after
returns-then-n-lt10-clause-area_after t c = (finished (one _ _ _ c.requires c.if-n-lt10.true) refl refl).1

-- ---- Two digits.

pub write_two-requires-clause-at_in_bounds : goal.write_two-requires-clause-at_in_bounds
write_two-requires-clause-at_in_bounds t c = (two _ _ _ c.requires c.if-n-lt10.false c.if-n-lt100.true).room

pub returns-then-n-lt100-clause-value : goal.returns-then-n-lt100-clause-value
returns-then-n-lt100-clause-value t c =
    (finished (two _ _ _ c.requires c.if-n-lt10.false c.if-n-lt100.true) c.write_two.ensures.value c.write_two.ensures.area_after).0

pub returns-then-n-lt100-clause-area_after : goal.returns-then-n-lt100-clause-area_after
returns-then-n-lt100-clause-area_after t c =
    (finished (two _ _ _ c.requires c.if-n-lt10.false c.if-n-lt100.true) c.write_two.ensures.value c.write_two.ensures.area_after).1

-- ---- Up to four digits.

pub write_decimal-last-requires : goal.write_decimal-last-requires
write_decimal-last-requires t c =
    (omega arith, has_room (decimal (c.args.n / 100)) (two_digits (c.args.n % 100)) refl (hundred _ _ _ c.requires c.if-n-lt100.false))

pub write_two-requires-then-n-lt10000-clause-at_in_bounds : goal.write_two-requires-then-n-lt10000-clause-at_in_bounds
write_two-requires-then-n-lt10000-clause-at_in_bounds t c =
    let put = c.write_decimal-last.ensures in
    (next (decimal (c.args.n / 100)) (two_digits (c.args.n % 100)) refl (hundred _ _ _ c.requires c.if-n-lt100.false) put.area_after put.value).room

pub returns-then-n-lt10000-clause-value : goal.returns-then-n-lt10000-clause-value
returns-then-n-lt10000-clause-value t c =
    let put = c.write_decimal-last.ensures in
    let last = c.write_two-then-n-lt10000.ensures in
    (finished (next (decimal (c.args.n / 100)) (two_digits (c.args.n % 100)) refl (hundred _ _ _ c.requires c.if-n-lt100.false) put.area_after put.value) last.value last.area_after).0

pub returns-then-n-lt10000-clause-area_after : goal.returns-then-n-lt10000-clause-area_after
returns-then-n-lt10000-clause-area_after t c =
    let put = c.write_decimal-last.ensures in
    let last = c.write_two-then-n-lt10000.ensures in
    (finished (next (decimal (c.args.n / 100)) (two_digits (c.args.n % 100)) refl (hundred _ _ _ c.requires c.if-n-lt100.false) put.area_after put.value) last.value last.area_after).1

-- ---- More.

pub write_decimal-last-requires-2 : goal.write_decimal-last-requires-2
write_decimal-last-requires-2 t c =
    (omega arith, has_room (decimal (c.args.n / 10000)) (four_digits (c.args.n % 10000)) refl (myriad _ _ _ c.requires c.if-n-lt10000.false))

pub write_four-requires-clause-at_in_bounds : goal.write_four-requires-clause-at_in_bounds
write_four-requires-clause-at_in_bounds t c =
    let put = c.write_decimal-last-2.ensures in
    (next (decimal (c.args.n / 10000)) (four_digits (c.args.n % 10000)) refl (myriad _ _ _ c.requires c.if-n-lt10000.false) put.area_after put.value).room

pub returns-clause-value : goal.returns-clause-value
returns-clause-value t c =
    let put = c.write_decimal-last-2.ensures in
    let last = c.write_four.ensures in
    (finished (next (decimal (c.args.n / 10000)) (four_digits (c.args.n % 10000)) refl (myriad _ _ _ c.requires c.if-n-lt10000.false) put.area_after put.value) last.value last.area_after).0

pub returns-clause-area_after : goal.returns-clause-area_after
returns-clause-area_after t c =
    let put = c.write_decimal-last-2.ensures in
    let last = c.write_four.ensures in
    (finished (next (decimal (c.args.n / 10000)) (four_digits (c.args.n % 10000)) refl (myriad _ _ _ c.requires c.if-n-lt10000.false) put.area_after put.value) last.value last.area_after).1
