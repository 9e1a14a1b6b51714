-- `write_letter` meets its contract: the name, and unless the exponent is 1, a ^ and its one or two digits.
use mathlib.Core.Path.{refl}
use mathlib.Core.List.{[], ◌∷◌}
use Prim.Native.Nat.{◌+◌}
use native.Mathlib.Omega.{arith}
use lib.ListN.{set}
use Rattle.numbers.specs.Inside.Digits.{two_digits}
use Rattle.numbers.proofs.Writing.{Writing, start, left_as, byte-room, byte, finished}
use Rattle.text.specs.Signs.{power_sign, zero_digit}
use Rattle.text.specs.Letters.{name_of}
use Rattle.numbers.specs.Decimal.{decimal}
use Rattle.spelling.specs.Spelling.{letter_text}
use Rattle.spelling.proofs.Factors.{letter-alone, letter-raised, letter-one-digit, letter-two-digits}
use Rattle.spelling.proofs.letters.write_letter.Goals as goal
use Rattle.spelling.proofs.letters.write_letter.Goals.{Else-e-eq1, Else-e-lt10, Then-e-lt10}

-- the name is written, and a ^ and the exponent are left to write
named : (d : Else-e-eq1) → Writing d.args.area.now d.args.at (letter_text d.args.v d.args.e) (set d.args.area.now d.args.at (name_of d.args.v)) (d.args.at + 1) (power_sign ∷ decimal d.args.e)
named d = byte (left_as (letter-raised _ _ d.if-e-eq1.false) (start _ _ _ d.requires.e_in_bounds)) _ _ refl

-- the name and the ^ are written, and one digit is left, or two
one_left : (d : Then-e-lt10) → Writing d.args.area.now d.args.at (letter_text d.args.v d.args.e) (set (set d.args.area.now d.args.at (name_of d.args.v)) (d.args.at + 1) power_sign) (d.args.at + 1 + 1) ((zero_digit + d.args.e) ∷ [])
one_left d =
    byte (byte (left_as (letter-one-digit _ _ d.if-e-eq1.false d.if-e-lt10.true) (start _ _ _ d.requires.e_in_bounds)) _ _ refl) _ _ refl

two-left : (d : Else-e-lt10) → Writing d.args.area.now d.args.at (letter_text d.args.v d.args.e) (set (set d.args.area.now d.args.at (name_of d.args.v)) (d.args.at + 1) power_sign) (d.args.at + 1 + 1) (two_digits d.args.e)
two-left d =
    byte (byte (left_as (letter-two-digits _ _ d.if-e-lt10.false (omega (arith, d.requires.e_le_largest_degree))) (start _ _ _ d.requires.e_in_bounds)) _ _ refl) _ _ refl

pub bounds-area-at : goal.bounds-area-at
unfolding letter_text
bounds-area-at c = byte-room (start c.args.area.now c.args.at (letter_text c.args.v c.args.e) c.requires.e_in_bounds) _ _ refl

pub returns-then-e-eq1 : goal.returns-then-e-eq1
unfolding name_of
returns-then-e-eq1 c =
    let all = finished (left_as (letter-alone _ _ c.if-e-eq1.true) (start _ _ _ c.requires.e_in_bounds)) refl refl in record { value = all.0; area_after = all.1 }

pub bounds-area-after : goal.bounds-area-after
unfolding name_of
bounds-area-after c = byte-room (named c) _ _ refl

pub bounds-area-tens : goal.bounds-area-tens
unfolding name_of
bounds-area-tens c = byte-room (one_left c) _ _ refl

pub returns-then-e-lt10 : goal.returns-then-e-lt10
unfolding name_of
returns-then-e-lt10 c =
    let all = finished (one_left c) refl refl in record { value = all.0; area_after = all.1 }

pub bounds-area-tens-2 : goal.bounds-area-tens-2
unfolding name_of
bounds-area-tens-2 c = byte-room (two-left c) _ _ refl

pub bounds-area-ones : goal.bounds-area-ones
unfolding name_of
bounds-area-ones c = byte-room (byte (two-left c) _ _ refl) _ _ refl

pub returns : goal.returns
unfolding name_of
returns c =
    let all = finished (byte (two-left c) _ _ refl) refl refl in record { value = all.0; area_after = all.1 }
