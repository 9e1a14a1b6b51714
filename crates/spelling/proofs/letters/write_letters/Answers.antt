use mathlib.Core.List.{List, [], ◌∷◌}
use Prim.Native.Nat.{ℕ, ◌+◌}
use Rattle.numbers.proofs.Writing.{has_room, next, ended}
use Rattle.spelling.specs.Spelling.{powers, more_powers}
use Rattle.spelling.specs.Inside.Code.{letters_from}
use Rattle.spelling.proofs.Factors.{none_left}
use Rattle.spelling.proofs.FromLetter.{exponent-low, letter-next, no-letter}
use Rattle.spelling.proofs.letters.write_letters.Goals as goal

-- the bytes of the letters from variable v on, and of the letter of v
abbrev letters_left : ℕ → ℕ → List ℕ
letters_left w v = more_powers (letters_from w v)

abbrev letter : ℕ → ℕ → List ℕ
letter v e = more_powers (powers v (e ∷ []))

pub write_joined-place-requires-clause-e_le_largest_degree : goal.write_joined-place-requires-clause-e_le_largest_degree
write_joined-place-requires-clause-e_le_largest_degree c = exponent-low c.requires.valid c.loop-v.v c.exponent.ensures

pub write_joined-place-requires-clause-e_in_bounds : goal.write_joined-place-requires-clause-e_in_bounds
write_joined-place-requires-clause-e_in_bounds c = has_room (letter c.loop-v.v c.exponent.result) (letters_left c.args.pattern.0 (c.loop-v.v + 1)) (letter-next c.args.pattern.0 c.loop-v.v c.loop-v-test.true c.exponent.ensures) c.loop-v.invariant

pub loop-v-preserved : goal.loop-v-preserved
loop-v-preserved c = next (letter c.loop-v.v c.exponent.result) (letters_left c.args.pattern.0 (c.loop-v.v + 1)) (letter-next c.args.pattern.0 c.loop-v.v c.loop-v-test.true c.exponent.ensures) c.loop-v.invariant
    c.write_joined-place.ensures.area_after
    c.write_joined-place.ensures.value

pub returns : goal.returns
returns c =
    let all = ended (none_left (no-letter _ _ c.loop-v-test.false)) c.loop-v.invariant in record { value = all.0; area_after = all.1 }
