-- `write_joined` meets its contract.
use mathlib.Core.Path.{refl}
use mathlib.Core.List.{[], ◌∷◌}
use Rattle.numbers.proofs.Writing.{Writing, start, left_as, byte-room, byte, ended, finished}
use Rattle.text.specs.Signs.{times_sign}
use Rattle.spelling.specs.Spelling.{powers, letter_text, more_powers}
use Rattle.spelling.proofs.Factors.{joined-absent, joined-present}
use Rattle.spelling.proofs.letters.write_joined.Goals as goal
use Rattle.spelling.proofs.letters.write_joined.Goals.{Else-e-eq0}

-- a * and the letter are to be written
begun : (d : Else-e-eq0) → Writing d.args.area.now d.args.at (more_powers (powers d.args.v (d.args.e ∷ []))) d.args.area.now d.args.at (times_sign ∷ letter_text d.args.v d.args.e)
begun d = left_as (joined-present _ _ d.if-e-eq0.false) (start _ _ _ d.requires.e_in_bounds)

pub returns-then-e-eq0 : goal.returns-then-e-eq0
returns-then-e-eq0 c =
    let all = ended (joined-absent _ _ c.if-e-eq0.true) (start _ _ _ c.requires.e_in_bounds) in record { value = all.0; area_after = all.1 }

pub bounds-area-at : goal.bounds-area-at
bounds-area-at c = byte-room (begun c) _ _ refl

pub write_letter-requires-clause-e_in_bounds : goal.write_letter-requires-clause-e_in_bounds
write_letter-requires-clause-e_in_bounds c = (byte (begun (goal.at.write_letter-requires-clause-e_in_bounds c).Else-e-eq0) _ _ refl).room

pub returns : goal.returns
returns c =
    let all = finished (byte (begun (goal.at.returns c).Else-e-eq0) _ _ refl) c.write_letter.ensures.value c.write_letter.ensures.area_after in record { value = all.0; area_after = all.1 }
