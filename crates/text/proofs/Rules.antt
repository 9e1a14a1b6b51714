-- What the check looks for at a call of the readers: the facts that follow from what was read so far.
use mathlib.Core.Path.{◌≡◌, sym, ◌∙◌}
use mathlib.Core.Bool.{Bool}
use Prim.Native.Nat.{ℕ}
use Rattle.std.specs.Char.{is_ascii_digit}
use Rattle.text.specs.Signs.{is_digit}
use Rattle.text.proofs.Byte.{letter-variable}
use Rattle.text.proofs.Digits.{digits-reach}
use Rattle.text.proofs.Table.{both-before, base-before}
use Rattle.text.proofs.Growing.{sign-grown, start-ahead, start-within}
use Rattle.text.proofs.Told.{told}
use Rattle.text.proofs.Operands.{inside}

-- std's test of a byte is the definition's
pub digit_test : (b : ℕ) {r v : Bool} → r ≡ is_ascii_digit b → r ≡ v → is_digit b ≡ v
unfolding is_digit
digit_test b e h = sym e ∙ h

pub ruleset calls = (digit_test, told, digits-reach, both-before, base-before, sign-grown, start-ahead, start-within, inside, letter-variable)
