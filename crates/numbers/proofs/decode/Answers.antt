-- `decode` meets its contract: half of an odd code c is k, and -k - 1 is its number.
use mathlib.Core.Path.{sym, ◌∙◌}
use Prim.Native.Nat.{◌/◌}
use native.Mathlib.Omega.{arith}
use mir.Syntax.{w64}
use mir.ValLaws.{to_z_pos}
use Rattle.numbers.proofs.Signs.{below}
use Rattle.numbers.proofs.Codes.{decode-even, decode-odd}
use Rattle.numbers.proofs.decode.Goals as goal

pub returns-then-c-eq0 : goal.returns-then-c-eq0
returns-then-c-eq0 c = to_z_pos w64 (c.args.c / 2) (omega arith) ∙ sym (decode-even c.args.c c.if-c-eq0.true)

pub returns-else-c-eq0 : goal.returns-else-c-eq0
returns-else-c-eq0 c = below (c.args.c / 2) (omega arith) ∙ sym (decode-odd c.args.c c.if-c-eq0.false)
