use mathlib.Core.Path.{sym, ◌∙◌}
use native.Mathlib.Omega.{arith}
use borrow.Author.Rules.{rules}
use mir.Syntax.{w16, w64}
use mir.ValLaws.{to_z-of_z}
use lib.IntN.{pos}
use lib.ListN.{length}
use Rattle.answers.proofs.Writes.{written_all}
use Rattle.answers.proofs.Copies.{start, again, ended}
use Rattle.estimates.proofs.Numbering.{numbers-length, numbers-at}
use Rattle.estimates.proofs.TwoBytes.{two-bytes}
use Rattle.estimates.proofs.readings.read_numbers.Goals as goal

pub loop-v-init : goal.loop-v-init
loop-v-init c = start _ _ _ (omega arith) (omega (arith, numbers-length (length c.args.numbers.now) c.args.bytes.now c.requires))

pub loop-v-preserved : goal.loop-v-preserved
loop-v-preserved c =
    rw (
    to_z-of_z w64 c.from.result (search rules) ∙ c.from.ensures ∙ to_z-of_z w16 c.from_le_bytes-number.result (search rules)
    ∙ c.from_le_bytes-number.ensures ∙ two-bytes (c.type_inv.bytes _).fits (c.type_inv.bytes _).fits ∙ sym (numbers-at c.args.bytes.now c.loop-v.v (omega arith))
    )
    (again (pos 0) _ _ _ _ _ c.loop-v.invariant (omega arith))

pub returns : goal.returns
returns c = ended _ _ _ _ _ c.loop-v.invariant (omega arith) ∙ written_all _ c.args.numbers.now (numbers-length _ _ c.requires)
