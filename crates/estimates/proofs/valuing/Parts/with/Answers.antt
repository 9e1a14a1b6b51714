-- `with` meets its contract: where the raised value is allowed, the sum at the readings fits.
use mathlib.Core.Path.{refl}
use native.Mathlib.Omega.{arith}
use borrow.Author.Rules.{rules}
use mir.Syntax.{w64}
use mir.ValLaws.{to_z-of_z}
use Rattle.estimates.proofs.SumParts.{estimate-fits}
use Rattle.estimates.proofs.valuing.Parts.with.Goals as goal

pub returns : goal.returns
returns c =
    rw (c.unsigned_abs.ensures.value, to_z-of_z w64 c.args.self.estimate (search rules), to_z-of_z w64 c.args.term.value (search rules), to_z-of_z w64 _ (estimate-fits c.args.self c.requires c.args.term (omega arith)))
    (record { most_is = refl; estimate_is = λ h. refl; plain_is = λ h. refl })
