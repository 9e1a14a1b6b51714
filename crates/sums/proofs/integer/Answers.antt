-- `integer` meets its contract.
use mir.Syntax.{w64}
use mir.ValLaws.{to_z-of_z}
use Rattle.algebra.proofs.Numbers.Signed.{zero_bits, nonzero-bits}
use Rattle.sums.proofs.Single.{zero-formed, integer-formed}
use Rattle.sums.proofs.integer.Goals as goal

pub returns-then-n-eq0 : goal.returns-then-n-eq0
returns-then-n-eq0 c = zero-formed _ _ c.args.n (zero_bits c.args.n c.ranges.n c.if-n-eq0.true)

pub returns : goal.returns
returns c = integer-formed _ _ c.requires.words c.requires.coefficients c.args.n _ (nonzero-bits c.args.n c.if-n-eq0.false) (to_z-of_z w64 c.args.n c.ranges.n)
