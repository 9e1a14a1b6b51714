-- `code` meets its contract: the size of a negative n is k + 1.
use mathlib.Core.Path.{◌≡◌, ◌∙◌, ap}
use Prim.Native.Nat.{suc}
use native.Mathlib.Omega.{arith}
use lib.IntN.{nat_abs}
use Rattle.numbers.specs.Code.{code}
use Rattle.numbers.proofs.Signs.{at-pos, at-neg}
use Rattle.numbers.proofs.code.Goals as goal

pub returns-then-n-ge0 : goal.returns-then-n-ge0
unfolding code
returns-then-n-ge0 c =
    let u = at-pos _ c.ranges.n c.if-n-ge0.true in
    let size : c.absolute-size.result ≡ u.n = c.absolute-size.ensures ∙ ap nat_abs u.bits in
    rw u.is (omega (arith, size))

pub returns-else-n-ge0 : goal.returns-else-n-ge0
unfolding code
returns-else-n-ge0 c =
    let d = at-neg _ c.ranges.n c.if-n-ge0.false in
    let size : c.absolute-size.result ≡ suc d.k = c.absolute-size.ensures ∙ ap nat_abs d.bits in
    rw d.is (omega (arith, size))
