use Prim.Native.Nat.{◌*◌, ◌^◌}
use native.Mathlib.Omega.{arith}
use mathlib.Core.Path.{◌≡◌}
use lib.IntN.{◌*ℤ◌, pow}
use Rattle.estimates.proofs.Multiplying.{themselves, no-times, times_more}
use Rattle.estimates.proofs.factors.Both.times_power.Goals as goal

pub loop-init : goal.loop-init
loop-init c = λ m n h. no-times _ _ m n h

pub loop-preserved : goal.loop-preserved
loop-preserved c =
    let b = c.args.factor.most in
    let r = c.args.factor.value in
    λ m n h. times_more b r m n c.loop.counter
    (c.times-product.ensures (m * b ^ c.loop.counter) b (n *ℤ pow r c.loop.counter) r (c.loop.invariant m n h) (themselves c.requires.reading_bound))

pub returns : goal.returns
returns c =
    let all : c.loop.counter ≡ c.args.e = omega arith in
    rw all at c.loop.invariant
