-- `formal_degree` meets its contract: a degree of at most 60 times an exponent of at most 60 fits.
use native.Mathlib.Omega.{arith}
use native.Mathlib.Nat.{mul-le-mul}
use lib.ListN.{length}
use Rattle.nodes.proofs.Formally.{power-child, low_degree}
use Rattle.nodes.proofs.formal_degree.Goals as goal

pub overflow_mul-result : goal.overflow_mul-result
overflow_mul-result c =
    let child = power-child (length c.args.before.now) c.requires.node c.in-Power.is in
    let low = low_degree c.args.before.now c.requires.low c.in-Power.a child.0 in
    record { fits = omega (arith, low, mul-le-mul low child.1) }
