use mathlib.Core.Path.{◌≡◌, ◌∙◌, ap}
use lib.IntN.{pos, ◌*ℤ◌}
use lib.ListN.{get_or}
use mir.Syntax.{w64}
use mir.Val.{of_z, to_z}
use mir.ValLaws.{to_z-of_z}
use Rattle.algebra.proofs.Numbers.Signed.{zero_bits, nonzero-bits}
use Rattle.sums.proofs.ByTerm.{start, value-fits, can-multiply, skips, takes, ended}
use Rattle.sums.proofs.multiply_by_term.Goals as goal
use Rattle.sums.proofs.multiply_by_term.Goals.{After-d-1}

-- the coefficient that was read, as the machine holds it
read : (d : After-d-1)
    → let value = get_or d.args.t.coefficients.now d.loop-k.k (pos 0) in
    to_z w64 (of_z w64 value) ≡ value
read d = to_z-of_z w64 _ (record { sfits = d.d-1.given })

pub loop-k-init : goal.loop-k-init
loop-k-init c = start (rw (to_z-of_z w64 c.args.c c.ranges.c) c.requires.has_term) c.requires.room_of

pub overflow_mul-value : goal.overflow_mul-value
overflow_mul-value c = rw (read c) (value-fits c.loop-k.invariant.has c.loop-k.k c.loop-k-test.true)

pub product-pattern-requires-clause-valid_2 : goal.product-pattern-requires-clause-valid_2
product-pattern-requires-clause-valid_2 c = (can-multiply c.loop-k.invariant.has c.loop-k.k c.loop-k-test.true).1.0

pub product-pattern-requires-clause-other_bound : goal.product-pattern-requires-clause-other_bound
product-pattern-requires-clause-other_bound c = (can-multiply c.loop-k.invariant.has c.loop-k.k c.loop-k-test.true).1.1

pub loop-k-preserved : goal.loop-k-preserved
loop-k-preserved c = let factor = to_z w64 (of_z w64 c.args.c) in
    let value = get_or c.args.t.coefficients.now c.loop-k.k (pos 0) in
    takes c.loop-k.invariant c.loop-k-test.true (rw (read (goal.at.loop-k-preserved c).After-d-1) at (nonzero-bits (factor *ℤ to_z w64 (of_z w64 value)) c.if-value-eq0.false)) c.product-pattern.ensures
    (to_z-of_z w64 _ (overflow_mul-value (goal.at.loop-k-preserved c).After-d-1) ∙ ap (λ z. factor *ℤ z) (read (goal.at.loop-k-preserved c).After-d-1))

pub loop-k-preserved-then-value-eq0 : goal.loop-k-preserved-then-value-eq0
loop-k-preserved-then-value-eq0 c = skips c.loop-k.invariant c.loop-k-test.true (rw (read (goal.at.loop-k-preserved-then-value-eq0 c).After-d-1) at (zero_bits _ (overflow_mul-value (goal.at.loop-k-preserved-then-value-eq0 c).After-d-1) c.if-value-eq0.true))

pub returns : goal.returns
returns c = rw (to_z-of_z w64 c.args.c c.ranges.c) at (ended c.loop-k.invariant c.loop-k-test.false)
