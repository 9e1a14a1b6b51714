use mathlib.Core.Path.{◌≡◌, ◌∙◌, ap₂}
use native.Mathlib.Omega.{arith}
use lib.IntN.{pos, ◌+ℤ◌}
use lib.ListN.{get_or, take}
use mir.Syntax.{w64}
use mir.Val.{of_z, to_z}
use mir.ValLaws.{to_z-of_z}
use Rattle.answers.specs.Areas.{written}
use Rattle.answers.proofs.Signed.{fits-abs}
use Rattle.sums.specs.Binomial.{stepped}
use Rattle.sums.proofs.Stepping.{start, left-light, both-light, again, ended}
use Rattle.sums.proofs.binomial.multiply_step.Goals as goal
use Rattle.sums.proofs.binomial.multiply_step.Goals.{After-c-1}

-- the number that was read, as the machine holds it
read : (d : After-c-1)
    → let value = get_or d.loop-k.coefficients d.loop-k.k (pos 0) in
    to_z w64 (of_z w64 value) ≡ value
read d =
    to_z-of_z w64 (get_or d.loop-k.coefficients d.loop-k.k (pos 0)) (record { sfits = d.c-1.given })

pub loop-k-init : goal.loop-k-init
loop-k-init c = start _ _ _ _ c.requires.n_in_bounds (rw (to_z-of_z w64 c.args.x c.ranges.x, to_z-of_z w64 c.args.y c.ranges.y) c.requires.y_bound)

pub overflow_mul-coefficients : goal.overflow_mul-coefficients
overflow_mul-coefficients c = fits-abs _ (omega (arith, left-light c.loop-k.invariant))

pub overflow_mul-coefficients-in-loop-k : goal.overflow_mul-coefficients-in-loop-k
overflow_mul-coefficients-in-loop-k c = fits-abs _ (omega (arith, (both-light c.loop-k.invariant _ (read c) c.loop-k-test.true).0))

pub overflow_add-coefficients : goal.overflow_add-coefficients
overflow_add-coefficients c = fits-abs _ (rw (to_z-of_z w64 _ (overflow_mul-coefficients c), to_z-of_z w64 _ (overflow_mul-coefficients-in-loop-k c)) (omega (arith, (both-light c.loop-k.invariant _ (read c) c.loop-k-test.true).1)))

pub loop-k-preserved : goal.loop-k-preserved
loop-k-preserved c = again c.loop-k.invariant c.loop-k-test.true _ _ (read c) (to_z-of_z w64 _ (overflow_add-coefficients c) ∙ ap₂ ◌+ℤ◌ (to_z-of_z w64 _ (overflow_mul-coefficients c)) (to_z-of_z w64 _ (overflow_mul-coefficients-in-loop-k c)))

pub overflow_mul-coefficients-2 : goal.overflow_mul-coefficients-2
overflow_mul-coefficients-2 c = fits-abs _ (omega (arith, left-light c.loop-k.invariant))

pub returns : goal.returns
returns c = ended c.loop-k.invariant c.loop-k-test.false _ (to_z-of_z w64 _ (overflow_mul-coefficients-2 c))
    ∙ ap₂ (λ x y. written (stepped x y (pos 0) (take c.args.n c.args.coefficients.now)) c.args.coefficients.now) (to_z-of_z w64 c.args.x c.ranges.x) (to_z-of_z w64 c.args.y c.ranges.y)
