use mathlib.Core.Path.{◌≡◌, ◌∙◌, ap, ap₂}
use native.Mathlib.Omega.{arith}
use lib.IntN.{pos, ◌*ℤ◌, pow}
use lib.ListN.{get_or}
use mir.Syntax.{w64}
use mir.Val.{of_z, to_z}
use mir.ValLaws.{to_z-of_z}
use Rattle.sums.proofs.OneTerm.{word_small, first-power, next_fits, next_power, answered}
use Rattle.sums.proofs.monomial.raise.Goals as goal
use Rattle.sums.proofs.monomial.raise.Goals.{After-c-1}

-- the coefficient that was read, as the machine holds it
read : (d : After-c-1) → let value = get_or d.args.s.coefficients.now 0 (pos 0) in to_z w64 (of_z w64 value) ≡ value
read d = to_z-of_z w64 (get_or d.args.s.coefficients.now 0 (pos 0)) (record { sfits = d.c-1.given })

pub loop-init : goal.loop-init
loop-init c = record { base = c.requires.base; single = c.requires.one; power_is = read c ∙ first-power c.requires.base c.requires.one; some = omega arith; inside = c.requires.le_e }

pub overflow_mul-power : goal.overflow_mul-power
overflow_mul-power c = rw (c.loop.invariant.power_is, read (goal.at.overflow_mul-power c).After-c-1) (next_fits c.loop.invariant.base c.loop.invariant.single c.loop.counter c.loop-test.true)

pub loop-preserved : goal.loop-preserved
loop-preserved c = record {
  base = c.loop.invariant.base;
  single = c.loop.invariant.single;
  power_is = to_z-of_z w64 _ (overflow_mul-power c) ∙ ap₂ ◌*ℤ◌ c.loop.invariant.power_is (read (goal.at.loop-preserved c).After-c-1) ∙ next_power c.loop.invariant.base c.loop.invariant.single c.loop.counter;
  some = omega (arith, c.loop.invariant.some);
  inside = omega (arith, c.loop-test.true);
}

pub overflow_mul-patterns : goal.overflow_mul-patterns
overflow_mul-patterns c = record { fits = word_small c.loop.invariant.base 0 (omega (arith, c.loop.invariant.single)) }

pub returns : goal.returns
returns c = answered c.loop.invariant.base c.loop.invariant.single c.requires.le_e _ _ c.requires.room (c.loop.invariant.power_is ∙ ap (pow (get_or c.args.s.coefficients.now 0 (pos 0))) (omega (arith, c.loop.invariant.inside, c.loop-test.false)))
