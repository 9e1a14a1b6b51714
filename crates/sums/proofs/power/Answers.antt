-- `power` meets its contract, way by way.
use mathlib.Core.Path.{◌∙◌, ap}
use native.Mathlib.Omega.{arith}
use Rattle.sums.specs.Formed.{formed_into}
use Rattle.sums.proofs.Raising.{power-none, power-two}
use Rattle.sums.proofs.RaisingTwo.{few}
use Rattle.sums.proofs.power.Goals as goal

pub returns-then-e-eq0 : goal.returns-then-e-eq0
returns-then-e-eq0 c = c.integer.ensures ∙ ap (λ x. formed_into x c.args.patterns.now c.args.coefficients.now) (power-none _ c.args.e c.if-e-eq0.true)

pub overflow_add-result : goal.overflow_add-result
overflow_add-result c = record { fits = omega (arith, few c.requires.base c.if-s-eq2.true) }

pub returns-then-e-eq2 : goal.returns-then-e-eq2
returns-then-e-eq2 c = c.product.ensures ∙ ap (λ x. formed_into x c.args.patterns.now c.args.coefficients.now) (power-two _ c.args.e c.if-e-eq2.true)
