-- `product` meets its contract: the operands may be turned.
use mathlib.Core.Path.{◌∙◌, ap}
use Rattle.algebra.specs.Word.{terms}
use Rattle.sums.specs.Formed.{formed_into}
use Rattle.sums.proofs.Multiplying.{product_turned}
use Rattle.sums.proofs.product.Goals as goal

pub returns-then-t-s : goal.returns-then-t-s
returns-then-t-s c = c.multiply.ensures ∙ ap (λ x. formed_into x c.args.patterns.now c.args.coefficients.now) (product_turned (terms c.args.t.patterns.now c.args.t.coefficients.now) (terms c.args.s.patterns.now c.args.s.coefficients.now))
