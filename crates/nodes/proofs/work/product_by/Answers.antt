-- `product_by` meets its contract: its factors are the sums of two earlier nodes, copied, and both work areas lend the part of node i.
use mathlib.Core.Path.{◌∙◌}
use native.Mathlib.Omega.{arith}
use Rattle.nodes.proofs.Working.{factors_asked, factors_formed, formed-at}
use Rattle.nodes.proofs.work.product_by.Goals as goal

pub product-requires-clause-factors : goal.product-requires-clause-factors
product-requires-clause-factors g c =
    let a = c.copy_operand.ensures in
    let b = c.copy_operand-2.ensures in
    factors_asked (c.first.ensures.patterns ∙ a.sp_after) (c.first.ensures.coefficients ∙ a.sc_after) (c.first-2.ensures.patterns ∙ b.sp_after) (c.first-2.ensures.coefficients ∙ b.sc_after)
    c.requires.ready

pub returns : goal.returns
returns g c =
    let a = c.copy_operand.ensures in
    let b = c.copy_operand-2.ensures in
    let is = factors_formed (c.first.ensures.patterns ∙ a.sp_after) (c.first.ensures.coefficients ∙ a.sc_after) (c.first-2.ensures.patterns ∙ b.sp_after) (c.first-2.ensures.coefficients ∙ b.sc_after)
    c.requires.ready in
    formed-at c.args.i _ c.args.patterns.now c.args.coefficients.now (omega arith) (omega arith) is _ _ _ c.product.auto.patterns c.product.auto.coefficients c.product.ensures
