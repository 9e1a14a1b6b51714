-- `power_by` meets its contract: its base is the sum of an earlier node, copied, and both work areas lend the part of node i.
use mathlib.Core.Path.{◌∙◌}
use native.Mathlib.Omega.{arith}
use Rattle.nodes.proofs.Working.{base_asked, base_formed, formed-at}
use Rattle.nodes.proofs.work.power_by.Goals as goal

pub power-requires-clause-base : goal.power-requires-clause-base
power-requires-clause-base g c =
    base_asked c.requires.ready (c.first.ensures.patterns ∙ c.copy_operand.ensures.sp_after) (c.first.ensures.coefficients ∙ c.copy_operand.ensures.sc_after)

pub returns : goal.returns
returns g c =
    let is = base_formed c.requires.ready (c.first.ensures.patterns ∙ c.copy_operand.ensures.sp_after) (c.first.ensures.coefficients ∙ c.copy_operand.ensures.sc_after) in
    formed-at c.args.i _ c.args.patterns.now c.args.coefficients.now (omega arith) (omega arith) is _ _ _ c.power.auto.patterns c.power.auto.coefficients c.power.ensures
