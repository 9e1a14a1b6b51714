-- `copy_operand` meets its contract: what is copied stands in the first places.
use mathlib.Core.Path.{◌∙◌, ap}
use lib.ListN.{length}
use lib.Seq.{take_at}
use Rattle.nodes.proofs.work.copy_operand.Goals as goal

pub returns-clause-sp_after : goal.returns-clause-sp_after
returns-clause-sp_after c =
    let is = c.copy_from_slice.ensures.after in
    let operand = c.terms_of-operand.ensures in
    take_at c.copy_from_slice.new.self _ c.args.n (ap length is ∙ operand.many_patterns) ∙ is ∙ operand.patterns

pub returns-clause-sc_after : goal.returns-clause-sc_after
returns-clause-sc_after c =
    let is = c.copy_from_slice-2.ensures.after in
    let operand = c.terms_of-operand.ensures in
    take_at c.copy_from_slice-2.new.self _ c.args.n (ap length is ∙ operand.many_coefficients) ∙ is ∙ operand.coefficients
