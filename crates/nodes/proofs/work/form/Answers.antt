-- `form` meets its contract, kind by kind.
use mathlib.Core.Path.{◌∙◌}
use mathlib.Core.List.{List}
use native.Mathlib.Omega.{arith}
use mir.Syntax.{w64}
use mir.ValLaws.{to_z-of_z}
use borrow.Author.Rules.{rules}
use Rattle.algebra.specs.Sum.{Sum}
use Rattle.nodes.specs.Inside.Work.{sums_at}
use Rattle.nodes.proofs.Working.{formed-as, integer-formed, variable-formed, formed-at}
use Rattle.nodes.proofs.work.form.Goals as goal
use Rattle.nodes.proofs.work.form.Goals.{Start}

abbrev kept : (c : Start) → List Sum
kept c = sums_at c.args.i c.args.counts.now c.args.patterns.now c.args.coefficients.now

pub returns-in-Integer : goal.returns-in-Integer
returns-in-Integer c = let is = integer-formed (kept (goal.at.returns-in-Integer c).Start) (to_z-of_z w64 c.in-Integer.n (search rules)) ∙ formed-as c.in-Integer.is (kept (goal.at.returns-in-Integer c).Start) in
    formed-at c.args.i _ c.args.patterns.now c.args.coefficients.now (omega arith) (omega arith) is _ _ _ c.integer.auto.patterns c.integer.auto.coefficients c.integer.ensures

pub returns-in-Variable : goal.returns-in-Variable
returns-in-Variable c = let is = variable-formed (kept (goal.at.returns-in-Variable c).Start) _ ∙ formed-as c.in-Variable.is (kept (goal.at.returns-in-Variable c).Start) in
    formed-at c.args.i _ c.args.patterns.now c.args.coefficients.now (omega arith) (omega arith) is _ _ _ c.variable.auto.patterns c.variable.auto.coefficients c.variable.ensures
