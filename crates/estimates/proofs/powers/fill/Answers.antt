use native.Mathlib.Omega.{arith}
use borrow.Author.Rules.{rules}
use borrow.Author.Count.{below_more}
use mathlib.Core.List.{[]}
use lib.ListN.{length-set}
use lib.Seq.{get_or-set_same, get_or-set_other}
use Rattle.estimates.proofs.powers.fill.Goals as goal

pub fill_row-requires : goal.fill_row-requires
fill_row-requires g c = (search rules, (omega (arith, c.exponent-top.ensures, c.requires c.loop-v.v c.loop-v-test.true), c.at.ensures.no_smaller))

pub loop-v-preserved : goal.loop-v-preserved
loop-v-preserved g c = (
  omega (arith, length-set c.loop-v.table c.loop-v.v c.fill_row.new.row, c.loop-v.invariant.0),
  below_more _ c.loop-v.v (λ u h. rw (get_or-set_other c.loop-v.table c.loop-v.v u c.fill_row.new.row [] (λ e. omega arith)) (c.loop-v.invariant.1 u h))
      (rw (get_or-set_same c.loop-v.table c.loop-v.v c.fill_row.new.row [] (omega (arith, c.loop-v.invariant.0))) (rw (c.at.ensures.most, c.at.ensures.value, c.exponent-top.ensures) at c.fill_row.ensures)),
)

pub returns : goal.returns
returns g c = λ v h. c.loop-v.invariant.1 v (omega arith)
