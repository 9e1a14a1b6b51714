use mathlib.Core.Path.{◌≡◌, ◌∙◌}
use native.Mathlib.Omega.{arith}
use borrow.Author.Rules.{rules}
use lib.ListN.{length}
use Rattle.estimates.proofs.Passing.{start, again, stopped, ended}
use Rattle.estimates.proofs.readings.before_negative.Goals as goal

pub loop-v-init : goal.loop-v-init
loop-v-init c = start _

pub returns-then-tolerance-lt0 : goal.returns-then-tolerance-lt0
returns-then-tolerance-lt0 c = stopped c.loop-v.invariant (search rules) c.if-tolerance-lt0.true

pub loop-v-preserved : goal.loop-v-preserved
loop-v-preserved c = again c.loop-v.invariant (search rules) c.loop-v-test.true c.if-tolerance-lt0.false

pub returns : goal.returns
returns c = let all : length c.args.tolerances.now ≡ c.loop-v.v = omega arith in all ∙ ended c.loop-v.invariant c.loop-v-test.false
