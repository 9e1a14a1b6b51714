use mathlib.Core.Path.{◌≡◌}
use native.Mathlib.Omega.{arith}
use borrow.Author.Rules.{rules}
use Rattle.estimates.proofs.Multiplying.{themselves}
use Rattle.estimates.proofs.Tabling.{none_written, further}
use Rattle.estimates.proofs.powers.fill_row.Goals as goal

pub loop-e-init : goal.loop-e-init
loop-e-init g c = none_written _ _ _ _ (search rules) c.of-power.ensures.most c.of-power.ensures.value

pub loop-e-preserved : goal.loop-e-preserved
loop-e-preserved g c = further c.loop-e.invariant c.args.factor (themselves c.requires.reading_bound) c.times-power.ensures (omega arith)

pub returns : goal.returns
returns g c =
    let all : c.loop-e.e ≡ c.args.top = omega arith in
    rw all at c.loop-e.invariant.written
