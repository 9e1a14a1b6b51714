use mathlib.Core.Path.{sym, subst}
use Prim.Native.Nat.{◌+◌}
use lib.ListN.{set}
use Rattle.answers.proofs.Copies.{Copying, start, again, ended}
use Rattle.answers.proofs.areas.copy.Goals as goal

pub loop-i-init : goal.loop-i-init
loop-i-init g c = start _ _ _ c.requires.in_area c.requires.in_values

pub loop-i-preserved : goal.loop-i-preserved
loop-i-preserved g c =
    subst (λ v. Copying c.args.area.now c.args.values.now c.args.count (set c.loop-i.area c.loop-i.i v) (c.loop-i.i + 1)) (sym c.index-values-i.is)
    (again c.index-values-i.result _ _ _ _ _ c.loop-i.invariant c.loop-i-test.true)

pub returns : goal.returns
returns g c = ended _ _ _ _ _ c.loop-i.invariant c.loop-i-test.false
