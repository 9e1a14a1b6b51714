-- `apply_pair` meets its contract: the checks are those of the pair, in their order.
use native.Mathlib.Omega.{arith}
use Rattle.weights.proofs.Weighing.{capped-light, capped-heavy}
use Rattle.pair.specs.Asked.{Allowed}
use Rattle.change.specs.Checks.{Fails.degree, Fails.weight}
use Rattle.change.proofs.ApplyPair.{refuses, answered}
use Rattle.change.proofs.applying.apply_pair.Goals as goal
use Rattle.change.proofs.applying.apply_pair.Goals.{Else-measure-gt-LARGEST_WEIGHT}

-- degree and weight have passed
allowed : (d : Else-measure-gt-LARGEST_WEIGHT)
    → Allowed d.args.v d.args.put.patterns.now d.args.put.coefficients.now d.args.into.patterns.now d.args.into.coefficients.now
allowed d =
    record {
      low = omega (arith, d.measure-measure.ensures.0, d.if-measure-gt-LARGEST_DEGREE.false);
      light = omega (arith, capped-light _ _ d.measure-measure.ensures.1 d.if-measure-gt-LARGEST_WEIGHT.false, d.if-measure-gt-LARGEST_WEIGHT.false);
    }

pub returns-then-measure-gt-LARGEST_DEGREE : goal.returns-then-measure-gt-LARGEST_DEGREE
returns-then-measure-gt-LARGEST_DEGREE c = rw c.at.ensures (refuses _ _ _ _ _ _ (degree (omega (arith, c.measure-measure.ensures.0, c.if-measure-gt-LARGEST_DEGREE.true))))

pub returns-then-measure-gt-LARGEST_WEIGHT : goal.returns-then-measure-gt-LARGEST_WEIGHT
returns-then-measure-gt-LARGEST_WEIGHT c =
    rw c.at-then-measure-gt-LARGEST_WEIGHT.ensures
    (refuses _ _ _ _ _ _ (weight (omega (arith, c.measure-measure.ensures.0, c.if-measure-gt-LARGEST_DEGREE.false)) (capped-heavy _ _ c.measure-measure.ensures.1 c.if-measure-gt-LARGEST_WEIGHT.true)))

pub returns : goal.returns
returns c =
    let a = allowed (goal.at.returns c).Else-measure-gt-LARGEST_WEIGHT in
    rw (c.ok_or.ensures.value, c.at-2.ensures) (answered _ _ _ _ _ _ a.low a.light c.put.result c.put.ensures)
