-- `write_values` meets its contract: one value more.
use Rattle.replay.proofs.Hexing.{hex-step}
use Rattle.replay.proofs.lines.write_values.Goals as goal

pub loop-v-preserved : goal.loop-v-preserved
loop-v-preserved g c =
    hex-step g.T.Place.DIGITS g.T.Place.bits _ _ _ c.loop-v-test.true c.v-item.is _ _ c.loop-v.invariant.0 c.loop-v.invariant.1 c.write_value-place.ensures.value c.write_value-place.ensures.out_after
