-- `value` meets its contract: one digit more.
use Rattle.std.proofs.Common.{refl, ◌<◌, arith}
use Rattle.replay.specs.Hex.{hex_digits}
use Rattle.replay.proofs.Hexing.{digits-more, bits-more}
use Rattle.replay.proofs.fields.value.Goals as goal

pub loop-b-init : goal.loop-b-init
unfolding hex_digits
loop-b-init g c = (refl, omega arith)

pub overflow_mul-word : goal.overflow_mul-word
overflow_mul-word g c =
    let most = g.met.T.Place.fits_word in
    let next = bits-more c.loop-b.word 0 c.loop-b.b-index (omega (arith, most)) c.loop-b.invariant.1 (omega arith) in
    record { fits = omega (arith, next.1) }

pub overflow_add-word : goal.overflow_add-word
overflow_add-word g c =
    let most = g.met.T.Place.fits_word in
    let digit = c.in_ok-digit.ensures in
    let next = bits-more c.loop-b.word c.from.result c.loop-b.b-index (omega (arith, most)) c.loop-b.invariant.1 (omega (arith, digit.0)) in
    record { fits = next.1 }

pub loop-b-preserved : goal.loop-b-preserved
loop-b-preserved g c =
    let most = g.met.T.Place.fits_word in
    let digit = c.in_ok-digit.ensures in
    let small : c.from.result < 16 = omega (arith, digit.0) in
    let is = rw (← c.from.ensures) at digit.1 in (
      digits-more c.args.text.now c.loop-b.b-index c.loop-b.word c.from.result (omega arith) small c.loop-b.invariant.0 is,
      (bits-more c.loop-b.word c.from.result c.loop-b.b-index (omega (arith, most)) c.loop-b.invariant.1 small).0,
    )
