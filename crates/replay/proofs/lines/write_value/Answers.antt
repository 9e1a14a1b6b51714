-- `write_value` meets its contract: its digits are as many as are asked for, since there are enough.
use Rattle.std.proofs.Common.{◌≡◌, ◌<◌, ◌^◌, arith, ◌∙◌}
use Rattle.replay.proofs.Hexing.{exact-digits, value-digits}
use Rattle.replay.proofs.lines.write_value.Goals as goal
use Rattle.replay.proofs.lines.write_value.Goals.{After-hex-length}

exact : (g : _) (d : After-hex-length g) → d.hex-length.result ≡ g.T.Place.DIGITS
exact g d =
    let some = g.met.T.Place.has_digits in
    let most = g.met.T.Place.fits_word in
    let small : d.bits.result < 16 ^ d.DIGITS.result = rw d.DIGITS.ensures d.bits.ensures.fits in
    exact-digits d.bits.result d.hex-length.result d.DIGITS.result d.hex-length.ensures.len (omega (arith, some)) (omega (arith, most)) small ∙ d.DIGITS.ensures

pub write_bytes-requires : goal.write_bytes-requires
write_bytes-requires g c =
    let same = exact g (goal.at.write_bytes-requires g c).After-hex-length in
    omega (arith, same, c.requires, c.hex-length.ensures.in_bounds)

pub returns-clause-value : goal.returns-clause-value
returns-clause-value g c =
    let same = exact g (goal.at.returns-clause-value g c).After-hex-length in
    (value-digits c.bits.result c.hex-length.result g.T.Place.DIGITS c.args.at c.hex-length.new.out c.args.out.now same c.hex-length.ensures.digits c.write_bytes.ensures.value c.write_bytes.ensures.area_after).0

pub returns-clause-out_after : goal.returns-clause-out_after
returns-clause-out_after g c =
    let same = exact g (goal.at.returns-clause-out_after g c).After-hex-length in
    rw c.bits.ensures.value at (value-digits c.bits.result c.hex-length.result g.T.Place.DIGITS c.args.at c.hex-length.new.out c.args.out.now same c.hex-length.ensures.digits c.write_bytes.ensures.value c.write_bytes.ensures.area_after).1
