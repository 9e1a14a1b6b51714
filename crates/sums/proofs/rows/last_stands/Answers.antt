-- `last_stands` meets its contract: where there is a last rank, it is compared.
use Rattle.algebra.specs.Inside.Standing.{standing}
use Rattle.algebra.proofs.Patterns.Standing.{standing-says}
use Rattle.sums.proofs.Standing.{last-stands}
use Rattle.sums.proofs.rows.last_stands.Goals as goal

pub returns : goal.returns
returns c = last-stands c.args.ranks.now c.args.i c.args.rank c.if-i-eq0.false c.requires.i_in_bounds c.requires.each_valid c.requires.valid (λ j. (c.shared_slice_known-1.given j).fits) c.ranges.rank.fits
    (standing c.cmp.result) (standing-says _ _ _ c.cmp.ensures)
