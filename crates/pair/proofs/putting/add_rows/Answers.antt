-- `add_rows` meets its contract: the part stands in the arrays that are lent for it, and all pairs of it and of the power are added.
use Rattle.pair.proofs.AddingRows.{Taken, none-added, can-add, rows-added}
use Rattle.pair.proofs.putting.add_rows.Goals as goal
use Rattle.pair.proofs.putting.add_rows.Goals.{After-take_part-m}

-- the part stands in the two arrays that are lent for it
taken : (d : After-take_part-m)
    → Taken d.args.v d.args.k d.args.s.patterns.now d.args.s.coefficients.now d.args.power.patterns.now d.args.power.coefficients.now d.args.gr.now d.args.gc.now d.args.n d.take_part-m.result d.take_part-m.new.patterns d.take_part-m.new.coefficients
taken d = record { asked = d.requires.can_add_rows; stands = d.take_part-m.ensures }

pub returns-then-m-eq0 : goal.returns-then-m-eq0
returns-then-m-eq0 c = none-added (taken (goal.at.returns-then-m-eq0 c).After-take_part-m) c.if-m-eq0.true

pub add_product-requires : goal.add_product-requires
add_product-requires c = rw (c.first.ensures.patterns, c.first.ensures.coefficients) (can-add (taken (goal.at.add_product-requires c).After-take_part-m))

pub returns : goal.returns
returns c =
    rows-added (taken (goal.at.returns c).After-take_part-m) _ _ c.add_product.new.ranks
    (rw (c.first.ensures.patterns, c.first.ensures.coefficients) at c.add_product.ensures)
