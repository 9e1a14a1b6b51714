-- `write_numbered` meets its contract: the digits are written after the word.
use mathlib.Core.Path.{refl}
use mathlib.Core.List.{◌++◌}
use Rattle.numbers.proofs.Writing.{Writing, start, next}
use Rattle.numbers.specs.Decimal.{decimal}
use Rattle.numbers.proofs.Writing.{finished}
use Rattle.listing.proofs.lines.write_numbered.Goals as goal
use Rattle.listing.proofs.lines.write_numbered.Goals.{After-write_bytes-after}

-- after the word
worded : (d : After-write_bytes-after) → Writing d.args.area.now d.args.at (d.args.word.now ++ decimal d.args.n) d.write_bytes-after.new.area d.write_bytes-after.result (decimal d.args.n)
worded d =
    next d.args.word.now (decimal d.args.n) refl (start d.args.area.now d.args.at (d.args.word.now ++ decimal d.args.n) d.requires)
    d.write_bytes-after.ensures.area_after d.write_bytes-after.ensures.value

pub returns-clause-area_after : goal.returns-clause-area_after
returns-clause-area_after c = (finished (worded (goal.at.returns-clause-area_after c).After-write_bytes-after) c.write_decimal.ensures.value c.write_decimal.ensures.area_after).1
