-- What the code finds of a sum at readings, as what the definition judges: nothing, where the raised value is above 2^62.
use Rattle.std.specs.Prelude.{Option, Some, None}
use Rattle.answers.specs.Refusals.{RANGE}
use Rattle.answers.specs.Judge.{Judged, Judged.good, Judged.fails}
use Rattle.estimates.specs.Range.{Estimate}
use Rattle.estimates.specs.declared.Estimate.{Estimate as Found}

abbrev pub found_of : Option Found → Judged Estimate
found_of (Some e) = good (record { estimate = e.value; margin = e.margin })
found_of None = fails RANGE 0
