-- `sum_parts` meets its contract without tables: each factor is multiplied by itself.
use Rattle.estimates.proofs.valuing.sum_parts.Goals as goal

pub returns : goal.returns
returns c =
    let covers = c.args.readings.covers in
    c.sum_of.ensures _ _ (record { readings_long = covers.readings_long; raised_long = covers.raised_long; times = λ a r k v e h inside some low p. p.1 })
