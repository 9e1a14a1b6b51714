-- The closure meets its contract: what it reads stands there at any default.
use mathlib.Core.List.{[]}
use lib.ListN.{get_or}
use Rattle.std.proofs.lemmas.List.{get_or_default}
use Rattle.estimates.proofs.valuing.fn.tabled_sum.sum_of.Goals as goal

pub returns : goal.returns
returns g c = λ d inside m m' n n' a b. c.times.ensures m m' n n' a (rw (get_or_default (get_or c.captures.table c.args.v []) c.args.e d c.index-row-e.result inside) at b)
