-- `fill_row` meets its contract: the loop keeps `Filling`.
use Rattle.estimates.proofs.Tabling.{Filling}
use Rattle.estimates.proofs.powers.fill_row.Given as goal

abbrev pub invariant-loop-e : goal.invariant-loop-e
invariant-loop-e g l = Filling l.factor.most l.factor.value g.row.N l.row l.power l.e
