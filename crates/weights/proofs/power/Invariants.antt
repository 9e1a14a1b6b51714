-- `power` meets its contract: the loop keeps `Raising`.
use Rattle.weights.proofs.Weighing.{Raising}
use Rattle.weights.proofs.power.Given as goal

abbrev pub invariant-loop : goal.invariant-loop
invariant-loop l = Raising l.w l.e l.power l.counter
