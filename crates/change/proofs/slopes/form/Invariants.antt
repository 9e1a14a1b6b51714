-- `form` meets its contract: the loop keeps `Sloping`, and what is not read yet stands in its place.
use lib.ListN.{take}
use Rattle.change.proofs.Sloping.{Sloping}
use Rattle.change.proofs.slopes.form.Given as goal

abbrev pub invariant-loop-k : goal.invariant-loop-k
invariant-loop-k l = Sloping l.v (take l.n l.initial.patterns) (take l.n l.initial.coefficients) l.initial.patterns l.initial.coefficients l.patterns l.coefficients l.count l.k
