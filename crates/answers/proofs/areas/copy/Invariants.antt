-- `copy` meets its contract: the loop keeps `Copying`.
use Rattle.answers.proofs.Copies.{Copying}
use Rattle.answers.proofs.areas.copy.Given as goal

abbrev pub invariant-loop-i : goal.invariant-loop-i
invariant-loop-i g l = Copying l.initial.area l.values l.count l.area l.i
