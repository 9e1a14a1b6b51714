-- `copy_terms` meets its contract: the loop keeps `Copying`.
use mathlib.Core.Path.{◌≡◌}
use Rattle.packed.proofs.CopyTerms.{Copying}
use Rattle.packed.proofs.fast.copy_terms.Given as goal

abbrev pub invariant-loop-k : goal.invariant-loop-k
invariant-loop-k l = (Copying l.bytes l.at l.count l.initial.patterns l.initial.coefficients l.patterns l.coefficients l.reader.at l.k) × (l.reader.bytes.now ≡ l.bytes)
