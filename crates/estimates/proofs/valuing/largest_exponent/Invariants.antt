-- `largest_exponent` meets its contract: no exponent so far is larger.
use Prim.Native.Nat.{ℕ, ◌≤◌, ◌<◌}
use Rattle.algebra.specs.Pattern.{exponent}
use Rattle.algebra.specs.Word.{exponents}
use Rattle.estimates.proofs.valuing.largest_exponent.Given as goal

abbrev pub invariant-loop-v : goal.invariant-loop-v
invariant-loop-v l = (u : ℕ) → u < l.v → exponent u (exponents l.pattern.0) ≤ l.most
