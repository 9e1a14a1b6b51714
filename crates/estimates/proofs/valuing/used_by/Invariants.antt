-- `used_by` meets its contract: no pattern so far has a larger exponent.
use Prim.Native.Nat.{ℕ, ◌≤◌, ◌<◌}
use lib.ListN.{get_or}
use Rattle.algebra.specs.Pattern.{exponent}
use Rattle.algebra.specs.Word.{exponents}
use Rattle.estimates.proofs.valuing.used_by.Given as goal

abbrev pub invariant-loop-word : goal.invariant-loop-word
invariant-loop-word l = (j : ℕ) → j < l.word-index → (v : ℕ) → exponent v (exponents (get_or l.patterns j 0)) ≤ exponent v (exponents l.used.0)
