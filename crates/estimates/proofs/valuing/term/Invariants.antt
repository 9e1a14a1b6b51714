-- `term` meets its contract: the loop keeps `Forming`.
use mathlib.Core.List.{List, [], ◌∷◌}
use Prim.Native.Nat.{ℕ}
use lib.IntN.{ℤ}
use Rattle.algebra.specs.Word.{exponents}
use Rattle.estimates.specs.Inside.Powers.{Multiplies}
use Rattle.estimates.proofs.TermParts.{Forming}
use Rattle.estimates.proofs.valuing.term.Given as goal

abbrev pub invariant-loop-v : goal.invariant-loop-v
invariant-loop-v g l = (x : List ℤ) (y : List ℕ) → Multiplies (goal.F-post g l.times_power) x y (l.pattern ∷ []) → Forming l.c (exponents l.pattern) x y l.product.most l.product.value l.v
