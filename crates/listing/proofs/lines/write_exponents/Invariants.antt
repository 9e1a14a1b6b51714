-- `write_exponents` meets its contract: the bytes left are those of the exponents left, and the newline.
use mathlib.Core.List.{List}
use Prim.Native.Nat.{ℕ}
use lib.ListN.{drop}
use Rattle.algebra.specs.Word.{exponents}
use Rattle.numbers.proofs.Writing.{Writing}
use Rattle.listing.specs.Lines.{exponents_line}
use Rattle.listing.proofs.lines.write_exponents.Given as goal

-- the bytes of the exponents from variable v on
abbrev line_from : ℕ → ℕ → List ℕ
line_from w v = exponents_line (drop v (exponents w))

abbrev pub invariant-loop-v : goal.invariant-loop-v
invariant-loop-v l = Writing l.initial.area l.at (line_from l.pattern.0 0) l.area l.place (line_from l.pattern.0 l.v)
