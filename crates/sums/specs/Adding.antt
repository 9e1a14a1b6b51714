-- Two sums added from the front.
use Rattle.std.specs.Prelude.{cond, List, eqb, length, get_or}
use Prim.Native.Nat.{ℕ, Ordering}
use Rattle.algebra.specs.Pattern.{order}
use Rattle.algebra.specs.Word.{exponents}

-- how their next terms stand to each other, by the words of their patterns: x terms of the first are done, and y of the second. Where one has none left, the
-- other's is next
abbrev pub next_stands : ℕ → List ℕ → ℕ → List ℕ → Ordering
next_stands x sp y tp = cond (eqb y (length tp)) Ordering.lt (cond (eqb x (length sp)) Ordering.gt (order (exponents (get_or sp x 0)) (exponents (get_or tp y 0))))
