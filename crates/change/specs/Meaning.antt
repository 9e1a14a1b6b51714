-- What a substitution means: which values the variables then stand for.
use Rattle.std.specs.Prelude.{List, [], ◌∷◌, ℤ, set}
use Rattle.algebra.specs.Value.{value}
use Rattle.change.specs.Pairs.{Pair}

-- x are the variables' values after all pairs; these are the values that they stand for in the sum that is given. The last pair is undone first, and each pair's sum is
-- valued at what the pairs after it give
unfoldable pub before : List Pair → List ℤ → List ℤ
before [] x = x
before (p ∷ ps) x = let y = before ps x in set y p.variable (value p.sum y)
