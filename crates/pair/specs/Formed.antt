-- The sum that a pair gives: only where no spread on the way is above 128.
use Rattle.std.specs.Prelude.{ℕ}
use Rattle.algebra.specs.Limits.{variables}
use Rattle.algebra.specs.Sum.{Sum}
use Rattle.algebra.specs.Substitute.{substitute, pair_spread}
use Rattle.sums.specs.Formed.{Formed, within}

-- S is put for v in s
unfoldable pub pair_of : ℕ → Sum → Sum → Formed Sum
pair_of v S s = within (pair_spread variables v S s) (substitute variables v S s)
