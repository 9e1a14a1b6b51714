-- A pattern that is no smaller than two others, exponent by exponent, for tables that have to reach far enough. Document 01 has no word for it: it serves the estimate's code.
use Rattle.std.specs.Prelude.{[], ◌∷◌}
use Rattle.std.specs.Int.Bits.{bit_or}
use Rattle.algebra.specs.Pattern.{Pattern}

-- the bits that one of two exponents has, or both
unfoldable pub either : Pattern → Pattern → Pattern
either [] q = q
either (e ∷ p) [] = e ∷ p
either (e ∷ p) (f ∷ q) = bit_or e f ∷ either p q
