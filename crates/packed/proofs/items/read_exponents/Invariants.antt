-- `read_exponents` meets its contract: each exponent that is read comes into the pattern by a product.
use mathlib.Core.Path.{◌≡◌}
use Rattle.packed.proofs.ReadItems.{Reads}
use Rattle.packed.proofs.items.read_exponents.Given as goal

abbrev pub invariant-loop-v : goal.invariant-loop-v
invariant-loop-v l = (Reads l.bytes l.at l.powers l.pattern.0 l.degree l.reader.at l.v) × (l.reader.bytes.now ≡ l.bytes)
