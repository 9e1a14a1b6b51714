-- What std's comparison of two numbers says of the term order.
use mathlib.Core.Path.{◌≡◌}
use Prim.Native.Nat.{ℕ}
use Rattle.std.specs.Ordering.{nat_cmp}
use Rattle.std.specs.declared.cmp.Ordering.{Ordering}
use Rattle.std.specs.declared.cmp.Ordering.TheVariants.{Less, Equal, Greater}
use Rattle.std.proofs.lemmas.Cmp.{ranked}
use Rattle.algebra.specs.Inside.Standing.{standing}
use Rattle.algebra.proofs.Numbers.Compare.{Says}

pub standing-says : (o : Ordering) (m n : ℕ) → o ≡ nat_cmp m n → Says (standing o) m n
standing-says Less m n h = ranked m n Less h
standing-says Equal m n h = ranked m n Equal h
standing-says Greater m n h = ranked m n Greater h
