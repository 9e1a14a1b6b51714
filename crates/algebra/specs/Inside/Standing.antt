-- The answers of the code's comparison, as those of the term order.
use Prim.Native.Nat.{Ordering}
use Rattle.std.specs.declared.cmp.Ordering as code
use Rattle.std.specs.declared.cmp.Ordering.TheVariants.{Less, Equal, Greater}

abbrev pub standing : code.Ordering → Ordering
standing Less = Ordering.lt
standing Equal = Ordering.eq
standing Greater = Ordering.gt
