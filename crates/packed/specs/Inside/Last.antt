-- The pattern before, if there is one: which patterns may follow it.
use Rattle.std.specs.Prelude.{Bool, true, Option, Some, None}
use Rattle.algebra.specs.Pattern.{Pattern, order}
use Rattle.algebra.specs.Sum.{is_before}
use Rattle.algebra.specs.Word.{exponents, Valid}
use Rattle.algebra.specs.declared.Pattern as declared

abbrev pub LastValid : Option declared.Pattern → Type 0
LastValid (Some last) = Valid last.0
LastValid None = Unit {0}

abbrev pub may_follow : Option declared.Pattern → Pattern → Bool
may_follow (Some last) p = is_before (order (exponents last.0) p)
may_follow None p = true
