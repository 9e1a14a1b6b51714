-- The letter that the code finds, as the definition says it.
use Rattle.std.specs.Prelude.{ℕ, Option, Some, None}
use Rattle.text.specs.Letters.{Letter, Letter.names, Letter.nothing}

abbrev pub letter_is : Option ℕ → Letter
letter_is (Some v) = names v
letter_is None = nothing
