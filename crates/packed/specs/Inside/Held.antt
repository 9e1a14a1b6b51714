-- What the code's readers answer, and leave in two areas.
use Rattle.std.specs.Prelude.{List, [], ℕ, leb, ℤ, length}
use Rattle.algebra.specs.Limits.{most_terms}
use Rattle.algebra.specs.Sum.{Sum}
use Rattle.algebra.specs.Held.{words_of, coefficients_of}
use Rattle.answers.specs.Answers.{Told, Told.refused}
use Rattle.answers.specs.Areas.{written}
use Rattle.numbers.specs.Item.{Item, Item.got, Item.stopped, and_then, provided, to_the_end, Fault, Fault.bad}
use Rattle.numbers.specs.Number.{read_number}
use Rattle.packed.specs.ReadSum.{read_terms}
use Rattle.packed.specs.Whole.{fault_refusal}

-- ---- A packed sum in two steps.

-- the count alone. At fault, at its first byte: over 128
unfoldable pub read_count : List ℕ → ℕ → Item Fault ℕ
read_count s at = and_then (read_number s at) (λ count next. provided (leb count most_terms) bad at (got count next))

-- the terms after it, in n variables, which end with the bytes
unfoldable pub read_rest : ℕ → ℕ → List ℕ → ℕ → Item Fault Sum
read_rest n count s at = to_the_end bad s (read_terms n count [] s at)

-- ---- What is left in two areas.

-- the number of terms, and the areas with them; on a fault the areas stay
unfoldable pub read_into : Item Fault Sum → List ℕ → List ℤ → Item Fault ℕ × List ℕ × List ℤ
read_into (got s next) ws cs = (got (length s) next, written (words_of s) ws, written (coefficients_of s) cs)
read_into (stopped what place) ws cs = (stopped what place, ws, cs)

-- ---- How a fault is refused.

-- with this refusal, at its place (a value is no fault, and is not asked for)
abbrev pub fault : {A : Type 0} → ℕ → Item Fault A → Told
fault refusal (got a next) = refused refusal next
fault refusal (stopped what place) = refused (fault_refusal refusal what) place
