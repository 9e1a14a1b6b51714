-- Unpacking reads items in order, and the first fault met ends the reading. A number at fault, and bytes that end too soon, are faults of
-- the item's own reader (`read_number`); the others are judged here.
use Rattle.std.specs.Prelude.{List, [], ◌∷◌, ℕ, zero, suc, ◌+◌, leb, ℤ}
use Rattle.algebra.specs.Limits.{largest_degree, most_terms}
use Rattle.algebra.specs.Pattern.{Pattern}
use Rattle.algebra.specs.Sum.{Term, term, Sum, weight}
use Rattle.numbers.specs.Item.{Item, Item.got, and_then, provided, mapped, to_the_end, Fault, Fault.bad}
use Rattle.numbers.specs.Number.{read_number}
use Rattle.numbers.specs.Code.{decode}
use Rattle.packed.specs.Judge.{weighs, follows}

-- `so_far` is what the absolute coefficients before it add up to. At fault, at its first byte: a coefficient 0, or absolute coefficients so
-- far above 2^62
unfoldable pub read_coefficient : ℕ → List ℕ → ℕ → Item Fault ℤ
read_coefficient so_far s at =
    and_then (read_number s at) (λ c next.
    provided (weighs so_far (decode c)) bad at (got (decode c) next))

-- n exponents; `degree` is what the term's exponents so far add up to. At fault, at the exponent's first byte: above 60 together
unfoldable pub read_exponents : ℕ → ℕ → List ℕ → ℕ → Item Fault Pattern
read_exponents zero degree s at = got [] at
read_exponents (suc n) degree s at =
    and_then (read_number s at) (λ e next.
    provided (leb (degree + e) largest_degree) bad at
    (mapped (λ p. e ∷ p) (read_exponents n (degree + e) s next)))

-- one term; `before` has the terms before it, the last of them first. At fault, at the coefficient's first byte, tested after the last
-- exponent: a term not strictly after the one before
unfoldable pub read_term : ℕ → Sum → List ℕ → ℕ → Item Fault Term
read_term n before s at =
    and_then (read_coefficient (weight before) s at) (λ c next.
    and_then (read_exponents n 0 s next) (λ p end.
    provided (follows before p) bad at (got (term c p) end)))

unfoldable pub read_terms : ℕ → ℕ → Sum → List ℕ → ℕ → Item Fault Sum
read_terms n zero before s at = got [] at
read_terms n (suc left) before s at =
    and_then (read_term n before s at) (λ t next.
    mapped (λ rest. t ∷ rest) (read_terms n left (t ∷ before) s next))

-- a packed sum in n variables at a place of the bytes. At fault, at the count's first byte: a count over 128
unfoldable pub read_sum : ℕ → List ℕ → ℕ → Item Fault Sum
read_sum n s at =
    and_then (read_number s at) (λ count next.
    provided (leb count most_terms) bad at (read_terms n count [] s next))

-- all the bytes as one packed sum. At fault, at the first of them: bytes left over
unfoldable pub read_whole : ℕ → List ℕ → Item Fault Sum
read_whole n s = to_the_end bad s (read_sum n s 0)
