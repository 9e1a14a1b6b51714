-- The number 1 as a factor: it can be held, two areas of one place hold it by its rank, and all pairs of a sum and of 1 are the sum.
use mathlib.Core.Path.{◌≡◌, refl, sym, ◌∙◌, ap, ap₂}
use mathlib.Core.List.{[], ◌∷◌}
use Prim.Native.Nat.{ℕ}
use native.Mathlib.Omega.{arith}
use lib.IntN.{pos}
use Rattle.algebra.specs.Limits.{variables}
use Rattle.algebra.specs.Pattern.{empty_pattern}
use Rattle.algebra.specs.Sum.{Term, term, Sum, degree_of}
use Rattle.algebra.specs.Arithmetic.{one_sum, row, pairs}
use Rattle.algebra.specs.Word.{terms}
use Rattle.algebra.specs.Inside.Rank.{words_at}
use Rattle.algebra.specs.Held.{words_of}
use Rattle.algebra.proofs.Numbers.Whole.{*ℤ-oner}
use Rattle.algebra.proofs.Patterns.Laws.{times-comm, empty-times, empty-degree}
use Rattle.algebra.proofs.Patterns.Word.{word-empty}
use Rattle.algebra.proofs.Patterns.Rank.{word-at-zero}
use Rattle.algebra.proofs.Sums.Every.{Every, Long}
use Rattle.algebra.proofs.Sums.Ordered.{parts}
use Rattle.algebra.proofs.Sums.Results.{unit-ordered}
use Rattle.sums.specs.Held.{Held}
use Rattle.sums.proofs.Holding.{Holdable, spells, holds}

pub unit-degree : degree_of (one_sum variables) ≡ 0
unfolding degree_of
unit-degree = omega (arith, empty-degree variables)

pub unit-holdable : Holdable (one_sum variables)
unit-holdable =
    let p = parts variables (one_sum variables) (unit-ordered variables) in
    record { long = p.long; strict = p.strict; low = omega (arith, unit-degree); few = omega arith }

-- the rank 0 is that of the empty pattern
unit-words : words_at (0 ∷ []) ≡ words_of (one_sum variables)
unit-words = ap (λ (w : ℕ). w ∷ []) (word-at-zero ∙ sym word-empty)

pub unit-held : Held (words_at (0 ∷ [])) (pos 1 ∷ [])
unit-held = rw unit-words (holds unit-holdable)

pub unit-is : terms (words_at (0 ∷ [])) (pos 1 ∷ []) ≡ one_sum variables
unit-is = rw unit-words (spells unit-holdable)

pub pairs-unit : (n : ℕ) (s : Sum) → Every (Long n) s → pairs s (one_sum n) ≡ s
unfolding pairs row
pairs-unit n [] h = refl
pairs-unit n (t ∷ s) h =
    ap₂ (λ (u : Term) (l : Sum). u ∷ l) (ap₂ term (*ℤ-oner t.coefficient) (times-comm t.pattern (empty_pattern n) ∙ empty-times n t.pattern h.0)) (pairs-unit n s h.1)
