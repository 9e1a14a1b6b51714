-- `multiply` meets its contract: the small arrays have room for all rows, and the large ones for 128 terms and one row more.
use mathlib.Core.Path.{◌≡◌, ◌∙◌, ap}
use lib.IntN.{pos}
use lib.ListN.{get_or}
use mir.Syntax.{w64}
use mir.Val.{of_z, to_z}
use mir.ValLaws.{to_z-of_z}
use Rattle.sums.specs.Formed.{formed_into}
use Rattle.sums.proofs.ByTerm.{has-term, by_one}
use Rattle.sums.proofs.multiply.Goals as goal
use Rattle.sums.proofs.multiply.Goals.{After-c-1}

-- the coefficient that was read, as the machine holds it
read : (d : After-c-1) → let value = get_or d.args.s.coefficients.now 0 (pos 0) in to_z w64 (of_z w64 value) ≡ value
read d = to_z-of_z w64 _ (record { sfits = d.c-1.given })

pub multiply_by_term-requires-clause-has_term : goal.multiply_by_term-requires-clause-has_term
multiply_by_term-requires-clause-has_term c = rw (read (goal.at.multiply_by_term-requires-clause-has_term c).After-c-1) (has-term c.requires.factors c.if-s-eq1.true)

pub returns-then-s-eq1 : goal.returns-then-s-eq1
returns-then-s-eq1 c = (rw (read (goal.at.returns-then-s-eq1 c).After-c-1) at c.multiply_by_term.ensures) ∙ ap (λ x. formed_into x c.args.patterns.now c.args.coefficients.now) (by_one c.requires.factors c.if-s-eq1.true)
