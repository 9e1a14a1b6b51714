-- `fits` meets its contract: so few terms have no larger spread, and otherwise it is counted.
use mathlib.Core.Path.{sym}
use native.Mathlib.Omega.{arith}
use borrow.Author.Tests.{le-leb}
use Rattle.algebra.specs.Limits.{most_terms}
use Rattle.algebra.specs.Arithmetic.{sum_spread}
use Rattle.algebra.specs.Word.{terms}
use Rattle.sums.proofs.Counts.{spread-below}
use Rattle.sums.proofs.adding.fits.Goals as goal

pub returns-then-s-t-le-MOST_TERMS : goal.returns-then-s-t-le-MOST_TERMS
returns-then-s-t-le-MOST_TERMS c = sym (le-leb (sum_spread (terms c.args.s.patterns.now c.args.s.coefficients.now) (terms c.args.t.patterns.now c.args.t.coefficients.now)) most_terms (omega (arith, spread-below c.requires.held c.requires.held_2, c.if-s-t-le-MOST_TERMS.true)))
