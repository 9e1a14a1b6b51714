-- `Pattern::rank` meets its contract: a valid word's degree is its remainder by 255, and the quotient is below 2^56.
use native.Mathlib.Omega.{arith}
use Rattle.algebra.specs.Inside.Rank.{rank_of}
use Rattle.algebra.proofs.Patterns.Word.{valid-degree, quotient-small}
use Rattle.algebra.proofs.Pattern.rank.Goals as goal

pub returns : goal.returns
unfolding rank_of
returns c = omega (arith, valid-degree c.args.self.0 c.requires, quotient-small c.args.self.0 c.requires, c.requires.low)
