-- `Pattern::either` meets its contract: byte by byte, the bits of either word.
use borrow.Author.Rules.{rules}
use Rattle.algebra.proofs.Patterns.Either.{word-either}
use Rattle.algebra.proofs.Pattern.either.Goals as goal

pub returns : goal.returns
returns c = word-either c.args.self.0 c.args.other.0 (search rules) (search rules)
