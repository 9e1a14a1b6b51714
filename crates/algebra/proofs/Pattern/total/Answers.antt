-- `Pattern::total` meets its contract: the bytes of any word, added up by lanes.
use borrow.Author.Rules.{rules}
use Rattle.algebra.proofs.Patterns.Lanes.{lanes-degree}
use Rattle.algebra.proofs.Pattern.total.Goals as goal

pub returns : goal.returns
returns c = lanes-degree c.args.self.0 (search rules)
