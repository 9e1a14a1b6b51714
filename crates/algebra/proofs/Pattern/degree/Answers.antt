-- `Pattern::degree` meets its contract: the remainder of a valid word by 255 is its degree.
use Rattle.algebra.proofs.Patterns.Word.{valid-degree}
use Rattle.algebra.proofs.Pattern.degree.Goals as goal

pub returns : goal.returns
returns c = valid-degree c.args.self.0 c.requires
