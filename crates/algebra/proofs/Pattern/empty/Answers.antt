-- `Pattern::empty` meets its contract: the empty pattern's word is 0.
use mathlib.Core.Path.{sym}
use Rattle.algebra.proofs.Patterns.Word.{word-empty}
use Rattle.algebra.proofs.Pattern.empty.Goals as goal

pub returns : goal.returns
returns c = sym word-empty
