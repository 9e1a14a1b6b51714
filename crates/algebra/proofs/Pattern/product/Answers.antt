-- `Pattern::product` meets its contract: the words add up, and the sum is a valid word, so that it fits.
use mathlib.Core.Path.{sym}
use Rattle.algebra.proofs.Patterns.Word.{word-product, product_small}
use Rattle.algebra.proofs.Pattern.product.Goals as goal

pub overflow_add-result : goal.overflow_add-result
overflow_add-result c = record { fits = product_small c.args.self.0 c.args.other.0 c.requires.valid c.requires.valid_2 c.requires.other_bound }

pub returns : goal.returns
returns c = sym (word-product c.args.self.0 c.args.other.0 c.requires.valid c.requires.valid_2)
