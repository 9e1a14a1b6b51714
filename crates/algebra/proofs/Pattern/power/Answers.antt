-- `Pattern::power` meets its contract: a shift brings e to the byte of v.
use Rattle.algebra.proofs.Patterns.Word.{alone-shifted}
use Rattle.algebra.proofs.Pattern.power.Goals as goal

pub returns : goal.returns
returns c = alone-shifted c.args.v c.args.e _ c.requires.v_lt_variables c.requires.e_le_largest_degree c.bits_below.ensures
