-- `begin` meets its contract: the words are ranked, and the coefficients copied.
use Rattle.sums.proofs.Holding.{each-valid}
use Rattle.sums.proofs.rows.begin.Goals as goal

pub rank_words-requires-clause-each_valid : goal.rank_words-requires-clause-each_valid
rank_words-requires-clause-each_valid c = each-valid c.requires.held
