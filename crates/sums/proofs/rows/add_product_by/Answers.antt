-- `add_product_by` meets its contract: the operands are ranked, and their pairs added in as many places as are needed.
use lib.ListN.{length, take, replicate}
use Rattle.sums.proofs.Holding.{each-valid}
use Rattle.sums.proofs.Ranking.{ranked-held}
use Rattle.sums.proofs.AddProduct.{can-lend, lent-added}
use Rattle.sums.proofs.rows.add_product_by.Goals as goal

pub rank_words-requires-clause-each_valid : goal.rank_words-requires-clause-each_valid
rank_words-requires-clause-each_valid g c = each-valid c.requires.can_add_product.first

pub rank_words-requires-2-clause-each_valid : goal.rank_words-requires-2-clause-each_valid
rank_words-requires-2-clause-each_valid g c = each-valid c.requires.can_add_product.second

pub add_cleared-requires : goal.add_cleared-requires
add_cleared-requires g c = can-lend c.requires.can_add_product (take (length c.args.s.patterns.now) c.rank_words.new.ranks) (take (length c.args.t.patterns.now) c.rank_words-2.new.ranks) (ranked-held c.requires.can_add_product.first (replicate g.row.N 0) c.rank_words.ensures) (ranked-held c.requires.can_add_product.second (replicate g.row.N 0) c.rank_words-2.ensures) c.places-end.ensures

pub returns : goal.returns
returns g c = lent-added c.requires.can_add_product (take (length c.args.s.patterns.now) c.rank_words.new.ranks) (take (length c.args.t.patterns.now) c.rank_words-2.new.ranks) (ranked-held c.requires.can_add_product.first (replicate g.row.N 0) c.rank_words.ensures) (ranked-held c.requires.can_add_product.second (replicate g.row.N 0) c.rank_words-2.ensures) c.places-end.ensures c.add_cleared.ensures c.add_cleared.auto.ranks c.add_cleared.auto.coefficients
