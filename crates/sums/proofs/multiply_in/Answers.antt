-- `multiply_in` meets its contract: all pairs are added to nothing, by ranks, and what has cancelled is dropped.
use mathlib.Core.Path.{◌∙◌, ap}
use lib.ListN.{length, take}
use Rattle.algebra.specs.Collect.{gather}
use Rattle.algebra.specs.Arithmetic.{pairs}
use Rattle.algebra.specs.Word.{terms}
use Rattle.algebra.specs.Inside.Rank.{word_at, words_at}
use Rattle.sums.specs.Formed.{formed_into}
use Rattle.sums.proofs.Holding.{map-take, each-valid}
use Rattle.sums.proofs.Fronts.{Placed, placed-held}
use Rattle.sums.proofs.Ranking.{ranked-held}
use Rattle.sums.proofs.Multiplying.{can-add, stops, multiplied, ended}
use Rattle.sums.proofs.multiply_in.Goals as goal
use Rattle.sums.proofs.multiply_in.Goals.{In_ok-all}

-- the product, with what has cancelled, stands in the two arrays of the running sum
placed : (d : In_ok-all)
    → Placed (gather (pairs (terms d.args.s.patterns.now d.args.s.coefficients.now) (terms d.args.t.patterns.now d.args.t.coefficients.now))) d.in_ok-all.all (words_at d.add_pairs.new.ranks) d.add_pairs.new.coefficients
placed d =
    multiplied d.requires.factors (take (length d.args.s.patterns.now) d.rank_words.new.ranks) (take (length d.args.t.patterns.now) d.rank_words-2.new.ranks) (ranked-held d.requires.factors.first d.args.sr.now d.rank_words.ensures) (ranked-held d.requires.factors.second d.args.tr.now d.rank_words-2.ensures) d.args.gr.now d.args.gc.now d.add_pairs.result d.add_pairs.new.ranks d.add_pairs.ensures d.in_ok-all.was

pub rank_words-requires-clause-each_valid : goal.rank_words-requires-clause-each_valid
rank_words-requires-clause-each_valid c = each-valid c.requires.factors.first

pub rank_words-requires-2-clause-each_valid : goal.rank_words-requires-2-clause-each_valid
rank_words-requires-2-clause-each_valid c = each-valid c.requires.factors.second

pub add_pairs-requires : goal.add_pairs-requires
add_pairs-requires c = can-add c.requires.factors (take (length c.args.s.patterns.now) c.rank_words.new.ranks) (take (length c.args.t.patterns.now) c.rank_words-2.new.ranks) (ranked-held c.requires.factors.first c.args.sr.now c.rank_words.ensures) (ranked-held c.requires.factors.second c.args.tr.now c.rank_words-2.ensures) c.args.gr.now c.args.gc.now c.requires.room_for c.requires.room_for_2

pub returns-in_err-all : goal.returns-in_err-all
returns-in_err-all c = rw c.from_residual.ensures (stops c.requires.factors (take (length c.args.s.patterns.now) c.rank_words.new.ranks) (take (length c.args.t.patterns.now) c.rank_words-2.new.ranks) (ranked-held c.requires.factors.first c.args.sr.now c.rank_words.ensures) (ranked-held c.requires.factors.second c.args.tr.now c.rank_words-2.ensures) c.args.gr.now c.args.gc.now c.add_pairs.result c.add_pairs.new.ranks c.add_pairs.ensures c.in_err-all.was _ _)

pub finish-requires-clause-held : goal.finish-requires-clause-held
finish-requires-clause-held c = rw (c.first.ensures.patterns, c.first.ensures.coefficients, map-take word_at c.in_ok-all.all c.add_pairs.new.ranks) (placed-held (placed (goal.at.finish-requires-clause-held c).In_ok-all))

pub returns : goal.returns
returns c = (rw (c.first.ensures.patterns, c.first.ensures.coefficients, map-take word_at c.in_ok-all.all c.add_pairs.new.ranks) at c.finish.ensures)
    ∙ ap (λ x. formed_into x c.args.patterns.now c.args.coefficients.now) (ended (terms c.args.s.patterns.now c.args.s.coefficients.now) (terms c.args.t.patterns.now c.args.t.coefficients.now) (placed (goal.at.returns c).In_ok-all))
