-- `add_row` meets its contract: the running sum and the row's factor are ranked, the row is merged by ranks, and what they give is put back by words.
use mathlib.Core.Path.{◌≡◌, ap, subst}
use mathlib.Core.List.{map}
use Prim.Native.Nat.{◌+◌, ◌≤◌}
use native.Mathlib.Omega.{arith}
use lib.IntN.{pos}
use lib.ListN.{length, take, length-take, replicate}
use mir.Syntax.{w64}
use mir.ValLaws.{to_z-of_z}
use Rattle.algebra.specs.Limits.{most_terms}
use Rattle.algebra.specs.Sum.{Sum}
use Rattle.algebra.specs.Inside.Rank.{rank_of, word_at, words_at}
use Rattle.answers.specs.Areas.{written}
use Rattle.sums.specs.Rows.{CanMerge, joined, Stands}
use Rattle.sums.proofs.Holding.{each-valid}
use Rattle.sums.proofs.AddRow.{joined-many, ranks-merge, ranks-joined, put_back}
use Rattle.sums.proofs.rows.add_row.Goals as goal
use Rattle.sums.proofs.rows.add_row.Goals.{After-merge_row-all, After-rank-rank}

-- the running sum's ranks and coefficients, in arrays
ranked : (d : After-rank-rank) → d.begin.new.ranks ≡ written (map rank_of (take d.args.n d.args.patterns.now)) (replicate (most_terms + most_terms) 0)
ranked d = rw d.first.ensures.patterns at d.begin.ensures.ranks_after

copied : (d : After-rank-rank) → d.begin.new.coefficients ≡ written (take d.args.n d.args.coefficients.now) (replicate (most_terms + most_terms) (pos 0))
copied d = rw d.first.ensures.coefficients at d.begin.ensures.coefficients_after

by-ranks : (d : After-rank-rank)
    → CanMerge (words_at d.begin.new.ranks) d.begin.new.coefficients d.args.n (word_at d.rank-rank.result) d.args.c
    (words_at (take (length d.args.t.patterns.now) d.rank_words.new.ranks)) d.args.t.coefficients.now
by-ranks d =
    ranks-merge d.requires (replicate (most_terms + most_terms) 0) (ranked d) (replicate (most_terms + most_terms) (pos 0)) (copied d) (replicate most_terms 0) d.rank_words.ensures
    d.rank-rank.ensures (omega (arith, d.begin.auto.ranks)) (omega (arith, d.begin.auto.coefficients))

-- the merged row stands in the arrays
stood : (d : After-merge_row-all)
    → Stands (joined d.args.c d.args.word d.args.t.patterns.now d.args.t.coefficients.now d.args.n d.args.patterns.now d.args.coefficients.now) d.merge_row-all.result (words_at d.merge_row-all.new.ranks) d.merge_row-all.new.coefficients
stood d =
    subst (λ (l : Sum). Stands l d.merge_row-all.result (words_at d.merge_row-all.new.ranks) d.merge_row-all.new.coefficients)
    (ranks-joined d.requires (replicate (most_terms + most_terms) 0) (rw d.first.ensures.patterns at d.begin.ensures.ranks_after) (replicate (most_terms + most_terms) (pos 0)) (rw d.first.ensures.coefficients at d.begin.ensures.coefficients_after) (replicate most_terms 0)
    d.rank_words.ensures d.rank-rank.ensures)
    (rw (to_z-of_z w64 d.args.c d.ranges.c) at d.merge_row-all.ensures)

-- no more terms than the two have
few : (d : After-merge_row-all) → d.merge_row-all.result ≤ d.args.n + length d.args.t.patterns.now
few d = omega (arith, (stood d).number_is, joined-many d.requires)

pub begin-requires-clause-held : goal.begin-requires-clause-held
begin-requires-clause-held c = rw (c.first.ensures.patterns, c.first.ensures.coefficients) c.requires.running

pub rank_words-requires-clause-each_valid : goal.rank_words-requires-clause-each_valid
rank_words-requires-clause-each_valid c = each-valid c.requires.factor

pub merge_row-all-requires : goal.merge_row-all-requires
merge_row-all-requires c = rw (to_z-of_z w64 c.args.c c.ranges.c) (by-ranks (goal.at.merge_row-all-requires c).After-rank-rank)

pub put_back-requires-clause-patterns_bound : goal.put_back-requires-clause-patterns_bound
put_back-requires-clause-patterns_bound c =
    omega (arith, few (goal.at.put_back-requires-clause-patterns_bound c).After-merge_row-all, length-take c.merge_row-all.result c.merge_row-all.new.ranks, ap length c.first-2.ensures.patterns)

pub put_back-requires-clause-coefficients_bound : goal.put_back-requires-clause-coefficients_bound
put_back-requires-clause-coefficients_bound c =
    omega (arith, few (goal.at.put_back-requires-clause-coefficients_bound c).After-merge_row-all, length-take c.merge_row-all.result c.merge_row-all.new.coefficients, ap length c.first-2.ensures.coefficients)

pub returns : goal.returns
returns c =
    put_back c.requires c.merge_row-all.new.ranks (stood (goal.at.returns c).After-merge_row-all) (rw c.first-2.ensures.patterns at c.put_back.ensures.patterns_after) (rw c.first-2.ensures.coefficients at c.put_back.ensures.coefficients_after)
