use mathlib.Core.Path.{sym, ◌∙◌}
use Rattle.algebra.specs.Inside.Rank.{rank_of}
use Rattle.answers.proofs.Copies.{again}
use Rattle.sums.proofs.Holding.{map_at}
use Rattle.sums.proofs.rows.rank_words.Goals as goal

pub loop-k-preserved : goal.loop-k-preserved
loop-k-preserved c = (rw (c.rank.ensures ∙ sym (map_at rank_of c.args.words.now c.loop-k.k 0 0 c.loop-k-test.true)) (again 0 _ _ _ _ _ c.loop-k.invariant.0 c.loop-k-test.true), c.loop-k.invariant.1)
