use mathlib.Core.Path.{sym, ◌∙◌}
use Rattle.algebra.proofs.Patterns.Rank.{words-at}
use Rattle.answers.proofs.Copies.{again}
use Rattle.sums.proofs.rows.unrank.Goals as goal

pub loop-k-preserved : goal.loop-k-preserved
loop-k-preserved c = rw (c.of_rank.ensures ∙ sym (words-at c.args.ranks.now c.loop-k.k)) (again 0 _ _ _ _ _ c.loop-k.invariant c.loop-k-test.true)
