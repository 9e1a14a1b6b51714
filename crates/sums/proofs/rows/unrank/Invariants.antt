-- `unrank` meets its contract: the words are copied.
use lib.ListN.{length}
use Rattle.algebra.specs.Inside.Rank.{words_at}
use Rattle.answers.proofs.Copies.{Copying}
use Rattle.sums.proofs.rows.unrank.Given as goal

abbrev pub invariant-loop-k : goal.invariant-loop-k
invariant-loop-k l = Copying l.initial.words (words_at l.ranks) (length l.ranks) l.words l.k
