-- `rank_words` meets its contract: the ranks are copied.
use mathlib.Core.List.{map}
use lib.ListN.{length}
use Rattle.algebra.specs.Word.{EachValid}
use Rattle.algebra.specs.Inside.Rank.{rank_of}
use Rattle.answers.proofs.Copies.{Copying}
use Rattle.sums.proofs.rows.rank_words.Given as goal

abbrev pub invariant-loop-k : goal.invariant-loop-k
invariant-loop-k l = Copying l.initial.ranks (map rank_of l.words) (length l.words) l.ranks l.k × EachValid l.words
