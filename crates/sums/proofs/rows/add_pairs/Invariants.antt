-- `add_pairs` meets its contract: the loop keeps `Pairing`, of the words.
use lib.ListN.{length}
use Rattle.algebra.specs.Inside.Rank.{words_at}
use Rattle.sums.proofs.Walking.{Left}
use Rattle.sums.proofs.Pairing.{Pairing}
use Rattle.sums.proofs.rows.add_pairs.Given as goal

abbrev pub invariant-loop-rank : goal.invariant-loop-rank
invariant-loop-rank l = Pairing (words_at l.initial.ranks) l.initial.coefficients l.n (words_at l.s.patterns.now) l.s.coefficients.now (words_at l.t.patterns.now) l.t.coefficients.now (words_at l.ranks) l.coefficients l.all (length l.yielded)
    × Left l.s.patterns.now (length l.yielded) l.rank-iterator.a.rest.now × Left l.s.coefficients.now (length l.yielded) l.rank-iterator.b.rest.now
