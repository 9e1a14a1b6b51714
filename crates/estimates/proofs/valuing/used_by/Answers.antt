use native.Mathlib.Nat.{le_trans}
use borrow.Author.Count.{below_more}
use lib.ListN.{get_or}
use Rattle.algebra.proofs.Patterns.Either.{either_first, either_second}
use Rattle.estimates.proofs.valuing.used_by.Goals as goal

pub loop-word-preserved : goal.loop-word-preserved
loop-word-preserved c =
    let i = c.loop-word.word-index in
    let w = get_or c.args.patterns.now i 0 in
    rw c.either-used.ensures (below_more _ i (λ j h v. le_trans (c.loop-word.invariant j h v) (either_first c.loop-word.used.0 w v)) (either_second c.loop-word.used.0 w))
