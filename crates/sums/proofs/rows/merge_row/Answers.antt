-- `merge_row` meets its contract: the row is merged, and the gap that the merge leaves is closed.
use Prim.Native.Nat.{◌+◌, ◌≤◌}
use native.Mathlib.Omega.{arith}
use lib.ListN.{length, length-map}
use mir.Syntax.{w64}
use mir.ValLaws.{to_z-of_z}
use Rattle.algebra.specs.Inside.Rank.{word_at}
use Rattle.sums.proofs.Closing.{gap-closed}
use Rattle.sums.proofs.Ranking.{words-closed}
use Rattle.sums.proofs.rows.merge_row.Goals as goal
use Rattle.sums.proofs.rows.merge_row.Goals.{After-merge-gap}

-- both areas have room for the row
room : (d : After-merge-gap)
    → (d.args.n + length d.args.t.patterns.now ≤ length d.merge-gap.new.ranks) × (d.args.n + length d.args.t.patterns.now ≤ length d.merge-gap.new.coefficients)
room d =
    let row = length-map d.args.t.patterns.now word_at in
    (omega (arith, d.requires.words_room, row, length-map d.args.ranks.now word_at, d.merge-gap.auto.ranks), omega (arith, d.requires.coefficients_room, row, d.merge-gap.auto.coefficients))

pub returns : goal.returns
returns c = let end = c.args.n + length c.args.t.patterns.now in
    gap-closed (rw (to_z-of_z w64 c.args.c c.ranges.c) at c.merge-gap.ensures) (omega (arith, (room (goal.at.returns c).After-merge-gap).0, length-map (c.merge-gap.new.ranks) word_at)) c.close.ensures.value
    (words-closed c.merge-gap.result.from c.merge-gap.result.to end c.merge-gap.new.ranks c.close.result c.close.new.ranks c.close.ensures.ranks_after) c.close.ensures.coefficients_after
