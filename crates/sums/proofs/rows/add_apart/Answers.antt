-- `add_apart` meets its contract: what is formed apart adds the same as one row, and is refused where all pairs are.
use Prim.Native.Nat.{ℕ, ◌+◌}
use native.Mathlib.Omega.{arith}
use lib.IntN.{pos}
use lib.ListN.{replicate, length-replicate}
use Rattle.algebra.specs.Limits.{most_terms}
use Rattle.algebra.specs.Inside.Rank.{words_at}
use Rattle.sums.proofs.AddingPairs.{Spare, Apart, can-form, formed-apart, apart-over, can-join, apart-added}
use Rattle.sums.proofs.rows.add_apart.Goals as goal
use Rattle.sums.proofs.rows.add_apart.Goals.{In_ok-together}

-- the two arrays have room
spare : Spare (replicate (most_terms + most_terms) 0) (replicate (most_terms + most_terms) (pos 0))
spare = record { ranks = omega (arith, length-replicate {A = ℕ} (most_terms + most_terms) 0); coefficients = omega (arith, length-replicate (most_terms + most_terms) (pos 0)) }

-- the pairs stand in them
stand : (d : In_ok-together)
    → Apart d.args.ranks.now d.args.coefficients.now d.args.n (words_at d.args.s.patterns.now) d.args.s.coefficients.now (words_at d.args.t.patterns.now) d.args.t.coefficients.now d.add_straight-2.new.ranks d.add_straight-2.new.coefficients d.in_ok-together.together
stand d =
    formed-apart d.args.s.patterns.now d.args.t.patterns.now d.requires spare d.add_straight-2.result d.add_straight-2.new.ranks d.add_straight-2.ensures d.in_ok-together.was

pub add_straight-requires-2 : goal.add_straight-requires-2
add_straight-requires-2 c = can-form c.args.s.patterns.now c.args.t.patterns.now c.requires spare

pub returns-in_err-together : goal.returns-in_err-together
returns-in_err-together c = rw c.from_residual.ensures (apart-over c.args.s.patterns.now c.args.t.patterns.now c.requires spare c.add_straight-2.result c.add_straight-2.new.ranks c.add_straight-2.ensures c.in_err-together.was)

pub add_straight-requires-3 : goal.add_straight-requires-3
add_straight-requires-3 c = rw (c.first.ensures.patterns, c.first.ensures.coefficients) (can-join (stand (goal.at.add_straight-requires-3 c).In_ok-together))

pub returns : goal.returns
returns c = apart-added (stand (goal.at.returns c).In_ok-together) (rw (c.first.ensures.patterns, c.first.ensures.coefficients) at c.add_straight-3.ensures)
