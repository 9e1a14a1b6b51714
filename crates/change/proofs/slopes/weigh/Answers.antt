use mathlib.Core.Path.{◌≡◌}
use Prim.Native.Nat.{ℕ, ◌<◌}
use native.Mathlib.Omega.{arith}
use lib.IntN.{ℤ, pos, nat_abs}
use lib.ListN.{length, get_or, length-append}
use Rattle.std.proofs.Common.{rules}
use Rattle.std.proofs.lemmas.Slice.Zip.{zip_turn, zip_end}
use Rattle.sums.proofs.Holding.{as_many}
use Rattle.change.proofs.Sloping.{weigh-start, weigh-again, weigh-ended}
use Rattle.change.proofs.slopes.weigh.Goals as goal
use Rattle.change.proofs.slopes.weigh.Goals.{In-Some}

-- the next term stands behind those so far
turn : (d : In-Some) → (length d.loop-word.yielded < length d.args.s.patterns.now) × (length d.loop-word.yielded < length d.args.s.coefficients.now)
    × ((z : ℕ) → d.in-Some.word.now ≡ get_or d.args.s.patterns.now (length d.loop-word.yielded) z) × ((z : ℤ) → d.in-Some.c.now ≡ get_or d.args.s.coefficients.now (length d.loop-word.yielded) z)
turn d =
    zip_turn d.args.s.patterns.now d.args.s.coefficients.now d.loop-word.yielded d.into_iter-word-iterator.result d.loop-word.word-iterator d.next.new.self d.next.result
    (search rules) (search rules) d.loop-word.yielded_by (d.in-Some.word, d.in-Some.c) d.in-Some.is d.next.ensures.steps

pub loop-word-init : goal.loop-word-init
loop-word-init c = weigh-start _ _ _ c.requires.held_sum

pub loop-word-preserved : goal.loop-word-preserved
loop-word-preserved c =
    let at = turn (goal.at.loop-word-preserved c).In-Some in
    let size : c.unsigned_abs.result ≡ nat_abs c.in-Some.c.now = search rules in
    rw (length-append c.loop-word.yielded _)
    (weigh-again c.loop-word.invariant _ _ _ _ at.0 (rw (at.3 (pos 0)) at size) (rw (at.2 0) at c.exponent-power.ensures)
    c.product.ensures c.sum-weight.ensures)

pub returns : goal.returns
returns c =
    let end =
    zip_end c.args.s.patterns.now c.args.s.coefficients.now c.loop-word.yielded c.into_iter-word-iterator.result c.loop-word.word-iterator c.next.new.self c.next.result
    (search rules) (search rules) c.loop-word.yielded_by c.in-None.is c.next.ensures.steps in
    weigh-ended c.loop-word.invariant (omega (arith, end, as_many c.requires.held_sum.held))
