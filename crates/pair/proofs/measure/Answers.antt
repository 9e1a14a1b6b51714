use mathlib.Core.Path.{◌≡◌}
use Prim.Native.Nat.{ℕ, ◌+◌, ◌*◌, ◌-◌, max, ◌≤◌, ◌<◌}
use native.Mathlib.Omega.{arith}
use lib.IntN.{ℤ, pos, nat_abs}
use lib.ListN.{length, get_or, length-append}
use Rattle.std.proofs.Common.{rules}
use Rattle.std.proofs.lemmas.Slice.Zip.{zip_turn}
use Rattle.algebra.specs.Limits.{largest_degree}
use Rattle.sums.proofs.Holding.{each-valid}
use Rattle.weights.specs.Capped.{capped}
use Rattle.pair.proofs.Measuring.{start, fits, again}
use Rattle.pair.proofs.measure.Goals as goal
use Rattle.pair.proofs.measure.Goals.{In-Some, After-degree}

-- the next term stands behind those so far
turn : (d : In-Some) → (length d.loop-word.yielded < length d.args.into.patterns.now) × (length d.loop-word.yielded < length d.args.into.coefficients.now)
    × ((z : ℕ) → d.in-Some.word.now ≡ get_or d.args.into.patterns.now (length d.loop-word.yielded) z) × ((z : ℤ) → d.in-Some.c.now ≡ get_or d.args.into.coefficients.now (length d.loop-word.yielded) z)
turn d =
    zip_turn d.args.into.patterns.now d.args.into.coefficients.now d.loop-word.yielded d.into_iter-word-iterator.result d.loop-word.word-iterator d.next.new.self d.next.result
    (search rules) (search rules) d.loop-word.yielded_by (d.in-Some.word, d.in-Some.c) d.in-Some.is d.next.ensures.steps

pub loop-word-init : goal.loop-word-init
loop-word-init c = start _ c.requires.put c.size_of-size.ensures c.requires.into.held

pub degree-requires : goal.degree-requires
degree-requires c =
    let at = turn (goal.at.degree-requires c).In-Some in
    rw (at.2 0) (each-valid c.loop-word.invariant.held (length c.loop-word.yielded) at.0)

-- the degree and the power of the next term stay small
small : (d : After-degree) → length d.loop-word.yielded < length d.args.into.patterns.now → d.in-Some.word.now ≡ get_or d.args.into.patterns.now (length d.loop-word.yielded) 0
    → (d.exponent-e.result ≤ d.degree.result) × (d.degree.result ≤ largest_degree) × (d.exponent-e.result * d.size_of-size.result.degree ≤ largest_degree * largest_degree)
small d h is = fits d.loop-word.invariant h (rw is at d.exponent-e.ensures) (rw is at d.degree.ensures)

pub overflow_sub-degree : goal.overflow_sub-degree
overflow_sub-degree c = let at = turn (goal.at.overflow_sub-degree c).In-Some in (small (goal.at.overflow_sub-degree c).After-degree at.0 (at.2 0)).0

pub overflow_mul-e : goal.overflow_mul-e
overflow_mul-e c = let at = turn (goal.at.overflow_mul-e c).In-Some in record { fits = omega (arith, small (goal.at.overflow_mul-e c).After-degree at.0 (at.2 0)) }

pub overflow_add-degree : goal.overflow_add-degree
overflow_add-degree c = let at = turn (goal.at.overflow_add-degree c).In-Some in record { fits = omega (arith, small (goal.at.overflow_add-degree c).After-degree at.0 (at.2 0)) }

pub loop-word-preserved : goal.loop-word-preserved
loop-word-preserved c =
    let at = turn (goal.at.loop-word-preserved c).In-Some in
    let size : c.unsigned_abs.result ≡ nat_abs c.in-Some.c.now = search rules in
    let larger : c.max-degree.result ≡ max c.loop-word.degree (c.degree.result - c.exponent-e.result + c.exponent-e.result * c.size_of-size.result.degree) = search rules in
    let most : c.max-power.result ≡ max c.loop-word.power c.exponent-e.result = search rules in
    let whole : c.product-term.result ≡ capped (nat_abs (get_or c.args.into.coefficients.now (length c.loop-word.yielded) (pos 0)) * c.power.result) = rw (size, at.3 (pos 0)) at c.product-term.ensures in
    rw (length-append c.loop-word.yielded _)
    (again c.loop-word.invariant at.0 (rw (at.2 0) at c.exponent-e.ensures) (rw (at.2 0) at c.degree.ensures)
    larger c.power.ensures whole c.sum-weight.ensures most)
