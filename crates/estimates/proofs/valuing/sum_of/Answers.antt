use mathlib.Core.Path.{◌≡◌}
use Prim.Native.Nat.{ℕ, ◌<◌}
use lib.IntN.{ℤ, pos}
use mir.Syntax.{w64}
use mir.Val.{of_z, to_z}
use lib.ListN.{length, get_or, length-append}
use native.Mathlib.Omega.{arith}
use Rattle.std.proofs.Common.{rules}
use Rattle.std.proofs.lemmas.Slice.Zip.{zip_turn, zip_end}
use Rattle.estimates.proofs.SumParts.{nothing-allowed, still, start, again, beyond, ended}
use Rattle.estimates.proofs.TermParts.{alone}
use Rattle.estimates.proofs.valuing.sum_of.Given.{Over}
use Rattle.estimates.proofs.valuing.sum_of.Goals as goal
use Rattle.estimates.proofs.valuing.sum_of.Goals.{In-Some}

-- the next term stands behind those so far
turn : (g : Over) (d : In-Some g) → (length d.loop-pattern.yielded < length d.args.sum.patterns.now) × (length d.loop-pattern.yielded < length d.args.sum.coefficients.now)
    × ((z : ℕ) → d.in-Some.pattern.now ≡ get_or d.args.sum.patterns.now (length d.loop-pattern.yielded) z)
    × ((z : ℤ) → d.in-Some.c.now ≡ get_or d.args.sum.coefficients.now (length d.loop-pattern.yielded) z)
turn g d =
    zip_turn d.args.sum.patterns.now d.args.sum.coefficients.now d.loop-pattern.yielded d.into_iter-pattern-iterator.result d.loop-pattern.pattern-iterator d.next.new.self d.next.result
    (search rules) (search rules) d.loop-pattern.yielded_by (d.in-Some.pattern, d.in-Some.c) d.in-Some.is d.next.ensures.steps

pub loop-pattern-init : goal.loop-pattern-init
loop-pattern-init g c = (nothing-allowed, λ x y m. start c.requires.coefficients_len)

pub returns-then-parts-gt-LARGEST_WEIGHT : goal.returns-then-parts-gt-LARGEST_WEIGHT
returns-then-parts-gt-LARGEST_WEIGHT g c = λ x y m.
    let at = turn g (goal.at.returns-then-parts-gt-LARGEST_WEIGHT g c).In-Some in
    let here = c.term.ensures x y (alone m (length c.loop-pattern.yielded) at.0 (at.2 0) (λ a r v e p. p.1)) in
    let read : to_z w64 (of_z w64 c.in-Some.c.now) ≡ c.in-Some.c.now = search rules in
    beyond (c.loop-pattern.invariant.1 x y m) at.0 c.term.result (rw (read, at.2 0, at.3 (pos 0)) at here) c.with-parts.ensures c.if-parts-gt-LARGEST_WEIGHT.true

pub loop-pattern-preserved : goal.loop-pattern-preserved
loop-pattern-preserved g c =
    let at = turn g (goal.at.loop-pattern-preserved g c).In-Some in
    let read : to_z w64 (of_z w64 c.in-Some.c.now) ≡ c.in-Some.c.now = search rules in (
      still c.loop-pattern.parts c.loop-pattern.invariant.0 c.term.result c.with-parts.ensures c.if-parts-gt-LARGEST_WEIGHT.false,
      λ x y m.
          let here = c.term.ensures x y (alone m (length c.loop-pattern.yielded) at.0 (at.2 0) (λ a r v e p. p.1)) in
          rw (length-append c.loop-pattern.yielded _)
          (again (c.loop-pattern.invariant.1 x y m) at.0 c.term.result (rw (read, at.2 0, at.3 (pos 0)) at here) c.with-parts.ensures c.if-parts-gt-LARGEST_WEIGHT.false),
    )

pub returns : goal.returns
returns g c = λ x y m.
    let all = zip_end c.args.sum.patterns.now c.args.sum.coefficients.now c.loop-pattern.yielded c.into_iter-pattern-iterator.result c.loop-pattern.pattern-iterator c.next.new.self c.next.result
    (search rules) (search rules) c.loop-pattern.yielded_by c.in-None.is c.next.ensures.steps in
    ended (c.loop-pattern.invariant.1 x y m) (omega (arith, all, c.requires.coefficients_len))
