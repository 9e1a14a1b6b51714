use mathlib.Core.Path.{refl, sym, ◌∙◌, ap}
use Prim.Native.Nat.{◌+◌}
use native.Mathlib.Omega.{arith}
use Rattle.algebra.specs.Word.{terms}
use Rattle.sums.specs.Formed.{formed_into}
use Rattle.sums.specs.Rows.{running_words}
use Rattle.sums.proofs.Fronts.{Placed, placed-held, front-few}
use Rattle.sums.proofs.RunningWords.{running-many, running-take, begun}
use Rattle.pair.specs.Rows.{part_at}
use Rattle.pair.proofs.TakingPart.{part_placed}
use Rattle.pair.proofs.Replacing.{Joining, start, can-add, rows-stop, joins, can-raise, power-stop, raises, ended}
use Rattle.pair.proofs.putting.put.Goals as goal
use Rattle.pair.proofs.putting.put.Goals.{After-take_part-all, In-Some}

-- the terms without the variable stand in the two arrays that are lent for them
taken : (d : After-take_part-all)
    → Placed (part_at d.args.v 0 (terms d.args.into.patterns.now d.args.into.coefficients.now)) d.take_part-all.result d.take_part-all.new.patterns d.take_part-all.new.coefficients
taken d = part_placed _ _ d.requires.can_put.known d.requires.can_put.into.held d.take_part-all.ensures

next-rows : (d : In-Some)
    → Joining d.args.v d.args.largest d.args.put.patterns.now d.args.put.coefficients.now d.args.into.patterns.now d.args.into.coefficients.now (running_words d.loop-k.gr) d.loop-k.gc d.raise.new.wp d.raise.new.wc d.in-Some.count d.loop-k.all (d.loop-k.k + 1)
next-rows d =
    raises d.loop-k.invariant.0 d.loop-k-test.true d.raise.result d.raise.ensures d.in-Some.is d.raise.auto.wp d.raise.auto.wc

pub begin-requires-clause-held : goal.begin-requires-clause-held
begin-requires-clause-held c = rw (c.first.ensures.patterns, c.first.ensures.coefficients) (placed-held (taken (goal.at.begin-requires-clause-held c).After-take_part-all))

pub loop-k-init : goal.loop-k-init
loop-k-init c =
    let part = begun (taken (goal.at.loop-k-init c).After-take_part-all) refl _ _ (rw c.first.ensures.patterns at c.begin.ensures.ranks_after) (rw c.first.ensures.coefficients at c.begin.ensures.coefficients_after) in (
      start _ _ c.requires.can_put c.requires.allowed c.requires.largest_value part.stands (sym (running-many c.begin.new.ranks ∙ c.begin.auto.ranks)) (sym c.begin.auto.coefficients) c.integer-n.ensures (sym c.integer-n.auto.patterns) (sym c.integer-n.auto.coefficients),
      record { running = sym c.begin.auto.ranks; part_words = sym c.take_part-all.auto.patterns; part_coefficients = sym c.take_part-all.auto.coefficients },
    )

pub raise-requires-clause-factors : goal.raise-requires-clause-factors
raise-requires-clause-factors c = can-raise c.loop-k.invariant.0 c.loop-k-test.true

pub returns-in_default : goal.returns-in_default
returns-in_default c = power-stop c.loop-k.invariant.0 c.loop-k-test.true c.raise.result c.raise.ensures c.in_default.is _ _

pub first-power-requires-clause-in_patterns : goal.first-power-requires-clause-in_patterns
first-power-requires-clause-in_patterns c = let f = (next-rows (goal.at.first-power-requires-clause-in_patterns c).In-Some).raised in omega (arith, front-few f, f.words_room)

pub first-power-requires-clause-in_coefficients : goal.first-power-requires-clause-in_coefficients
first-power-requires-clause-in_coefficients c = let f = (next-rows (goal.at.first-power-requires-clause-in_coefficients c).In-Some).raised in omega (arith, front-few f, f.coefficients_room)

pub add_rows-requires-clause-can_add_rows : goal.add_rows-requires-clause-can_add_rows
add_rows-requires-clause-can_add_rows c = rw (c.first-power.ensures.patterns, c.first-power.ensures.coefficients) (can-add (next-rows (goal.at.add_rows-requires-clause-can_add_rows c).In-Some))

pub returns-in_err-all : goal.returns-in_err-all
returns-in_err-all c =
    rw c.from_residual.ensures
    (rows-stop (next-rows (goal.at.returns-in_err-all c).In-Some) c.add_rows.result (rw (c.first-power.ensures.patterns, c.first-power.ensures.coefficients) at c.add_rows.ensures) c.in_err-all.was _ _)

pub loop-k-preserved : goal.loop-k-preserved
loop-k-preserved c =
    let same = running-many c.add_rows.new.gr ∙ c.add_rows.auto.gr ∙ sym (running-many c.loop-k.gr) in
    let told = rw (c.first-power.ensures.patterns, c.first-power.ensures.coefficients) at c.add_rows.ensures in (
      joins (next-rows (goal.at.loop-k-preserved c).In-Some) c.add_rows.result told c.in_ok-all.was same c.add_rows.auto.gc,
      record {
        running = omega (arith, c.loop-k.invariant.1.running, c.add_rows.auto.gr);
        part_words = omega (arith, c.loop-k.invariant.1.part_words, c.raise.auto.patterns, c.add_rows.auto.pp);
        part_coefficients = omega (arith, c.loop-k.invariant.1.part_coefficients, c.raise.auto.coefficients, c.add_rows.auto.pc);
      },
    )

pub finish-requires-clause-held : goal.finish-requires-clause-held
finish-requires-clause-held c = rw (c.first-2.ensures.patterns, c.first-2.ensures.coefficients, running-take c.loop-k.all c.loop-k.gr) (placed-held c.loop-k.invariant.0.so_far)

pub returns : goal.returns
returns c = (rw (c.first-2.ensures.patterns, c.first-2.ensures.coefficients, running-take c.loop-k.all c.loop-k.gr) at c.finish.ensures)
    ∙ ap (λ x. formed_into x c.args.patterns.now c.args.coefficients.now) (ended c.loop-k.invariant.0 c.loop-k-test.false)
