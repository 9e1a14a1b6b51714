use mathlib.Core.Path.{◌≡◌}
use mathlib.Core.List.{◌++◌}
use native.Mathlib.Omega.{arith}
use lib.ListN.{take, drop}
use Rattle.std.proofs.Common.{rules}
use Rattle.std.proofs.lemmas.Result.{err_from_is_err_and}
use Rattle.answers.specs.Areas.{written}
use Rattle.change.proofs.ApplyPairs.{last-place, given, stops, made-few, again, ended}
use Rattle.change.proofs.applying.apply_pairs.Goals as goal

pub overflow_add-end : goal.overflow_add-end
overflow_add-end c = record { fits = omega (arith, last-place c.loop-j.invariant c.loop-j-test.true) }

pub slice_bounds-put-end : goal.slice_bounds-put-end
slice_bounds-put-end c = omega (arith, last-place c.loop-j.invariant c.loop-j-test.true, c.loop-j.invariant.can.words_room)

pub slice_bounds-put-end-in-loop-j : goal.slice_bounds-put-end-in-loop-j
slice_bounds-put-end-in-loop-j c = omega (arith, last-place c.loop-j.invariant c.loop-j-test.true, c.loop-j.invariant.can.coefficients_room)

pub apply_pair-requires-clause-can_put : goal.apply_pair-requires-clause-can_put
apply_pair-requires-clause-can_put c = rw (c.first-into.ensures.patterns, c.first-into.ensures.coefficients) (given c.loop-j.invariant c.loop-j-test.true)

pub returns-in_err-terms : goal.returns-in_err-terms
returns-in_err-terms c =
    let p = err_from_is_err_and c.from_residual.result c.from_residual.ensures.1 in
    rw (p.1, p.2) (stops c.loop-j.invariant c.loop-j-test.true (rw (c.first-into.ensures.patterns, c.first-into.ensures.coefficients) at c.in_err-terms.ensures))

pub prove-unreachable-requires : goal.prove-unreachable-requires
prove-unreachable-requires c =
    let few = made-few c.loop-j.invariant c.loop-j-test.true (rw (c.first-into.ensures.patterns, c.first-into.ensures.coefficients) at c.in_ok-terms.ensures) in
    omega (arith, few, c.if-prove.true)

pub loop-j-preserved : goal.loop-j-preserved
loop-j-preserved c =
    let words : c.copy_from_slice.new.self ++ drop c.in_ok-terms.terms c.loop-j.fp ≡ written (take c.in_ok-terms.terms c.apply_pair.new.patterns) c.loop-j.fp = search rules in
    let coefficients : c.copy_from_slice-in-loop-j.new.self ++ drop c.in_ok-terms.terms c.loop-j.fc ≡ written (take c.in_ok-terms.terms c.apply_pair.new.coefficients) c.loop-j.fc = search rules in
    again c.loop-j.invariant c.loop-j-test.true (rw (c.first-into.ensures.patterns, c.first-into.ensures.coefficients) at c.in_ok-terms.ensures)
    words coefficients (search rules) (search rules) c.apply_pair.auto.patterns c.apply_pair.auto.coefficients

pub returns : goal.returns
returns c = ended c.loop-j.invariant c.loop-j-test.false
