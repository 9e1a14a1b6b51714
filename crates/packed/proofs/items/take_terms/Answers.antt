use mathlib.Core.Path.{sym, ◌∙◌, ap}
use Prim.Native.Nat.{ℕ, ◌+◌}
use borrow.Author.Rules.{rules}
use borrow.Author.Tests.{not-true, not-false}
use Rattle.std.proofs.lemmas.Result.{err_from_is_err_and}
use Rattle.numbers.specs.Code.{code}
use Rattle.numbers.proofs.Items.{From, Alike.both, fault-met, came_from}
use Rattle.packed.specs.ReadSum.{read_coefficient, read_exponents}
use Rattle.packed.specs.Inside.Arrays.{word_for}
use Rattle.packed.proofs.ReadItems.{number_is, size_is}
use Rattle.packed.proofs.TakeTerms.{start, first_stops, rest-stops, valid, disorder, again, ended, refuses}
use Rattle.packed.proofs.items.take_terms.Goals as goal
use Rattle.packed.proofs.items.take_terms.Goals.{In_ok-c, In_ok-w}

-- the coefficient and the pattern that were read
first_of : (d : In_ok-c)
    → From code (read_coefficient d.loop-k.weight d.args.bytes.now d.loop-k.place) d.in_ok-c.c d.in_ok-c.next
first_of d = came_from code _ _ _ (sym d.in_ok-c.ensures)

rest_of : (e : In_ok-w)
    → From word_for (read_exponents e.args.powers 0 e.args.bytes.now e.in_ok-c.next) e.in_ok-w.w e.in_ok-w.end
rest_of e = came_from word_for _ _ _ (sym e.in_ok-w.ensures)

pub loop-k-init : goal.loop-k-init
loop-k-init c = start _ _ _ _ _ _ c.requires.powers_le_variables c.requires.count_in_bounds c.requires.count_in_bounds_2

pub returns-in_err-c-clause-result_value : goal.returns-in_err-c-clause-result_value
returns-in_err-c-clause-result_value c =
    let p = err_from_is_err_and c.from_residual.result c.from_residual.ensures.1 in
    rw (p.1, p.2) (first_stops c.loop-k.invariant c.loop-k-test.true (fault-met _ code _ c.in_err-c.ensures))

pub returns-in_err-c-clause-holds : goal.returns-in_err-c-clause-holds
returns-in_err-c-clause-holds c =
    let stop = fault-met _ code _ c.in_err-c.ensures in
    (refuses c.loop-k.invariant stop (first_stops c.loop-k.invariant c.loop-k-test.true stop)).1

pub returns-in_err-w-clause-result_value : goal.returns-in_err-w-clause-result_value
returns-in_err-w-clause-result_value c =
    let p = err_from_is_err_and c.from_residual-in_err-w.result c.from_residual-in_err-w.ensures.1 in
    rw (p.1, p.2) (rest-stops c.loop-k.invariant c.loop-k-test.true (first_of (goal.at.returns-in_err-w-clause-result_value c).In_ok-c) (fault-met _ word_for _ c.in_err-w.ensures))

pub returns-in_err-w-clause-holds : goal.returns-in_err-w-clause-holds
returns-in_err-w-clause-holds c =
    let stop = fault-met _ word_for _ c.in_err-w.ensures in
    (refuses c.loop-k.invariant stop (rest-stops c.loop-k.invariant c.loop-k-test.true (first_of (goal.at.returns-in_err-w-clause-holds c).In_ok-c) stop)).1

pub stands_after-requires-clause-valid_2 : goal.stands_after-requires-clause-valid_2
stands_after-requires-clause-valid_2 c = valid c.loop-k.invariant c.loop-k-test.true (first_of (goal.at.stands_after-requires-clause-valid_2 c).In_ok-c) (rest_of c)

pub returns-then-not-stands_after-clause-result_value : goal.returns-then-not-stands_after-clause-result_value
returns-then-not-stands_after-clause-result_value c =
    disorder c.loop-k.invariant c.loop-k-test.true (first_of (goal.at.returns-then-not-stands_after-clause-result_value c).In_ok-c) (rest_of (goal.at.returns-then-not-stands_after-clause-result_value c).In_ok-w) (sym c.stands_after.ensures ∙ not-true _ c.if-not-stands_after.true-raw)

pub returns-then-not-stands_after-clause-holds : goal.returns-then-not-stands_after-clause-holds
returns-then-not-stands_after-clause-holds c = (refuses c.loop-k.invariant {A = ℕ} both (disorder c.loop-k.invariant c.loop-k-test.true (first_of (goal.at.returns-then-not-stands_after-clause-holds c).In_ok-c) (rest_of (goal.at.returns-then-not-stands_after-clause-holds c).In_ok-w) (sym c.stands_after.ensures ∙ not-true _ c.if-not-stands_after.true-raw))).1

pub loop-k-preserved : goal.loop-k-preserved
loop-k-preserved c = let size = size_is c.in_ok-c.c (search rules) c.decode-coefficient.ensures c.absolute-weight.ensures in
    let value = number_is c.in_ok-c.c (search rules) c.decode-coefficient.ensures in
    let goes_on = sym c.stands_after.ensures ∙ not-false _ c.if-not-stands_after.false-raw in
    again c.loop-k.invariant c.loop-k-test.true (first_of (goal.at.loop-k-preserved c).In_ok-c) (rest_of (goal.at.loop-k-preserved c).In_ok-w) goes_on value (ap (λ (n : ℕ). c.loop-k.weight + n) size)

pub returns-clause-result_value : goal.returns-clause-result_value
returns-clause-result_value c = (ended c.loop-k.invariant c.loop-k-test.false).0

pub returns-clause-holds : goal.returns-clause-holds
returns-clause-holds c = (ended c.loop-k.invariant c.loop-k-test.false).1
