use mathlib.Core.Path.{refl, sym, ◌∙◌, ap}
use native.Mathlib.Omega.{arith}
use Rattle.std.proofs.lemmas.Result.{err_from_is_err_and}
use Rattle.numbers.proofs.Items.{number-fault}
use Rattle.packed.proofs.ReadItems.{start, stops, too-high, asks, again, ended}
use Rattle.packed.proofs.items.read_exponents.Goals as goal

pub loop-v-init : goal.loop-v-init
loop-v-init c = (start _ _ _ _ c.empty-pattern.ensures c.requires, refl)

pub returns-in_err-e : goal.returns-in_err-e
returns-in_err-e c =
    let p = err_from_is_err_and c.from_residual.result c.from_residual.ensures.1 in
    rw (p.1, p.2) (stops c.loop-v.invariant.0 c.loop-v-test.true (number-fault _ _ (rw c.loop-v.invariant.1 at c.in_err-e.ensures.item)))

pub returns-then-e-degree : goal.returns-then-e-degree
returns-then-e-degree c = too-high c.loop-v.invariant.0 c.loop-v-test.true (sym (rw c.loop-v.invariant.1 at c.in_ok-e.ensures.item)) (omega (arith, c.if-e-degree.true))

pub product-pattern-requires-clause-valid : goal.product-pattern-requires-clause-valid
product-pattern-requires-clause-valid c = (asks c.loop-v.invariant.0 c.loop-v-test.true (sym (rw c.loop-v.invariant.1 at c.in_ok-e.ensures.item)) (omega (arith, c.if-e-degree.false, c.loop-v.invariant.0.low)) c.power.ensures).0

pub product-pattern-requires-clause-valid_2 : goal.product-pattern-requires-clause-valid_2
product-pattern-requires-clause-valid_2 c = (asks c.loop-v.invariant.0 c.loop-v-test.true (sym (rw c.loop-v.invariant.1 at c.in_ok-e.ensures.item)) (omega (arith, c.if-e-degree.false, c.loop-v.invariant.0.low)) c.power.ensures).1.0

pub product-pattern-requires-clause-other_bound : goal.product-pattern-requires-clause-other_bound
product-pattern-requires-clause-other_bound c = (asks c.loop-v.invariant.0 c.loop-v-test.true (sym (rw c.loop-v.invariant.1 at c.in_ok-e.ensures.item)) (omega (arith, c.if-e-degree.false, c.loop-v.invariant.0.low)) c.power.ensures).1.1

pub loop-v-preserved : goal.loop-v-preserved
loop-v-preserved c =
    (again c.loop-v.invariant.0 c.loop-v-test.true (sym (rw c.loop-v.invariant.1 at c.in_ok-e.ensures.item)) (omega (arith, c.if-e-degree.false, c.loop-v.invariant.0.low)) c.power.ensures c.product-pattern.ensures, ap (λ b. b.now) c.item.ensures.bytes ∙ c.loop-v.invariant.1)

pub returns : goal.returns
returns c = ended c.loop-v.invariant.0 c.loop-v-test.false
