use mathlib.Core.Path.{refl}
use native.Mathlib.Omega.{arith}
use mir.Syntax.{w64}
use mir.ValLaws.{to_z-of_z}
use Rattle.algebra.proofs.Patterns.Word.{exponents-length}
use Rattle.estimates.proofs.TermParts.{start, again, skipped, ended}
use Rattle.estimates.proofs.valuing.term.Goals as goal
use Rattle.estimates.proofs.valuing.term.Goals.{then-e-gt0, else-e-gt0}

pub loop-v-init : goal.loop-v-init
loop-v-init g c = λ x y m. rw (c.of-product.ensures.most, c.of-product.ensures.value) (start refl)

pub times_power-product-requires : goal.times_power-product-requires
times_power-product-requires g c = c.requires c.loop-v.product 0 c.loop-v.v c.exponent-e.result (omega arith) c.loop-v-test.true (omega (arith, c.exponent-e.ensures))

pub loop-v-preserved : goal.loop-v-preserved
loop-v-preserved g c = λ x y m.
    let long = exponents-length c.args.pattern in
    let i = c.loop-v.invariant x y m in
    elim c.if-e-gt0.branch [
      | then-e-gt0 w ↦ rw w.product-is (again i long m.readings_long m.raised_long c.loop-v-test.true c.exponent-e.ensures (m.times _ _ 0 c.loop-v.v c.exponent-e.result (omega arith) c.loop-v-test.true w.if-e-gt0.true (omega (arith, c.exponent-e.ensures)) w.times_power-product.ensures _ _ i.holds))
      | else-e-gt0 w ↦ rw w.product-is (skipped i long m.readings_long m.raised_long c.loop-v-test.true c.exponent-e.ensures (omega (arith, w.if-e-gt0.false)))
    ]

pub returns : goal.returns
returns g c = λ x y m. rw (to_z-of_z w64 c.args.c c.ranges.c) at (ended (c.loop-v.invariant x y m) (exponents-length c.args.pattern) c.loop-v-test.false)
