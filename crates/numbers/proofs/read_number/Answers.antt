use mathlib.Core.Path.{refl}
use Prim.Native.Nat.{◌-◌, ◌<◌}
use native.Mathlib.Omega.{arith}
use lib.ListN.{get_or}
use Rattle.numbers.proofs.ReadNumber.{start, ended, tenth-taken, tenth-bad, unit-fits, sum_fits, group-fits, idle-bad, last_taken, again}
use Rattle.numbers.proofs.read_number.Goals as goal
use Rattle.numbers.proofs.read_number.Goals.{Else-byte-lt128}

-- what is left of a byte without its high bit
low_bits : (c : Else-byte-lt128)
    → get_or c.args.bytes.now c.loop-place.place 0 - 128 < 128
low_bits c = omega arith

pub loop-place-init : goal.loop-place-init
loop-place-init c = start _ _

pub returns-then-byte-eq1 : goal.returns-then-byte-eq1
returns-then-byte-eq1 c = tenth-taken c.loop-place.invariant c.if-more-eq0.true c.loop-place-test.true c.if-byte-eq1.true

pub returns-then-more-eq0 : goal.returns-then-more-eq0
returns-then-more-eq0 c = tenth-bad c.loop-place.invariant c.if-more-eq0.true c.loop-place-test.true c.if-byte-eq1.false

pub returns-then-at-place : goal.returns-then-at-place
returns-then-at-place c = idle-bad c.loop-place.invariant c.if-more-eq0.false c.loop-place-test.true c.if-byte-eq0.true c.if-at-place.true

pub returns-then-byte-eq0 : goal.returns-then-byte-eq0
returns-then-byte-eq0 c = last_taken c.loop-place.invariant c.if-more-eq0.false _ (rw c.if-byte-eq0.true (omega arith)) c.loop-place-test.true c.if-byte-lt128.true (λ late. omega arith)

pub overflow_mul-result : goal.overflow_mul-result
overflow_mul-result c = record { fits = group-fits c.loop-place.invariant c.if-more-eq0.false _ c.if-byte-lt128.true }

pub overflow_add-result-then-byte-lt128 : goal.overflow_add-result-then-byte-lt128
overflow_add-result-then-byte-lt128 c = record { fits = sum_fits c.loop-place.invariant c.if-more-eq0.false _ c.if-byte-lt128.true }

pub returns-then-byte-lt128 : goal.returns-then-byte-lt128
returns-then-byte-lt128 c = last_taken c.loop-place.invariant c.if-more-eq0.false _ refl c.loop-place-test.true c.if-byte-lt128.true (λ late. omega arith)

pub overflow_mul-low : goal.overflow_mul-low
overflow_mul-low c = record { fits = group-fits c.loop-place.invariant c.if-more-eq0.false _ (low_bits c) }

pub overflow_add-low : goal.overflow_add-low
overflow_add-low c = record { fits = sum_fits c.loop-place.invariant c.if-more-eq0.false _ (low_bits c) }

pub overflow_mul-unit : goal.overflow_mul-unit
overflow_mul-unit c = record { fits = unit-fits c.loop-place.invariant c.if-more-eq0.false }

pub loop-place-preserved : goal.loop-place-preserved
loop-place-preserved c = again c.loop-place.invariant c.if-more-eq0.false c.loop-place-test.true c.if-byte-lt128.false (low_bits c)

pub returns : goal.returns
returns c = ended c.loop-place.invariant c.loop-place-test.false
