-- `Pattern::slope_step` meets its contract: where there is a power of v, one less takes the value of one place away.
use mathlib.Core.Path.{◌≡◌, ◌∙◌, ap}
use Prim.Native.Nat.{ℕ, ◌+◌, ◌*◌, ◌^◌, ◌%◌, ◌<◌}
use native.Mathlib.Omega.{arith}
use Rattle.algebra.specs.Limits.{variables}
use Rattle.algebra.specs.Pattern.{exponent, lowered}
use Rattle.algebra.specs.Word.{word, exponents, Valid}
use Rattle.algebra.proofs.Patterns.Word.{bits_below, one_shifted, lowered-some}
use Rattle.algebra.proofs.Pattern.slope_step.Goals as goal

-- where the power e of v is not 0, the word is the lowered pattern's and 1 shifted by k
some : (v : ℕ) {w e k : ℕ} → (Valid w) × (v < variables) → e ≡ exponent v (exponents w) → (e ≡ 0 → ⊥) → k ≡ bits_below v
    → word (lowered v (exponents w)) + 1 * 2 ^ k % 2 ^ 64 ≡ w
some v {w} {e} {k} (valid, inside) power more bits =
    ap (λ (i : ℕ). word (lowered v (exponents w)) + i) (one_shifted v k inside bits) ∙ lowered-some w v inside valid (omega (arith, more))

pub overflow_sub-pattern : goal.overflow_sub-pattern
overflow_sub-pattern c = omega (arith, some c.args.v (c.requires.valid, c.requires.v_lt_variables) c.exponent-power.ensures c.if-power-eq0.false c.bits_below-one.ensures)

pub returns : goal.returns
returns c = (c.exponent-power.ensures, omega (arith, some c.args.v (c.requires.valid, c.requires.v_lt_variables) c.exponent-power.ensures c.if-power-eq0.false c.bits_below-one.ensures))
