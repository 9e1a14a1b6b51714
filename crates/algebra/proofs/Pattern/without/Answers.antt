-- `Pattern::without` meets its contract: what it takes away is the value of v's power alone.
use mathlib.Core.Path.{◌≡◌, ◌∙◌, ap}
use Prim.Native.Nat.{ℕ, ◌+◌, ◌<◌}
use native.Mathlib.Omega.{arith}
use lib.ListN.{set}
use Rattle.algebra.specs.Limits.{variables}
use Rattle.algebra.specs.Pattern.{empty_pattern, exponent, without}
use Rattle.algebra.specs.Word.{word, exponents, Valid}
use Rattle.algebra.proofs.Patterns.Laws.{exponent-degree}
use Rattle.algebra.proofs.Patterns.Word.{without-word}
use Rattle.algebra.proofs.Pattern.without.Goals as goal

-- the word is the rest's and that of the power e of v alone
whole : (v : ℕ) {w e alone : ℕ} → (Valid w) × (v < variables) → e ≡ exponent v (exponents w) → alone ≡ word (set (empty_pattern variables) v e)
    → word (without v (exponents w)) + alone ≡ w
whole v {w} (valid, inside) power is =
    ap (λ (i : ℕ). word (without v (exponents w)) + i) (is ∙ ap (λ (i : ℕ). word (set (empty_pattern variables) v i)) power)
    ∙ without-word w v inside valid

pub power-alone-requires-clause-e_le_largest_degree : goal.power-alone-requires-clause-e_le_largest_degree
power-alone-requires-clause-e_le_largest_degree c = let low = exponent-degree c.args.v (exponents c.args.self.0) in omega (arith, low, c.exponent.ensures, c.requires.valid.low)

pub overflow_sub-result : goal.overflow_sub-result
overflow_sub-result c = omega (arith, whole c.args.v (c.requires.valid, c.requires.v_lt_variables) c.exponent.ensures c.power-alone.ensures)

pub returns : goal.returns
returns c = omega (arith, whole c.args.v (c.requires.valid, c.requires.v_lt_variables) c.exponent.ensures c.power-alone.ensures)
