-- `Pattern::exponent` meets its contract: the byte of v is what a shift brings lowest.
use mathlib.Core.Path.{sym, ◌∙◌, ap}
use Prim.Native.Nat.{ℕ, ◌^◌, ◌/◌, ◌%◌}
use Rattle.algebra.proofs.Patterns.Word.{exponent-bits}
use Rattle.algebra.proofs.Pattern.exponent.Goals as goal

pub returns : goal.returns
returns c = ap (λ (k : ℕ). c.args.self.0 / 2 ^ k % 256) c.bits_below.ensures ∙ sym (exponent-bits c.args.self.0 c.args.v c.requires)
