-- The last pattern, as a loop over terms carries it: it tells which patterns, of n exponents, may follow.
use mathlib.Core.Path.{◌≡◌, refl, sym, ◌∙◌}
use mathlib.Core.List.{[], ◌∷◌}
use Prim.Native.Nat.{ℕ}
use lib.ListN.{length}
use Rattle.std.specs.Prelude.{Option, Some, None}
use Rattle.algebra.specs.Limits.{variables}
use Rattle.algebra.specs.Pattern.{Pattern}
use Rattle.algebra.specs.declared.Pattern as declared
use Rattle.algebra.specs.Inside.Filled.{filled}
use Rattle.algebra.specs.Sum.{Term, Sum}
use Rattle.algebra.specs.Word.{exponents, Valid}
use Rattle.algebra.proofs.Patterns.Order.{order-filled}
use Rattle.packed.specs.Judge.{follows}
use Rattle.packed.specs.Inside.Last.{LastValid, may_follow}

pub record Last (n : ℕ) (before : Sum) (last : Option declared.Pattern) : Type 0 where
  pub valid : LastValid last
  pub is : (p : Pattern) → length p ≡ n → follows before p ≡ may_follow last (filled variables p)

pub last_none : (n : ℕ) → Last n [] None
unfolding follows
last_none n = record { valid = tt; is = λ p h. refl }

pub last_some : (n : ℕ) (before : Sum) (t : Term) (w : declared.Pattern) → Valid w.0 → exponents w.0 ≡ filled variables t.pattern → length t.pattern ≡ n → Last n (t ∷ before) (Some w)
unfolding follows
last_some n before t w valid e long = record {
  valid = valid;
  is = λ p h. rw (e, order-filled variables t.pattern p (long ∙ sym h));
}
