-- How far the readers look: each goes on from where it begins.
use mathlib.Core.Path.{◌≡◌, refl}
use mathlib.Core.List.{List}
use Prim.Native.Nat.{ℕ, zero, suc, ◌+◌, ◌≤◌, ◌<◌}
use native.Mathlib.Omega.{arith}
use lib.Dec.{eqb}
use borrow.Author.Tests.{eqb-true}
use Rattle.answers.specs.Judge.{Judged, Judged.good, Judged.fails, holding, and_then}
use Rattle.text.specs.Limits.{largest_exponent}
use Rattle.text.specs.Signs.{power_sign, close_bracket, is_digit}
use Rattle.text.specs.Reader.{Span, byte_at, read_exponent, read_more}
use Rattle.text.proofs.Byte.{decide}
use Rattle.text.proofs.Digits.{digits-ahead}
use Rattle.text.proofs.Parts.{End}
use Rattle.text.proofs.Branches.{closing, no_power, no-exponent, exponent, more-stops, more-then}
use Rattle.text.proofs.Operands.{Operands, more, joined}

pub then-ahead : (g : Judged Span) (f : Span → Judged Span) → ((q : Span) → q.next ≤ End (f q)) → End g ≤ End (and_then g f)
unfolding and_then
then-ahead (good q) f h = h q
then-ahead (fails refusal p) f h = omega arith

module _ (s : List ℕ) (o : Operands) (ahead : (j : ℕ) → j ≤ End (o.operand j)) where
  pub more-ahead : (most : ℕ) (p : Span) → p.next ≤ End (more o s most p)
  more-ahead zero p = unfold read_more in omega arith
  more-ahead (suc most) p =
      decide (o.is_joint (byte_at s p.next))
      (λ e. let on = then-ahead (o.operand (p.next + 1)) (λ q. more o s most (joined o s p q)) (λ q. more-ahead most (joined o s p q)) in
      rw (more-then o.operand o.is_joint o.join s most p refl e) (omega (arith, ahead (p.next + 1))))
      (λ e. rw (more-stops o.operand o.is_joint o.join s (suc most) p e) (omega arith))

module _ (s : List ℕ) (p : Span) where
  pub exponent-past : byte_at s p.next ≡ power_sign → p.next < End (read_exponent s p)
  exponent-past e =
      decide (is_digit (byte_at s (p.next + 1)))
      (λ f. rw (exponent s p.tree p.next refl e f (refl, refl)) (omega (arith, digits-ahead largest_exponent s (p.next + 1))))
      (λ f. rw (no-exponent s p.tree p.next refl e f) (omega arith))

  pub exponent-ahead : p.next ≤ End (read_exponent s p)
  exponent-ahead =
      decide (eqb (byte_at s p.next) power_sign)
      (λ e. omega (arith, exponent-past (eqb-true (byte_at s p.next) power_sign e)))
      (λ e. rw (no_power s p.tree p.next refl e) (omega arith))

  pub closing-ahead : p.next ≤ End (closing s p)
  unfolding closing holding
  closing-ahead = decide (eqb (byte_at s p.next) close_bracket) (λ e. rw e (omega arith)) (λ e. rw e (omega arith))
