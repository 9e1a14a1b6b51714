-- Operands joined to what was read: with what is still to be read, it is the whole.
use mathlib.Core.Path.{◌≡◌, refl, ◌∙◌}
use mathlib.Core.Bool.{Bool, true, false}
use mathlib.Core.List.{List}
use Prim.Native.Nat.{ℕ, ◌+◌, ◌-◌, ◌≤◌, ◌<◌}
use native.Mathlib.Omega.{arith}
use lib.ListN.{length}
use Rattle.answers.specs.Judge.{Judged, Judged.good, and_then}
use Rattle.text.specs.Tree.{Tree, Tree.plus, Tree.times}
use Rattle.text.specs.Reader.{Span, span, byte_at, Reader, read_factor, read_more, is_times, read_term, is_sign, signed}
use Rattle.text.proofs.Byte.{passes-inside}
use Rattle.answers.proofs.Judging.{then-good}
use Rattle.text.proofs.Branches.{more-stops, more-then}

-- what is joined, and how; past the end of the text there is no joint
pub record Operands : Type 0 where
  pub operand : Reader
  pub is_joint : ℕ → Bool
  pub join : ℕ → Tree → Tree → Tree
  pub ends : is_joint 0 ≡ false

pub times-end : is_times 0 ≡ false
unfolding is_times
times-end = refl

pub signs-end : is_sign 0 ≡ false
unfolding is_sign
signs-end = refl

-- (`inner` reads a sum in brackets)
abbrev pub factors : Reader → List ℕ → Operands
factors inner s = record { operand = read_factor inner s; is_joint = is_times; join = λ b. times; ends = times-end }

abbrev pub terms : Reader → List ℕ → Operands
terms inner s = record { operand = read_term inner s; is_joint = is_sign; join = λ b t u. plus t (signed b u); ends = signs-end }

module _ (o : Operands) (s : List ℕ) where
  abbrev pub more : ℕ → Span → Judged Span
  more most p = read_more o.operand o.is_joint o.join most s p

  -- the operand q is joined to p
  abbrev pub joined : Span → Span → Span
  joined p q = span (o.join (byte_at s p.next) p.tree q.tree) q.next

  -- the whole is what is read after p
  pub record Chain (whole : Judged Span) (p : Span) : Type 0 where
    pub fuel : ℕ
    pub enough : length s ≤ p.next + fuel
    pub is : whole ≡ more fuel p

  pub chain-starts : (F : Tree → Tree) {whole g : Judged Span} {q : Span} → whole ≡ and_then g (λ p. more (length s) (span (F p.tree) p.next))
      → g ≡ good q → Chain whole (span (F q.tree) q.next)
  chain-starts F e f = record { fuel = length s; enough = omega arith; is = e ∙ then-good _ f }

  module _ {whole : Judged Span} {p : Span} (c : Chain whole p) where
    pub chain-stops : o.is_joint (byte_at s p.next) ≡ false → whole ≡ good p
    chain-stops h = c.is ∙ more-stops _ _ _ s c.fuel p h

    module _ (h : o.is_joint (byte_at s p.next) ≡ true) where
      pub inside : p.next < length s
      inside = passes-inside o.is_joint o.ends s p.next h

      pub goes_on : whole ≡ and_then (o.operand (p.next + 1)) (λ q. more (c.fuel - 1) (joined p q))
      goes_on = c.is ∙ more-then _ _ _ s (c.fuel - 1) p (omega (arith, inside)) h

      pub chain-again : {q : Span} → o.operand (p.next + 1) ≡ good q → p.next < q.next → Chain whole (joined p q)
      chain-again f ahead = record { fuel = c.fuel - 1; enough = omega arith; is = goes_on ∙ then-good _ f }
