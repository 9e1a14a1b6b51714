-- The definition of each reader, branch by branch. The byte at the place is b.
use mathlib.Core.Path.{◌≡◌, refl, ◌∙◌}
use mathlib.Core.Bool.{Bool, true, false}
use mathlib.Core.List.{List}
use Prim.Native.Nat.{ℕ, zero, suc, ◌+◌, ◌≤◌, ◌<◌}
use native.Mathlib.Omega.{arith}
use lib.Dec.{eqb}
use lib.ListN.{length}
use borrow.Author.Tests.{eq-eqb, ne_eqb, le-leb, lt-leb}
use Rattle.answers.specs.Refusals.{TEXT}
use Rattle.answers.specs.Judge.{Judged, Judged.good, Judged.fails, holding, and_then}
use Rattle.text.specs.Limits.{deepest, largest_number, largest_exponent}
use Rattle.text.specs.Signs.{minus_sign, power_sign, open_bracket, close_bracket, is_digit}
use Rattle.text.specs.Letters.{Letter, letter_of}
use Rattle.text.specs.Tree.{Tree, Tree.number, Tree.plus, Tree.times, Tree.raised, Tree.minus}
use Rattle.text.specs.Reader.{Span, span, byte_at, is_times, is_sign, signed, after_minus}
use Rattle.text.specs.Reader.{Reader, read_letter, read_atom, read_exponent, read_factor, read_more, read_term, read_sum, in_brackets, read_whole}
use Rattle.text.proofs.Byte.{digit-from}
use Rattle.text.proofs.Digits.{Number}
use Rattle.answers.proofs.Judging.{then-good, then-fails}

-- ---- Atoms.

-- after the sum in brackets
unfoldable pub closing : List ℕ → Span → Judged Span
closing s p = holding (eqb (byte_at s p.next) close_bracket) TEXT p.next (good (span p.tree (p.next + 1)))

module _ (s : List ℕ) (at : ℕ) {b : ℕ} (e : b ≡ byte_at s at) where
  pub none_left : {left : ℕ} → b ≡ open_bracket → left ≡ 0 → read_atom (in_brackets left s) s at ≡ fails TEXT at
  unfolding read_atom in_brackets
  none_left h z = rw (← e, eq-eqb b open_bracket h, z)

  pub opened : {left deep : ℕ} → b ≡ open_bracket → left ≡ suc deep
      → read_atom (in_brackets left s) s at ≡ and_then (read_sum (in_brackets deep s) s (at + 1)) (closing s)
  unfolding read_atom in_brackets closing
  opened h z = rw (← e, eq-eqb b open_bracket h, z)

  pub closed : (t : Tree) → b ≡ close_bracket → closing s (span t at) ≡ good (span t (at + 1))
  unfolding closing holding
  closed t h = rw (← e, eq-eqb b close_bracket h)

  pub unclosed : (t : Tree) → (b ≡ close_bracket → ⊥) → closing s (span t at) ≡ fails TEXT at
  unfolding closing holding
  unclosed t h = rw (← e, ne_eqb b close_bracket h)

  module _ (inner : Reader) where
    pub number_read : {v next : ℕ} → is_digit b ≡ true → Number largest_number s at v next → read_atom inner s at ≡ good (span (number v) next)
    unfolding read_atom
    number_read d r = rw (← e, ne_eqb b open_bracket (λ h. omega (arith, digit-from b d)), d, r.0, r.1)

    pub letter-read : {l : Letter} → (b ≡ open_bracket → ⊥) → is_digit b ≡ false → letter_of b ≡ l → read_atom inner s at ≡ read_letter l at
    unfolding read_atom
    letter-read h d l = rw (← e, ne_eqb b open_bracket h, d, l)

-- ---- Exponents.

module _ (s : List ℕ) (t : Tree) (next : ℕ) {b : ℕ} (e : b ≡ byte_at s next) where
  pub no_power : eqb b power_sign ≡ false → read_exponent s (span t next) ≡ good (span t next)
  unfolding read_exponent
  no_power h = rw (← e, h)

  pub no-exponent : b ≡ power_sign → is_digit (byte_at s (next + 1)) ≡ false → read_exponent s (span t next) ≡ fails TEXT (next + 1)
  unfolding read_exponent holding
  no-exponent h d = rw (← e, eq-eqb b power_sign h, d)

  pub exponent : {v end : ℕ} → b ≡ power_sign → is_digit (byte_at s (next + 1)) ≡ true → Number largest_exponent s (next + 1) v end
      → read_exponent s (span t next) ≡ good (span (raised t v) end)
  unfolding read_exponent holding
  exponent h d r = rw (← e, eq-eqb b power_sign h, d, r.0, r.1)

-- ---- Operands joined to what was read.

module _ (operand : Reader) (is_joint : ℕ → Bool) (join : ℕ → Tree → Tree → Tree) (s : List ℕ) where
  pub more-stops : (most : ℕ) (p : Span) → is_joint (byte_at s p.next) ≡ false → read_more operand is_joint join most s p ≡ good p
  unfolding read_more
  more-stops zero p h = refl
  more-stops (suc most) p h = rw h

  pub more-then : {most : ℕ} (fewer : ℕ) (p : Span) → most ≡ suc fewer → is_joint (byte_at s p.next) ≡ true
      → read_more operand is_joint join most s p
      ≡ and_then (operand (p.next + 1)) (λ q. read_more operand is_joint join fewer s (span (join (byte_at s p.next) p.tree q.tree) q.next))
  unfolding read_more
  more-then fewer p e h = rw (e, h)

-- ---- Factors, terms and sums. `inner` reads a sum in brackets.

module _ (inner : Reader) (s : List ℕ) (at : ℕ) where
  pub factor-is : read_factor inner s at ≡ and_then (read_atom inner s at) (read_exponent s)
  unfolding read_factor
  factor-is = refl

  pub term_is : read_term inner s at ≡ and_then (read_factor inner s at) (read_more (read_factor inner s) is_times (λ b. times) (length s) s)
  unfolding read_term
  term_is = refl

  -- no term begins with a minus
  pub term-minus : byte_at s at ≡ minus_sign → read_term inner s at ≡ fails TEXT at
  unfolding read_term read_factor read_atom and_then is_digit letter_of
  term-minus e = rw e

  abbrev more_terms : Span → Judged Span
  more_terms p = read_more (read_term inner s) is_sign (λ b t u. plus t (signed b u)) (length s) s p

  pub sum_is : read_sum inner s at ≡ and_then (read_term inner s (after_minus s at)) (λ p. more_terms (span (signed (byte_at s at) p.tree) p.next))
  unfolding read_sum
  sum_is = refl

  pub sum-plain : eqb (byte_at s at) minus_sign ≡ false → read_sum inner s at ≡ and_then (read_term inner s at) more_terms
  unfolding read_sum after_minus signed
  sum-plain e = rw e

  pub sum-minus : byte_at s at ≡ minus_sign → read_sum inner s at ≡ and_then (read_term inner s (at + 1)) (λ p. more_terms (span (minus p.tree) p.next))
  unfolding read_sum after_minus signed
  sum-minus e = rw e

-- ---- All of the text.

module _ (s : List ℕ) where
  pub no-sum : {place : ℕ} → read_sum (in_brackets deepest s) s 0 ≡ fails TEXT place → read_whole s ≡ fails TEXT place
  unfolding read_whole
  no-sum e = then-fails _ e

  module _ {t : Tree} {next : ℕ} (e : read_sum (in_brackets deepest s) s 0 ≡ good (span t next)) where
    pub more_left : next < length s → read_whole s ≡ fails TEXT next
    unfolding read_whole holding
    more_left h = then-good _ e ∙ rw (lt-leb (length s) next h)

    pub all_read : length s ≤ next → read_whole s ≡ good t
    unfolding read_whole holding
    all_read h = then-good _ e ∙ rw (le-leb (length s) next h)
