-- What is read is what the grammar says; and where a reading is refused, some part begins with the bytes before that place.
use mathlib.Core.Path.{◌≡◌, refl}
use mathlib.Core.Bool.{true}
use mathlib.Core.List.{List, [], ◌∷◌, ◌++◌, append_assoc}
use Prim.Native.Nat.{ℕ, zero, suc, ◌+◌, ◌≤◌}
use native.Mathlib.Omega.{arith}
use lib.Dec.{eqb}
use lib.ListN.{length}
use borrow.Author.Tests.{eqb-true}
use Rattle.answers.specs.Judge.{holding}
use Rattle.text.specs.Limits.{largest_number, largest_exponent}
use Rattle.text.specs.Signs.{plus_sign, minus_sign, times_sign, power_sign, open_bracket, close_bracket, zero_digit, is_digit}
use Rattle.text.specs.Letters.{Letter, Letter.names, Letter.nothing, letter_of}
use Rattle.text.specs.Tree as tree
use Rattle.text.specs.Tree.{Tree}
use Rattle.text.specs.Grammar.{Numeral, Numeral.digit, Level, Level.sum, Level.term, Level.factor, Level.atom, Is}
use Rattle.text.specs.Grammar.{Is.first, Is.minus, Is.plus, Is.less, Is.single, Is.times, Is.plain, Is.power, Is.number, Is.letter, Is.bracket}
use Rattle.text.specs.Reader.{Span, byte_at, is_times, is_sign, signed, after_minus}
use Rattle.text.specs.Reader.{read_letter, read_atom, read_exponent, read_factor, read_more, read_term, read_sum, in_brackets}
use Rattle.text.proofs.Byte.{decide, passes-some, letter-above}
use Rattle.text.proofs.Operands.{Operands, factors, terms, more}
use Rattle.text.proofs.Words.{stands-byte}
use Rattle.text.proofs.Parts.{Begun, here, after, mapped, taken, joined, reading, End, StopsAt, fault, Good, good-ahead, good-then}
use Rattle.text.proofs.Numerals.{digits-begun}

-- ---- Operands joined to what was read.

-- P says what the whole is, and Q what an operand is
module _ (s : List ℕ) (P Q : List ℕ → Tree → Type 0) (o : Operands)
    (rule : (b : ℕ) (t u : Tree) (w v : List ℕ) → o.is_joint b ≡ true → P w t → Q v u → P (w ++ (b ∷ v)) (o.join b t u))
    (operand-good : (j : ℕ) → Good Q s j (o.operand j)) where
  one_more : {i y : ℕ} {rest : List ℕ} (p : Span) (u : Tree) → let b = byte_at s p.next in
      o.is_joint b ≡ true → Begun (λ w. P w p.tree) s i p.next [] → Begun (λ w. Q w u) s (p.next + 1) y rest
      → Begun (λ w. P w (o.join b p.tree u)) s i y rest
  one_more p u e d c = let b : ℕ = byte_at s p.next in joined (λ w v. rule b p.tree u w v e) d refl (passes-some o.is_joint o.ends b e) c

  more-good : (i most : ℕ) (p : Span) → Begun (λ w. P w p.tree) s i p.next [] → Good P s i (more o s most p)
  unfolding read_more
  more-good i zero p d = d
  more-good i (suc most) p d =
      decide (o.is_joint (byte_at s p.next))
      (λ e. rw e (good-then (o.operand (p.next + 1)) _ (operand-good (p.next + 1))
      (λ q c. more-good i most _ (one_more p q.tree e d c))
      (λ y rest u c. fault _ (one_more p u e d c))))
      (λ e. rw e d)

-- ---- The levels, if sums in brackets are good.

-- a digit 0 may stand wherever a number is asked for
nought : {top : ℕ} {s : List ℕ} {i : ℕ} → Begun (λ w. Numeral top w 0) s i i (zero_digit ∷ [])
nought = here (digit (omega arith))

missing : {s : List ℕ} {l i : ℕ} → StopsAt (Is atom l) s i i
missing = fault _ (mapped (λ w. number) nought)

times-rule : {l : ℕ} (b : ℕ) (t u : Tree) (w v : List ℕ) → is_times b ≡ true → Is term l w t → Is factor l v u
    → Is term l (w ++ (b ∷ v)) (tree.Tree.times t u)
unfolding is_times
times-rule b t u w v e d c = rw (eqb-true b times_sign e) (times d c)

sign-rule : {l : ℕ} (b : ℕ) (t u : Tree) (w v : List ℕ) → is_sign b ≡ true → Is sum l w t → Is term l v u
    → Is sum l (w ++ (b ∷ v)) (tree.Tree.plus t (signed b u))
unfolding is_sign signed
sign-rule b t u w v e d c =
    decide (eqb b plus_sign)
    (λ f. rw (eqb-true b plus_sign f) (plus d c))
    (λ f. rw (eqb-true b minus_sign (rw f at e)) (less d c))

module _ (s : List ℕ) (l : ℕ) (brackets : (i : ℕ) → byte_at s i ≡ open_bracket → Good (Is atom l) s i (in_brackets l s i)) where
  letter-good : (i : ℕ) (c : Letter) → letter_of (byte_at s i) ≡ c → Good (Is atom l) s i (read_letter c i)
  letter-good i (names v) e = after (stands-byte refl (omega (arith, letter-above (byte_at s i) v e))) (here (letter e))
  letter-good i nothing e = (refl, missing)

  atom-good : (i : ℕ) → Good (Is atom l) s i (reading atom l s i)
  unfolding read_atom
  atom-good i =
      decide (eqb (byte_at s i) open_bracket)
      (λ e. rw e (brackets i (eqb-true (byte_at s i) open_bracket e)))
      (λ e. decide (is_digit (byte_at s i))
      (λ f. rw (e, f) (mapped (λ w. number) (digits-begun largest_number s i f)))
      (λ f. rw (e, f) (letter-good i (letter_of (byte_at s i)) refl)))

  exponent-good : (i : ℕ) (p : Span) → Begun (λ w. Is atom l w p.tree) s i p.next [] → Good (Is factor l) s i (read_exponent s p)
  unfolding read_exponent holding
  exponent-good i p d =
      decide (eqb (byte_at s p.next) power_sign)
      (λ e. let at = eqb-true (byte_at s p.next) power_sign e in
      decide (is_digit (byte_at s (p.next + 1)))
      (λ f. rw (e, f) (joined (λ w v. power) d at (omega arith) (digits-begun largest_exponent s (p.next + 1) f)))
      (λ f. rw (e, f) (refl, fault _ (joined (λ w v. power) d at (omega arith) nought))))
      (λ e. rw e (mapped (λ w. plain) d))

  factor-good : (i : ℕ) → Good (Is factor l) s i (reading factor l s i)
  unfolding read_factor
  factor-good i = good-then (reading atom l s i) (read_exponent s) (atom-good i) (exponent-good i) (λ p rest t d. fault t (mapped (λ w. plain) d))

  term-good : (i : ℕ) → Good (Is term l) s i (reading term l s i)
  unfolding read_term
  term-good i =
      good-then (reading factor l s i) _ (factor-good i)
      (λ q d. more-good s (Is term l) (Is factor l) (factors (in_brackets l s) s) times-rule factor-good i (length s) q (mapped (λ w. single) d))
      (λ p rest t d. fault t (mapped (λ w. single) d))

  -- the first term, with its sign
  signed-begun : (i : ℕ) {p : ℕ} {rest : List ℕ} {t : Tree} → Begun (λ w. Is term l w t) s (after_minus s i) p rest
      → Begun (λ w. Is sum l w (signed (byte_at s i) t)) s i p rest
  unfolding after_minus signed
  signed-begun i d =
      decide (eqb (byte_at s i) minus_sign)
      (λ e. rw e (after (stands-byte (eqb-true (byte_at s i) minus_sign e) (omega arith)) (mapped (λ w. minus) (rw e at d))))
      (λ e. rw e (mapped (λ w. first) (rw e at d)))

  sum-good : (i : ℕ) → Good (Is sum l) s i (reading sum l s i)
  unfolding read_sum
  sum-good i =
      good-then (reading term l s (after_minus s i)) _ (term-good (after_minus s i))
      (λ q d. more-good s (Is sum l) (Is term l) (terms (in_brackets l s) s) sign-rule term-good i (length s) _ (signed-begun i d))
      (λ p rest t d. fault _ (signed-begun i d))

-- ---- Brackets, and so every level.

opened : {s : List ℕ} {l i p : ℕ} {rest : List ℕ} {t : Tree} → byte_at s i ≡ open_bracket → Begun (λ w. Is sum l w t) s (i + 1) p rest
    → Begun (λ w. Is atom (suc l) w t) s i p (rest ++ (close_bracket ∷ []))
opened e d = after (stands-byte e (omega arith)) (after d.stands (here (rw append_assoc at (bracket d.is))))

bracket-good : (s : List ℕ) (l i : ℕ) → byte_at s i ≡ open_bracket → Good (Is atom l) s i (in_brackets l s i)
unfolding in_brackets holding
bracket-good s zero i e = (refl, missing)
bracket-good s (suc l) i e =
    good-then (reading sum l s (i + 1)) _ (sum-good s l (bracket-good s l) (i + 1))
    (λ q d. decide (eqb (byte_at s q.next) close_bracket)
    (λ f. rw f (taken (opened e d) (eqb-true (byte_at s q.next) close_bracket f) (omega arith)))
    (λ f. rw f (refl, fault q.tree (opened e d))))
    (λ p rest t d. fault t (opened e d))

pub reading-good : (k : Level) (l : ℕ) (s : List ℕ) (i : ℕ) → Good (Is k l) s i (reading k l s i)
reading-good sum l s = sum-good s l (bracket-good s l)
reading-good term l s = term-good s l (bracket-good s l)
reading-good factor l s = factor-good s l (bracket-good s l)
reading-good atom l s = atom-good s l (bracket-good s l)

pub reading-ahead : (k : Level) (l : ℕ) (s : List ℕ) (i : ℕ) → i ≤ End (reading k l s i)
reading-ahead k l s i = good-ahead (Is k l) s i (reading k l s i) (reading-good k l s i)
