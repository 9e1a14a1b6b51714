-- How a typed formula is read, from the left: TEXT at the first byte that no formula can have there, or at the end.
use Rattle.std.specs.Prelude.{Bool, cond, ◌&&◌, ◌||◌, List, [], ◌∷◌, ℕ, zero, suc, ◌+◌, ◌-◌, ◌*◌, eqb, leb, length, get_or, drop}
use Rattle.answers.specs.Refusals.{TEXT}
use Rattle.answers.specs.Judge.{Judged, Judged.good, Judged.fails, holding, and_then}
use Rattle.text.specs.Limits.{deepest, largest_number, largest_exponent}
use Rattle.text.specs.Signs.{plus_sign, minus_sign, times_sign, power_sign, open_bracket, close_bracket, zero_digit, is_digit}
use Rattle.text.specs.Letters.{Letter, Letter.names, Letter.nothing, letter_of}
use Rattle.text.specs.Tree.{Tree, Tree.number, Tree.letter, Tree.plus, Tree.times, Tree.raised, Tree.minus}

-- what was read: its tree, and the place after it
pub record Span : Type 0 where
  pub tree : Tree
  pub next : ℕ

abbrev pub span : Tree → ℕ → Span
span t next = record { tree = t; next = next }

-- the byte at a place; past the end it is 0, which stands nowhere in a formula
abbrev pub byte_at : List ℕ → ℕ → ℕ
byte_at s at = get_or s at 0

-- ---- Numbers. A reading of digits stops before the digit that is too much; that digit is then refused by what follows the number.

-- the value of a number, and the place after its digits
pub record Digits : Type 0 where
  pub value : ℕ
  pub next : ℕ

-- a number of value v takes one more digit: it has no leading zero, and stays within `top`
unfoldable pub takes : ℕ → ℕ → ℕ → Bool
takes top v b = leb 1 v && (is_digit b && leb (v * 10 + (b - zero_digit)) top)

-- the number so far, the place after it, and the bytes from there on
unfoldable pub more_digits : ℕ → ℕ → ℕ → List ℕ → Digits
more_digits top v next [] = record { value = v; next = next }
more_digits top v next (b ∷ rest) = cond (takes top v b) (more_digits top (v * 10 + (b - zero_digit)) (next + 1) rest) (record { value = v; next = next })

-- the number that begins at a place where a digit stands
unfoldable pub digits_at : ℕ → List ℕ → ℕ → Digits
digits_at top s at = more_digits top (byte_at s at - zero_digit) (at + 1) (drop (at + 1) s)

-- ---- Sums, terms, factors and atoms. `bracket` reads a sum in brackets.

abbrev pub Reader : Type 0
Reader = ℕ → Judged Span

abbrev pub read_letter : Letter → Reader
read_letter (names v) at = good (span (letter v) (at + 1))
read_letter nothing at = fails TEXT at

unfoldable pub read_atom : Reader → List ℕ → Reader
read_atom bracket s at =
    cond (eqb (byte_at s at) open_bracket)
    (bracket at)
    (cond (is_digit (byte_at s at))
    (let n = digits_at largest_number s at in good (span (number n.value) n.next))
    (read_letter (letter_of (byte_at s at)) at))

-- what was read is raised, if ^ follows
unfoldable pub read_exponent : List ℕ → Span → Judged Span
read_exponent s p =
    cond (eqb (byte_at s p.next) power_sign)
    (holding (is_digit (byte_at s (p.next + 1))) TEXT (p.next + 1)
    (let n = digits_at largest_exponent s (p.next + 1) in good (span (raised p.tree n.value) n.next)))
    (good p)

unfoldable pub read_factor : Reader → List ℕ → Reader
read_factor bracket s at = and_then (read_atom bracket s at) (read_exponent s)

-- operands joined to what was read, as long as a joint follows: operators group to the left. `most` is how many there may be: a text has no more
-- operands than bytes
unfoldable pub read_more : Reader → (ℕ → Bool) → (ℕ → Tree → Tree → Tree) → ℕ → List ℕ → Span → Judged Span
read_more operand is_joint join zero s p = good p
read_more operand is_joint join (suc most) s p =
    cond (is_joint (byte_at s p.next))
    (and_then (operand (p.next + 1)) (λ q. read_more operand is_joint join most s (span (join (byte_at s p.next) p.tree q.tree) q.next)))
    (good p)

unfoldable pub is_times : ℕ → Bool
is_times b = eqb b times_sign

unfoldable pub read_term : Reader → List ℕ → Reader
read_term bracket s at = and_then (read_factor bracket s at) (read_more (read_factor bracket s) is_times (λ b. times) (length s) s)

unfoldable pub is_sign : ℕ → Bool
is_sign b = eqb b plus_sign || eqb b minus_sign

-- the tree of a term that stands after the byte b
unfoldable pub signed : ℕ → Tree → Tree
signed b t = cond (eqb b minus_sign) (minus t) t

-- where a sum's first term begins
unfoldable pub after_minus : List ℕ → ℕ → ℕ
after_minus s at = cond (eqb (byte_at s at) minus_sign) (at + 1) at

unfoldable pub read_sum : Reader → List ℕ → Reader
read_sum bracket s at =
    and_then (read_term bracket s (after_minus s at)) (λ p.
    read_more (read_term bracket s) is_sign (λ b t u. plus t (signed b u)) (length s) s (span (signed (byte_at s at) p.tree) p.next))

-- a sum in brackets; the number is how many levels may still be opened
unfoldable pub in_brackets : ℕ → List ℕ → Reader
in_brackets zero s at = fails TEXT at
in_brackets (suc deep) s at =
    and_then (read_sum (in_brackets deep s) s (at + 1)) (λ p.
    holding (eqb (byte_at s p.next) close_bracket) TEXT p.next (good (span p.tree (p.next + 1))))

-- all of the text
unfoldable pub read_whole : List ℕ → Judged Tree
read_whole s = and_then (read_sum (in_brackets deepest s) s 0) (λ p. holding (leb (length s) p.next) TEXT p.next (good p.tree))
