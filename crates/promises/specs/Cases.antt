-- Document 01's cases, line by line, as tables: what the definitions of the operations compute, one operation after the other on packed bytes.
use Rattle.std.specs.Prelude.{◌≡◌, Bool, true, false, List, [], ◌∷◌, ◌++◌, map, ℕ, ◌+◌, ◌-◌, ◌*◌, ◌^◌, ℤ, pos, neg_ℤ, length, get_or, replicate}
use Prim.Native.String.{String}
use Rattle.algebra.specs.Limits.{variables}
use Rattle.algebra.specs.Sum.{Term, term, Sum}
use Rattle.algebra.specs.Margin.{unsigned, raised_by}
use Rattle.answers.specs.Refusals.{DEGREE, WEIGHT, SPREAD, SUM, READING, RANGE, TEXT}
use Rattle.answers.specs.Judge.{Judged, Judged.good, Judged.fails, and_then}
use Rattle.answers.specs.Quoted.{quoted}
use Rattle.numbers.specs.Number.{number_bytes}
use Rattle.numbers.specs.Code.{code}
use Rattle.packed.specs.Packed.{packed}
use Rattle.packed.specs.ReadSum.{read_whole}
use Rattle.packed.specs.Whole.{judged}
use Rattle.text.specs.Tree.{Tree, Tree.number, Tree.letter, Tree.plus, Tree.times, Tree.raised, Tree.minus}
use Rattle.text.specs.Text.{judge_text, text_sum}
use Rattle.change.specs.Slope.{judge_slope}
use Rattle.change.specs.Substitute.{judge_substitute}
use Rattle.estimates.specs.Range.{Estimate}
use Rattle.router.specs.Estimate.{judge_estimate}
use Rattle.router.specs.Cases.{of_letters, in_bytes, numbers_in, together, value_at, is_within}

-- ---- Packed bytes, as the operations make them one of the other.

pub data Made : Type 0 where
  -- a typed formula, simplified
  typed : String → Made
  -- the slope by a variable
  slope : ℕ → Made → Made
  -- v := a sum, put into another
  put : ℕ → Made → Made → Made

abbrev pub bytes_of : Judged Sum → Judged (List ℕ)
bytes_of (good s) = good (packed s)
bytes_of (fails refusal place) = fails refusal place

unfoldable pub made : Made → Judged (List ℕ)
made (typed text) = bytes_of (text_sum (quoted text))
made (slope v m) = and_then (made m) (λ bytes. bytes_of (and_then (judged SUM (read_whole variables bytes)) (judge_slope v)))
made (put v n m) = and_then (made m) (λ bytes. and_then (made n) (λ others. bytes_of (judge_substitute bytes (1 ∷ v ∷ others))))

-- the sum again
abbrev pub unpacked : Made → Judged Sum
unpacked m = and_then (made m) (λ bytes. judged SUM (read_whole variables bytes))

abbrev pub estimated : Made → List ℤ → List ℤ → Judged Estimate
estimated m rs ts = and_then (made m) (λ bytes. judge_estimate bytes (in_bytes rs) (in_bytes ts))

-- ---- What a case says. Exponents, readings and tolerances are those of the first letters; the others are 0.

pub data Case : Type 0 where
  -- it is the sum of these terms: each a coefficient, and exponents
  is : Made → List (ℤ × List ℕ) → Case
  packs : Made → List ℕ → Case
  -- it has so many terms
  has : Made → ℕ → Case
  -- the refusal, and its place
  refuses : Made → ℕ → ℕ → Case
  -- readings, tolerances, and the estimate with its margin, or the refusal
  estimates : Made → List ℤ → List ℤ → Judged (ℤ × ℕ) → Case
  -- true numbers within the tolerances, at which the value is the estimate and the margin together
  reached : Made → List ℤ → List ℤ → List ℤ → Case
  -- how many bytes a coefficient takes
  groups : ℤ → ℕ → Case
  -- the margin that a typed formula would have as it is typed
  as_typed : String → List ℤ → List ℤ → ℕ → Case

abbrev pub term_of : ℤ × List ℕ → Term
term_of t = term t.0 (t.1 ++ replicate (variables - length t.1) 0)

abbrev pub accepted : {A : Type 0} → Judged A → Bool
accepted (good a) = true
accepted (fails refusal place) = false

abbrev pub terms_in : Judged Sum → Judged ℕ
terms_in (good s) = good (length s)
terms_in (fails refusal place) = fails refusal place

-- the value of a tree with all signs dropped, at numbers without signs
abbrev pub tree_size : Tree → List ℕ → ℕ
tree_size (number n) y = n
tree_size (letter v) y = get_or y v 1
tree_size (plus t u) y = tree_size t y + tree_size u y
tree_size (times t u) y = tree_size t y * tree_size u y
tree_size (raised t e) y = tree_size t y ^ e
tree_size (minus t) y = tree_size t y

abbrev pub tree_margin : Judged Tree → List ℤ → List ℤ → ℕ
tree_margin (good t) rs ts = tree_size t (raised_by rs (unsigned ts)) - tree_size t (unsigned rs)
tree_margin (fails refusal place) rs ts = 0

abbrev pub Says : Case → Type 0
Says (is m ts) = unpacked m ≡ good (map term_of ts)
Says (packs m bytes) = made m ≡ good bytes
Says (has m n) = terms_in (unpacked m) ≡ good n
Says (refuses m refusal place) = made m ≡ fails refusal place
Says (estimates m rs ts gives) = numbers_in (estimated m rs ts) ≡ gives
Says (reached m rs ts xs) =
    (is_within (of_letters xs) (of_letters rs) (unsigned (of_letters ts)) ≡ true)
    × ((value_at (unpacked m) (of_letters xs) ≡ together (estimated m rs ts)) × (accepted (estimated m rs ts) ≡ true))
Says (groups z n) = length (number_bytes (code z)) ≡ n
Says (as_typed text rs ts m) = tree_margin (judge_text (quoted text)) rs ts ≡ m

-- ---- Short names.

abbrev pub a : ℕ
a = 0

abbrev pub b : ℕ
b = 1

abbrev pub c : ℕ
c = 2

-- -n
abbrev pub neg : ℕ → ℤ
neg n = neg_ℤ (pos n)

abbrev pub square : Made
square = typed "(a+b)^2-b^2"

-- b := 0
abbrev pub without_b : Made
without_b = put b (typed "0") square

-- ---- The cases marked P.

unfoldable pub cases : List Case
cases =
    -- 0^0 and (a-a)^0 are 1
    is (typed "0^0") ((pos 1, []) ∷ [])
    ∷ is (typed "(a-a)^0") ((pos 1, []) ∷ [])
    -- a-a packs as 00
    ∷ packs (typed "a-a") (0 ∷ [])
    -- (a+b)^2-b^2 is a² + 2ab, and its bytes
    ∷ is square ((pos 1, 2 ∷ []) ∷ (pos 2, 1 ∷ 1 ∷ []) ∷ [])
    ∷ packs square (2 ∷ 2 ∷ 2 ∷ 0 ∷ 0 ∷ 0 ∷ 0 ∷ 0 ∷ 0 ∷ 0 ∷ 4 ∷ 1 ∷ 1 ∷ 0 ∷ 0 ∷ 0 ∷ 0 ∷ 0 ∷ 0 ∷ [])
    -- its slope by a is 2a + 2b; by c it is zero
    ∷ is (slope a square) ((pos 2, 1 ∷ []) ∷ (pos 2, 0 ∷ 1 ∷ []) ∷ [])
    ∷ is (slope c square) []
    -- with b := 0 it is a², slope by b zero; slope by b first is 2a, and with b := 0 after it still is
    ∷ is without_b ((pos 1, 2 ∷ []) ∷ [])
    ∷ is (slope b without_b) []
    ∷ is (slope b square) ((pos 2, 1 ∷ []) ∷ [])
    ∷ is (put b (typed "0") (slope b square)) ((pos 2, 1 ∷ []) ∷ [])
    -- a = 10, b = 3, tolerances 1 and 2: estimate 160, margin 71, reached at 11 and 5
    ∷ estimates square (pos 10 ∷ pos 3 ∷ []) (pos 1 ∷ pos 2 ∷ []) (good (pos 160, 71))
    ∷ reached square (pos 10 ∷ pos 3 ∷ []) (pos 1 ∷ pos 2 ∷ []) (pos 11 ∷ pos 5 ∷ [])
    -- a², a = −3, tolerance 1: estimate 9, margin 7
    ∷ estimates (typed "a^2") (neg 3 ∷ []) (pos 1 ∷ []) (good (pos 9, 7))
    -- 2^62 + 1 − 1 is WEIGHT at node 2; 0 · 2^62 is zero, accepted
    ∷ refuses (typed "4611686018427387904+1-1") WEIGHT 2
    ∷ is (typed "0*4611686018427387904") []
    -- a^60 accepted; a^60*a DEGREE at node 3; a^61 TEXT at 3
    ∷ is (typed "a^60") ((pos 1, 60 ∷ []) ∷ [])
    ∷ refuses (typed "a^60*a") DEGREE 3
    ∷ refuses (typed "a^61") TEXT 3
    -- 2^62 packs in ten groups, −2^62 in nine
    ∷ groups (pos (2 ^ 62)) 10
    ∷ groups (neg (2 ^ 62)) 9
    ∷ []

-- ---- Further cases: the lines marked 'run only', the fourth slip, and some that 01 does not list.

unfoldable pub further : List Case
further =
    -- run only: the cube of a+b+…+h has 120 terms, and its fourth power is SPREAD
    has (typed "(a+b+c+d+e+f+g+h)^3") 120
    ∷ refuses (typed "(a+b+c+d+e+f+g+h)^4") SPREAD 15
    -- run only: 2^32·a² at 32767, within 1, is exactly 2^62, and with 1 more RANGE
    ∷ estimates (typed "4294967296*a^2") (pos 32767 ∷ []) (pos 1 ∷ []) (good (pos (2 ^ 32 * 32767 ^ 2), 2 ^ 62 - 2 ^ 32 * 32767 ^ 2))
    ∷ estimates (typed "4294967296*a^2+1") (pos 32767 ∷ []) (pos 1 ∷ []) (fails RANGE 0)
    -- run only: 001's test
    ∷ is (typed "(a*b*c*d-e*f)^4+4*a*b*c*d*e*f*(e^2*f^2+a^2*b^2*c^2*d^2)")
    ((pos 1, 4 ∷ 4 ∷ 4 ∷ 4 ∷ []) ∷ (pos 6, 2 ∷ 2 ∷ 2 ∷ 2 ∷ 2 ∷ 2 ∷ []) ∷ (pos 1, 0 ∷ 0 ∷ 0 ∷ 0 ∷ 4 ∷ 4 ∷ []) ∷ [])
    -- the fourth slip: as it is typed, (a+b)^2-b^2 would have the margin 103
    ∷ as_typed "(a+b)^2-b^2" (pos 10 ∷ pos 3 ∷ []) (pos 1 ∷ pos 2 ∷ []) 103
    -- what cancels has no margin; a large power counts nothing beside 0; refusals of three operations come in turn
    ∷ estimates (typed "a-a") (pos 10 ∷ []) (pos 5 ∷ []) (good (pos 0, 0))
    ∷ estimates (typed "b*a^59") (pos 32767 ∷ []) (pos 32767 ∷ []) (good (pos 0, 0))
    ∷ estimates (typed "a^61") [] (neg 1 ∷ []) (fails TEXT 3)
    ∷ estimates (typed "4611686018427387904+1-1") [] (neg 1 ∷ []) (fails WEIGHT 2)
    ∷ estimates (typed "a^60") (pos 2 ∷ []) (pos 0 ∷ neg 1 ∷ []) (fails READING 1)
    ∷ []
