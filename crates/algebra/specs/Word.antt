-- A pattern held as one word: the positional value of its exponents, the first of them highest.
use Rattle.std.specs.Prelude.{◌≡◌, Bool, ◌&&◌, eqb, leb, List, [], ◌∷◌, ℕ, zero, suc, ◌+◌, ◌*◌, ◌^◌, ◌/◌, ◌%◌, ◌≤◌, ◌<◌, ℤ, length, get_or}
use Rattle.algebra.specs.Limits.{variables, largest_degree}
use Rattle.algebra.specs.Pattern.{Pattern, degree}
use Rattle.algebra.specs.Sum.{Term, term}

-- ---- Any number of variables, and fields that hold the numbers below B.

unfoldable pub word_of : ℕ → Pattern → ℕ
word_of B [] = 0
word_of B (e ∷ p) = e * B ^ length p + word_of B p

-- the n exponents of a word
unfoldable pub fields_of : ℕ → ℕ → ℕ → Pattern
fields_of B zero w = []
fields_of B (suc n) w = w / B ^ n % B ∷ fields_of B n w

-- the terms held in a list of words and a list of coefficients, place by place, where `read` gives the exponents of a word
unfoldable pub terms_by : (ℕ → Pattern) → List ℕ → List ℤ → List Term
terms_by read [] cs = []
terms_by read (w ∷ ws) [] = []
terms_by read (w ∷ ws) (c ∷ cs) = term c (read w) ∷ terms_by read ws cs

-- ---- The layout: a byte for each variable, a in the highest and h in the lowest.

abbrev pub field_size : ℕ
field_size = 256

unfoldable pub word : Pattern → ℕ
word p = word_of field_size p

unfoldable pub exponents : ℕ → Pattern
exponents w = fields_of field_size variables w

unfoldable pub terms : List ℕ → List ℤ → List Term
terms ws cs = terms_by exponents ws cs

-- the word is that of a pattern, and the pattern is within the limits: as a test, and as a statement
unfoldable pub is_valid : ℕ → Bool
is_valid w = eqb (word (exponents w)) w && leb (degree (exponents w)) largest_degree

pub record Valid (w : ℕ) : Type 0 where
  pub is : word (exponents w) ≡ w
  pub low : degree (exponents w) ≤ largest_degree

-- each word of a list is
abbrev pub EachValid : List ℕ → Type 0
EachValid ws = (k : ℕ) → k < length ws → Valid (get_or ws k 0)
