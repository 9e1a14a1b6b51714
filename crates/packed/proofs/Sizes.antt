-- How many bytes a packed sum takes, and that they are bytes.
use mathlib.Core.Path.{◌≡◌, refl, ap}
use mathlib.Core.List.{List, [], ◌∷◌, ◌++◌}
use Prim.Native.Nat.{ℕ, zero, suc, ◌+◌, ◌*◌, ◌^◌, ◌≤◌, ◌<◌}
use native.Mathlib.Omega.{arith}
use native.Mathlib.Nat.{mul-suc, mul-le-mul_left}
use lib.ListN.{length, get_or, length-append}
use Rattle.algebra.specs.Limits.{variables, largest_degree}
use Rattle.algebra.specs.Pattern.{Pattern, degree}
use Rattle.algebra.specs.Sum.{Term, Sum, weight}
use Rattle.numbers.specs.Number.{number_bytes}
use Rattle.numbers.specs.Code.{code}
use Rattle.numbers.proofs.Numbers.{number-length, number-one, number-two, number-bytes}
use Rattle.numbers.proofs.Codes.{code-size}
use Rattle.packed.specs.Packed.{exponent_bytes, term_bytes, bytes_of_terms, packed, most_term_bytes, most_bytes}
use Rattle.algebra.specs.Accepted.{Accepted}
use Rattle.packed.proofs.Good.{Fit, weighs-light, Good, Good.none, Good.more, accepted-good}

-- an exponent takes one byte, which is the exponent itself
pub exponent-bytes-are : (p : Pattern) → degree p ≤ largest_degree → exponent_bytes p ≡ p
unfolding exponent_bytes degree
exponent-bytes-are [] low = refl
exponent-bytes-are (e ∷ p) low = rw (number-one e (omega arith), exponent-bytes-are p (omega arith))

pub exponent-bytes-length : (p : Pattern) → degree p ≤ largest_degree → length (exponent_bytes p) ≡ length p
exponent-bytes-length p low = ap length (exponent-bytes-are p low)

pub term-length : {n : ℕ} {before : Sum} (t : Term) → Fit n before t → length (term_bytes t) ≤ most_term_bytes n
unfolding term_bytes
term-length t f =
    omega (arith, length-append (number_bytes (code t.coefficient)) (exponent_bytes t.pattern), number-length (code t.coefficient), exponent-bytes-length t.pattern f.low, f.long)

pub terms-length : (n : ℕ) {before : Sum} (s : Sum) → Good n before s → length (bytes_of_terms s) ≤ most_term_bytes n * length s
unfolding bytes_of_terms
terms-length n [] none = omega arith
terms-length n (t ∷ s) (more f g) =
    omega (arith, length-append (term_bytes t) (bytes_of_terms s), term-length t f, terms-length n s g, mul-suc (most_term_bytes n) (length s))

-- at most 18 bytes a term and 2
pub packed-length : (n : ℕ) (s : Sum) → Accepted n s → length (packed s) ≤ most_term_bytes n * length s + 2
unfolding packed
packed-length n s a =
    omega (arith, length-append (number_bytes (length s)) (bytes_of_terms s), number-two (length s) (omega (arith, a.few)), terms-length n s (accepted-good n s a))

pub packed-most : (n : ℕ) (s : Sum) → Accepted n s → length (packed s) ≤ most_bytes n
packed-most n s a = omega (arith, packed-length n s a, mul-le-mul_left (most_term_bytes n) a.few)

-- with eight variables
pub term-bytes-are : most_term_bytes variables ≡ 18
term-bytes-are = refl

pub sum-bytes-are : most_bytes variables ≡ 2306
sum-bytes-are = refl

-- the zero sum
pub packed_zero : packed [] ≡ 0 ∷ []
unfolding packed bytes_of_terms
packed_zero = rw (number-one 0 (omega arith))

-- ---- Each byte is one.

abbrev Bytes : List ℕ → Type 0
Bytes l = (i : ℕ) → get_or l i 0 < 256

both_bytes : (a b : List ℕ) → Bytes a → Bytes b → Bytes (a ++ b)
both_bytes [] b h k i = k i
both_bytes (x ∷ a) b h k zero = h zero
both_bytes (x ∷ a) b h k (suc i) = both_bytes a b (λ j. h (suc j)) k i

exponents-bytes : (p : Pattern) → degree p ≤ largest_degree → Bytes (exponent_bytes p)
unfolding exponent_bytes degree
exponents-bytes [] low = λ i. omega arith
exponents-bytes (e ∷ p) low = both_bytes (number_bytes e) (exponent_bytes p) (number-bytes e (omega arith)) (exponents-bytes p (omega arith))

terms-bytes : (n : ℕ) {before : Sum} (s : Sum) → Good n before s → Bytes (bytes_of_terms s)
unfolding bytes_of_terms term_bytes
terms-bytes n [] none = λ i. omega arith
terms-bytes n {before} (t ∷ s) (more f g) =
    let c = t.coefficient in
    let small : code c < 2 ^ 64 = omega (arith, code-size c, weighs-light (weight before) c f.light) in
    both_bytes (term_bytes t) (bytes_of_terms s)
    (both_bytes (number_bytes (code c)) (exponent_bytes t.pattern) (number-bytes (code c) small) (exponents-bytes t.pattern f.low))
    (terms-bytes n s g)

pub packed-bytes : (n : ℕ) (s : Sum) → Accepted n s → (i : ℕ) → get_or (packed s) i 0 < 256
unfolding packed
packed-bytes n s a =
    both_bytes (number_bytes (length s)) (bytes_of_terms s) (number-bytes (length s) (omega (arith, a.few))) (terms-bytes n s (accepted-good n s a))
