-- How many bytes the lines take.
use mathlib.Core.List.{[], ◌∷◌, ◌++◌}
use Prim.Native.Nat.{ℕ, ◌+◌, ◌*◌, ◌^◌, ◌≤◌, ◌<◌}
use native.Mathlib.Nat.{mul-suc, mul-le-mul_left}
use native.Mathlib.Omega.{arith}
use lib.ListN.{length, length-append}
use Rattle.algebra.specs.Limits.{variables, largest_degree}
use Rattle.algebra.specs.Pattern.{Pattern, degree}
use Rattle.algebra.specs.Sum.{Term, Sum, weight}
use Rattle.algebra.specs.Accepted.{Accepted}
use Rattle.packed.proofs.Good.{Fit, weighs-light, Good, Good.none, Good.more, accepted-good}
use Rattle.answers.specs.Quoted.{quoted}
use Rattle.numbers.specs.Decimal.{decimal, signed_decimal}
use Rattle.listing.specs.Lines.{newline, numbered, exponents_line, term_line, term_lines, sum_lines, most_lines, refusal_line}
use Rattle.numbers.proofs.Decimals.{decimal-length, signed-length}

exponents-width : (p : Pattern) → degree p ≤ largest_degree → length (exponents_line p) ≤ 3 * length p + 1
unfolding exponents_line degree
exponents-width [] low = omega arith
exponents-width (e ∷ p) low =
    omega (arith, length-append (decimal e) (exponents_line p), decimal-length 1 e (omega arith), exponents-width p (omega arith))

-- in n variables
abbrev most_term_line : ℕ → ℕ
most_term_line n = 20 + 3 * n + 1

term-width : {n : ℕ} {before : Sum} (t : Term) → Fit n before t → length (term_line t) ≤ most_term_line n
unfolding term_line
term-width {before = before} t f =
    let both = length-append (signed_decimal t.coefficient) (exponents_line t.pattern) in
    let light = weighs-light (weight before) t.coefficient f.light in
    let coefficient = signed-length 18 t.coefficient (omega arith) in
    omega (arith, both, coefficient, exponents-width t.pattern f.low, f.long)

terms-width : (n : ℕ) {before : Sum} (s : Sum) → Good n before s → length (term_lines s) ≤ most_term_line n * length s
unfolding term_lines
terms-width n [] none = omega arith
terms-width n (t ∷ s) (more f g) =
    omega (arith, length-append (term_line t) (term_lines s), term-width t f, terms-width n s g, mul-suc (most_term_line n) (length s))

pub sum-width : (n : ℕ) (s : Sum) → Accepted n s → length (sum_lines s) ≤ most_lines n
unfolding sum_lines numbered quoted
sum-width n s a =
    let word = length-append (quoted "terms ") (decimal (length s)) in
    let both = length-append (numbered "terms " (length s)) (newline ∷ term_lines s) in
    let count = decimal-length 2 (length s) (omega (arith, a.few)) in
    omega (arith, word, both, count, terms-width n s (accepted-good n s a), mul-le-mul_left (most_term_line n) a.few)

-- any number and any place that the machine can hold
pub refusal-width : (refusal place : ℕ) → refusal < 2 ^ 64 → place < 2 ^ 64 → length (refusal_line refusal place) ≤ most_lines variables
unfolding refusal_line numbered quoted
refusal-width refusal place small near =
    let both = length-append (decimal refusal) (numbered " at " place ++ (newline ∷ [])) in
    let end = length-append (decimal place) (newline ∷ []) in
    omega (arith, both, end, decimal-length 19 refusal (omega arith), decimal-length 19 place (omega arith))
