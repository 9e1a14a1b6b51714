-- Each public function's contract leaves one outcome, as its caller sees it: the result itself, not only what is said of it.
use mathlib.Core.Path.{◌≡◌, refl, ap, ap₂}
use mathlib.Core.List.{List}
use lib.IntN.{ℤ}
use Prim.Native.Nat.{ℕ}
use Rattle.answers.proofs.Outcomes.{same}
use Rattle.answers.specs.Promised.{One, OneSeen}
use Rattle.algebra.specs.Inside.Standing.{standing}
use Rattle.algebra.specs.declared.Pattern.{Pattern}
use Rattle.algebra.specs.declared.Step.{Step}
use Rattle.std.specs.declared.cmp.Ordering.{Ordering}
use Rattle.std.specs.declared.cmp.Ordering.TheVariants.{Less, Equal, Greater}
use Rattle.algebra.proofs.most_terms.Reads as most-terms
use Rattle.algebra.proofs.largest_weight.Reads as largest-weight
use Rattle.algebra.proofs.most_nodes.Reads as most-nodes
use Rattle.algebra.proofs.work_places.Reads as work-places
use Rattle.algebra.proofs.Terms.first.Reads as terms-first
use Rattle.algebra.proofs.Terms.len.Reads as terms-len
use Rattle.algebra.proofs.Pattern.variables.Reads as variables
use Rattle.algebra.proofs.Pattern.largest_degree.Reads as largest-degree
use Rattle.algebra.proofs.Pattern.empty.Reads as empty
use Rattle.algebra.proofs.Pattern.product.Reads as product
use Rattle.algebra.proofs.Pattern.either.Reads as either
use Rattle.algebra.proofs.Pattern.degree.Reads as degree
use Rattle.algebra.proofs.Pattern.total.Reads as total
use Rattle.algebra.proofs.Pattern.rank.Reads as rank
use Rattle.algebra.proofs.Pattern.of_rank.Reads as of-rank
use Rattle.algebra.proofs.Pattern.compare.Reads as compare
use Rattle.algebra.proofs.Pattern.exponent.Reads as exponent
use Rattle.algebra.proofs.Pattern.power.Reads as power
use Rattle.algebra.proofs.Pattern.without.Reads as without
use Rattle.algebra.proofs.Pattern.slope_step.Reads as slope-step

-- ---- Results that a contract fixes by equations of their parts.

pattern : {p q : Pattern} {k : ℕ} → p.0 ≡ k → q.0 ≡ k → p ≡ q
pattern h h' = ap (λ (w : ℕ). record { 0 = w }) (same h h')

step : {s t : Step} {k l : ℕ} → (s.power ≡ k) × (s.pattern.0 ≡ l) → (t.power ≡ k) × (t.pattern.0 ≡ l) → s ≡ t
step h h' = ap₂ (λ (n : ℕ) (p : Pattern). record { power = n; pattern = p }) (same h.0 h'.0) (pattern h.1 h'.1)

-- different answers stand for different orderings
answer : (s t : Ordering) → standing s ≡ standing t → s ≡ t
answer Less Less h = refl
answer Less Equal h = cc
answer Less Greater h = cc
answer Equal Less h = cc
answer Equal Equal h = refl
answer Equal Greater h = cc
answer Greater Less h = cc
answer Greater Equal h = cc
answer Greater Greater h = refl

-- ---- The functions.

-- Refused when tried: returns 127; returns 129.
pub most-terms-one : One most-terms.Learnt
most-terms-one k a r r' e e' h h' = same h h'

-- Refused when tried: returns 2^61; returns 2^63.
pub largest-weight-one : One largest-weight.Learnt
largest-weight-one k a r r' e e' h h' = same h h'

-- Refused when tried: returns 63; returns 128.
pub most-nodes-one : One most-nodes.Learnt
most-nodes-one k a r r' e e' h h' = same h h'

-- Refused when tried: returns 8,191; returns 128.
pub work-places-one : One work-places.Learnt
work-places-one k a r r' e e' h h' = same h h'

-- Refused when tried: returns 9; returns the largest degree.
pub variables-one : One variables.Learnt
variables-one k a r r' e e' h h' = same h h'

-- Refused when tried: returns 61; returns the number of variables.
pub largest-degree-one : One largest-degree.Learnt
largest-degree-one k a r r' e e' h h' = same h h'

-- Refused when tried: modulo 65,536; the bytes of one lot twice.
pub total-one : One total.Learnt
total-one k a r r' e e' h h' = same h h'

-- Refused when tried: the word of h; the word of a.
pub empty-one : One empty.Learnt
empty-one k a r r' e e' h h' = pattern h h'

-- Refused when tried: self twice; the other alone.
pub product-one : One product.Learnt
product-one k a r r' e e' h h' = pattern h h'

-- Refused when tried: the bits of both; the bits that differ.
pub either-one : One either.Learnt
either-one k a r r' e e' h h' = pattern h h'

-- Refused when tried: modulo 254.
pub degree-one : One degree.Learnt
degree-one k a r r' e e' h h' = same h h'

-- Refused when tried: modulo 256; the quotient by 254.
pub rank-one : One rank.Learnt
rank-one k a r r' e e' h h' = same h h'

-- Refused when tried: 256 times the quotient; the degree from a shift by 8 bits.
pub of-rank-one : One of-rank.Learnt
of-rank-one k a r r' e e' h h' = pattern h h'

-- Refused when tried: the lower degree first.
pub compare-one : One compare.Learnt
compare-one k a r r' e e' h h' = answer r r' (same h h')

-- Refused when tried: the exponent of a; seven bits of the byte.
pub exponent-one : One exponent.Learnt
exponent-one k a r r' e e' h h' = same h h'

-- Refused when tried: the power 1; a power of a.
pub power-one : One power.Learnt
power-one k a r r' e e' h h' = pattern h h'

-- Refused when tried: the power of a is taken for that of v; it is taken away from a.
pub without-one : One without.Learnt
without-one k a r r' e e' h h' = pattern h h'

-- Refused when tried: "none" at power 1.
pub slope-step-one : One slope-step.Learnt
slope-step-one k a r r' e e' h h' = step h h'

-- Refused when tried: no coefficients; the patterns to the end of the area.
pub terms-first-one : OneSeen terms-first.Learnt {L = List ℕ × List ℤ} (λ k r. (r.patterns.now, r.coefficients.now))
terms-first-one k a r r' e e' h h' = ap₂ (λ (ws : List ℕ) (cs : List ℤ). (ws, cs)) (same h.0 h'.0) (same h.1 h'.1)

-- Refused when tried: the number of coefficients; none.
pub terms-len-one : One terms-len.Learnt
terms-len-one k a r r' e e' h h' = same h h'
