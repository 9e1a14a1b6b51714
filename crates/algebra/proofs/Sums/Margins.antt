-- Sizes of terms and sums, and the margin law: wherever each true number is within its tolerance of its reading, the values differ by at most the margin.
use mathlib.Core.Path.{◌≡◌, refl, ◌∙◌, ap, ap₂}
use mathlib.Core.List.{List, [], ◌∷◌, ◌++◌}
use Prim.Native.Nat.{ℕ, zero, suc, ◌+◌, ◌*◌, ◌^◌, ◌≤◌, ◌<◌}
use native.Mathlib.Omega.{arith}
use native.Mathlib.Nat.{le_refl, mul-le-mul_left, mul-le-mul_right, mul-le-mul, pow-zero, pow-suc}
use lib.IntN.{ℤ, pos, nat_abs, ◌+ℤ◌, ◌-ℤ◌, ◌*ℤ◌, +ℤ_invr, pow, one}
use lib.ListN.{length, get_or}
use Rattle.algebra.specs.Pattern.{Pattern, exponent}
use Rattle.algebra.specs.Sum.{Term, Sum}
use Rattle.algebra.specs.Value.{pattern_value, term_value, total, value}
use Rattle.algebra.specs.Margin.{pattern_size, size, unsigned, raised_by, margin, Within, none, more}
use Rattle.algebra.proofs.Numbers.Absolute.{abs-add, abs-mul, abs-pow}
use Rattle.algebra.proofs.Numbers.Solve.{v, ◌:+◌, ◌:*◌, ◌:-◌, solve, agree}

-- ---- Sizes.

-- the size of a power product is its value without the sign, and so is that of a term
pub pattern-abs : (p : Pattern) (x : List ℤ) → nat_abs (pattern_value p x) ≡ pattern_size p (unsigned x)
unfolding pattern_value pattern_size unsigned
pattern-abs [] x = refl
pattern-abs (e ∷ p) [] = refl
pattern-abs (e ∷ p) (a ∷ x) = abs-mul (pow a e) (pattern_value p x) ∙ ap₂ (λ (m n : ℕ). m * n) (abs-pow a e) (pattern-abs p x)

pub term-abs : (t : Term) (x : List ℤ) → nat_abs (term_value x t) ≡ nat_abs t.coefficient * pattern_size t.pattern (unsigned x)
term-abs t x =
    abs-mul t.coefficient (pattern_value t.pattern x) ∙ ap (λ (n : ℕ). nat_abs t.coefficient * n) (pattern-abs t.pattern x)

-- sizes of two sums add up
pub size-append : (y : List ℕ) (s t : Sum) → size (s ++ t) y ≡ size s y + size t y
unfolding size
size-append y [] t = omega arith
size-append y (u ∷ s) t = omega (arith, size-append y s t)

-- a power product with a power of 0 in it has the size 0, however large its other factors; so a term with a raised reading of 0 in it counts 0
pub zero-counts : (p : Pattern) (y : List ℕ) (i : ℕ) → i < length y → get_or y i 0 ≡ 0 → 0 < exponent i p → pattern_size p y ≡ 0
unfolding pattern_size
zero-counts [] y i h is_zero occurs = absurd (omega arith)
zero-counts (e ∷ p) [] i h is_zero occurs = absurd (omega arith)
zero-counts (zero ∷ p) (b ∷ y) zero h is_zero occurs = absurd (omega arith)
zero-counts (suc e ∷ p) (b ∷ y) zero h is_zero occurs = rw (pow-suc b e, is_zero) (omega arith)
zero-counts (e ∷ p) (b ∷ y) (suc i) h is_zero occurs = rw (zero-counts p y i (omega arith) is_zero occurs) (omega arith)

-- ---- Readings without signs, and raised ones, place by place.

-- without signs there are as many, and raised ones too
pub unsigned-length : (ts : List ℤ) → length (unsigned ts) ≡ length ts
unfolding unsigned
unsigned-length [] = refl
unsigned-length (t ∷ ts) = ap suc (unsigned-length ts)

pub raised-length : (rs : List ℤ) (ts : List ℕ) → length (raised_by rs ts) ≡ length rs
unfolding raised_by
raised-length [] ts = refl
raised-length (r ∷ rs) [] = ap suc (raised-length rs [])
raised-length (r ∷ rs) (t ∷ ts) = ap suc (raised-length rs ts)

-- each is raised by its own tolerance
pub raised_at : (rs ts : List ℤ) (i : ℕ) → i < length rs → get_or (raised_by rs (unsigned ts)) i 0 ≡ nat_abs (get_or rs i (pos 0)) + nat_abs (get_or ts i (pos 0))
unfolding raised_by unsigned
raised_at [] ts i h = absurd (omega arith)
raised_at (r ∷ rs) [] zero h = omega arith
raised_at (r ∷ rs) [] (suc i) h = raised_at rs [] i (omega arith)
raised_at (r ∷ rs) (t ∷ ts) zero h = refl
raised_at (r ∷ rs) (t ∷ ts) (suc i) h = raised_at rs ts i (omega arith)

-- ---- Near numbers.

-- A is near B: |B| is at most a, and |A − B| at most b − a. Sums, products and powers of near numbers are near.
record Near (A B : ℤ) (a b : ℕ) : Type 0 where
  apart : nat_abs (A -ℤ B) + a ≤ b
  small : nat_abs B ≤ a

near-self : (c : ℤ) → Near c c (nat_abs c) (nat_abs c)
near-self c = record { apart = rw (+ℤ_invr c) (omega arith); small = le_refl (nat_abs c) }

-- the difference of two sums is the sum of the differences
pub sum-apart : (A B A' B' : ℤ) → (A +ℤ A') -ℤ (B +ℤ B') ≡ (A -ℤ B) +ℤ (A' -ℤ B')
unfolding agree
sum-apart A B A' B' = solve ((v 0 :+ v 2) :- (v 1 :+ v 3)) ((v 0 :- v 1) :+ (v 2 :- v 3)) (A ∷ B ∷ A' ∷ B' ∷ []) tt

product-apart : (A B A' B' : ℤ) → (A *ℤ A') -ℤ (B *ℤ B') ≡ (A -ℤ B) *ℤ A' +ℤ B *ℤ (A' -ℤ B')
unfolding agree
product-apart A B A' B' = solve (v 0 :* v 2 :- v 1 :* v 3) ((v 0 :- v 1) :* v 2 :+ v 1 :* (v 2 :- v 3)) (A ∷ B ∷ A' ∷ B' ∷ []) tt

back : (A B : ℤ) → A ≡ (A -ℤ B) +ℤ B
unfolding agree
back A B = solve (v 0) ((v 0 :- v 1) :+ v 1) (A ∷ B ∷ []) tt

near-large : {A B : ℤ} {a b : ℕ} → Near A B a b → nat_abs A ≤ b
near-large {A} {B} N = omega (arith, ap nat_abs (back A B), abs-add (A -ℤ B) B)

near-sum : {A B A' B' : ℤ} {a b a' b' : ℕ} → Near A B a b → Near A' B' a' b' → Near (A +ℤ A') (B +ℤ B') (a + a') (b + b')
near-sum {A} {B} {A'} {B'} N M = record {
  apart = rw (sum-apart A B A' B') (omega (arith, abs-add (A -ℤ B) (A' -ℤ B')));
  small = omega (arith, abs-add B B');
}

bound : (δ δ' α β a b a' b' w : ℕ) → δ + a ≤ b → δ' + a' ≤ b' → α ≤ b' → β ≤ a → w ≤ δ * α + β * δ' → w + a * a' ≤ b * b'
bound δ δ' α β a b a' b' w h h' l m n = omega (arith, mul-le-mul_left δ l, mul-le-mul_right δ' m, mul-le-mul_left a h', mul-le-mul_right b' h)

near-product : {A B A' B' : ℤ} {a b a' b' : ℕ} → Near A B a b → Near A' B' a' b' → Near (A *ℤ A') (B *ℤ B') (a * a') (b * b')
near-product {A} {B} {A'} {B'} {a} {b} {a'} {b'} N M = record {
  apart =
      rw (product-apart A B A' B')
      (bound (nat_abs (A -ℤ B)) (nat_abs (A' -ℤ B')) (nat_abs A') (nat_abs B) a b a' b' _ N.apart M.apart (near-large M) N.small
      (omega (arith, abs-add ((A -ℤ B) *ℤ A') (B *ℤ (A' -ℤ B')), abs-mul (A -ℤ B) A', abs-mul B (A' -ℤ B'))));
  small = rw (abs-mul B B') (mul-le-mul N.small M.small);
}

near-power : {A B : ℤ} {a b : ℕ} → Near A B a b → (e : ℕ) → Near (pow A e) (pow B e) (a ^ e) (b ^ e)
unfolding pow one
near-power {a} {b} N zero = rw (pow-zero a, pow-zero b) (near-self (pos 1))
near-power {a} {b} N (suc e) = rw (pow-suc a e, pow-suc b e) (near-product (near-power N e) N)

near-reading : {x r : ℤ} {t : ℕ} → nat_abs (x -ℤ r) ≤ t → Near x r (nat_abs r) (nat_abs r + t)
near-reading {r} h = record { apart = omega arith; small = le_refl (nat_abs r) }

near-pattern : (p : Pattern) {x r : List ℤ} {t : List ℕ} → Within x r t → Near (pattern_value p x) (pattern_value p r) (pattern_size p (unsigned r)) (pattern_size p (raised_by r t))
unfolding pattern_value pattern_size unsigned raised_by
near-pattern [] w = near-self (pos 1)
near-pattern (e ∷ p) none = near-self (pos 1)
near-pattern (e ∷ p) (more h w) = near-product (near-power (near-reading h) e) (near-pattern p w)

near-value : (s : Sum) {x r : List ℤ} {t : List ℕ} → Within x r t → Near (value s x) (value s r) (size s (unsigned r)) (size s (raised_by r t))
unfolding value total size
near-value [] w = near-self (pos 0)
near-value (u ∷ s) w = near-sum (near-product (near-self u.coefficient) (near-pattern u.pattern w)) (near-value s w)

-- ---- The law.

-- each reading is within any tolerance of itself
pub within-self : (r : List ℤ) (t : List ℕ) → length r ≡ length t → Within r r t
within-self [] [] h = none
within-self [] (a ∷ t) h = absurd (omega arith)
within-self (a ∷ r) [] h = absurd (omega arith)
within-self (a ∷ r) (b ∷ t) h = more {x = a} {r = a} {t = b} (rw (+ℤ_invr a) (omega arith)) (within-self r t (omega arith))

pub margin-law : (s : Sum) {x r : List ℤ} {t : List ℕ} → Within x r t → nat_abs (value s x -ℤ value s r) ≤ margin s r t
unfolding margin
margin-law s w = omega (arith, (near-value s w).apart)

-- nothing is lost in the difference: the plain value and the margin make up the raised value
pub margin-whole : (s : Sum) (r : List ℤ) (t : List ℕ) → length r ≡ length t → size s (unsigned r) + margin s r t ≡ size s (raised_by r t)
unfolding margin
margin-whole s r t h = omega (arith, (near-value s (within-self r t h)).apart)

-- the estimate with its margin is at most the raised value
pub estimate-raised : (s : Sum) (r : List ℤ) (t : List ℕ) → length r ≡ length t → nat_abs (value s r) + margin s r t ≤ size s (raised_by r t)
estimate-raised s r t h = omega (arith, margin-whole s r t h, (near-value s (within-self r t h)).small)
