-- The laws of words, each once for every field base B and every number of variables.
use mathlib.Core.Path.{◌≡◌, refl, sym, ◌∙◌, ap, ap₂, subst}
use mathlib.Core.List.{[], ◌∷◌}
use Prim.Native.Nat.{ℕ, zero, suc, ◌+◌, ◌*◌, ◌^◌, ◌/◌, ◌%◌, ◌-◌, ◌≤◌, ◌<◌, compare, Ordering}
use native.Mathlib.Omega.{arith}
use native.Mathlib.Nat.{pow-zero, pow-suc, pow-succ', mul-zero, mul-suc, mod-eq_of_lt, mod-lt, mod-one, add-mul, mul_assoc, mul-add-div_right, mul-add-mod_self_right, mul-le-mul_left, one-le-pow, pow-le-pow_right}
use lib.Arith.{digits_lt, digits_div, digits_mod, mod-mul}
use lib.Pow.{pow-add}
use lib.ListN.{length, set, length-set}
use Rattle.algebra.specs.Pattern.{Pattern, empty_pattern, times, degree, exponent, lowered, then_by, by_powers, order}
use Rattle.algebra.specs.Word.{word_of, fields_of}
use Rattle.algebra.proofs.Numbers.Compare.{Says, compare-says, compare-is, compare-add}
use Rattle.algebra.proofs.Patterns.Laws.{times-length, empty-length}

-- ---- A word and its fields.

-- each exponent is below B: it fits its field
pub data Below (B : ℕ) : Pattern → Type 0 where
  none : Below B []
  more : {e : ℕ} {p : Pattern} → e < B → Below B p → Below B (e ∷ p)

-- no exponent is above the degree
pub below-degree : (B : ℕ) (p : Pattern) → degree p < B → Below B p
unfolding degree
below-degree B [] h = none
below-degree B (e ∷ p) h = more {e = e} (omega arith) (below-degree B p (omega arith))

pub fields-below : (B n w : ℕ) → 0 < B → Below B (fields_of B n w)
unfolding fields_of
fields-below B zero w h = none
fields-below B (suc n) w h = more (mod-lt (w / B ^ n) h) (fields-below B n w h)

pub fields-length : (B n w : ℕ) → length (fields_of B n w) ≡ n
unfolding fields_of
fields-length B zero w = refl
fields-length B (suc n) w = ap suc (fields-length B n w)

pub word_lt : {B : ℕ} {p : Pattern} → Below B p → word_of B p < B ^ length p
unfolding word_of
word_lt {B} none = omega (arith, pow-zero B)
word_lt {B} (more {e} {p} h t) = rw pow-succ' (digits_lt h (word_lt t))

-- no word is above its degree at the highest place
pub word-most : (B : ℕ) → 0 < B → (n : ℕ) (p : Pattern) → length p ≤ suc n → word_of B p ≤ degree p * B ^ n
unfolding word_of degree
word-most B h n [] k = omega arith
word-most B h zero (e ∷ []) k = rw (pow-zero B) (omega arith)
word-most B h zero (e ∷ f ∷ p) k = absurd (omega arith)
word-most B h (suc n) (e ∷ p) k =
    let first : e * B ^ length p ≤ e * B ^ suc n = mul-le-mul_left e (pow-le-pow_right h (omega arith)) in
    let others : degree p * B ^ n ≤ degree p * B ^ suc n = mul-le-mul_left (degree p) (pow-le-pow_right h (omega arith)) in
    omega (arith, first, others, word-most B h n p (omega arith), add-mul e (degree p) (B ^ suc n))

-- what stands above n fields does not change them
fields-high : (B : ℕ) → 0 < B → (n a w : ℕ) → fields_of B n (a * B ^ n + w) ≡ fields_of B n w
unfolding fields_of
fields-high B h zero a w = refl
fields-high B h (suc n) a w = ap₂ ◌∷◌ first (ap (fields_of B n) regroup ∙ fields-high B h n (a * B) w)
  where
    regroup : a * B ^ suc n + w ≡ a * B * B ^ n + w
    regroup = rw (pow-succ', mul_assoc)

    first : (a * B ^ suc n + w) / B ^ n % B ≡ w / B ^ n % B
    first = rw (regroup, mul-add-div_right (one-le-pow n B h) (a * B) w, mul-add-mod_self_right a B (w / B ^ n))

-- the fields of a pattern's word are the pattern
pub fields-word : {B : ℕ} {p : Pattern} → 0 < B → Below B p → fields_of B (length p) (word_of B p) ≡ p
unfolding fields_of word_of
fields-word h none = refl
fields-word {B} h (more {e} {p} f t) =
    ap₂ ◌∷◌ (rw (digits_div e (word_lt t)) (mod-eq_of_lt f)) (fields-high B h (length p) e (word_of B p) ∙ fields-word h t)

-- the word of a word's fields is the word, without what stands above them
pub word_fields : (B n w : ℕ) → 0 < B → word_of B (fields_of B n w) ≡ w % B ^ n
unfolding fields_of word_of
word_fields B zero w h = rw (pow-zero B) (sym (mod-one w))
word_fields B (suc n) w h =
    rw (fields-length B n w, word_fields B n w h, pow-succ') (sym (mod-mul w h (one-le-pow n B h)))

pub word-fields-lt : (B n w : ℕ) → 0 < B → w < B ^ n → word_of B (fields_of B n w) ≡ w
word-fields-lt B n w h k = word_fields B n w h ∙ mod-eq_of_lt k

-- one field by / and %
pub field_at : (B n w v : ℕ) → v < n → exponent v (fields_of B n w) ≡ w / B ^ (n - suc v) % B
unfolding fields_of
field_at B zero w v h = absurd (omega arith)
field_at B (suc n) w zero h = ap (λ (k : ℕ). w / B ^ k % B) (omega arith)
field_at B (suc n) w (suc v) h = field_at B n w v (omega arith) ∙ ap (λ (k : ℕ). w / B ^ k % B) (omega arith)

-- where fields are of b bits, the value of a place is reached by a shift
pub place-bits : (b k : ℕ) → (2 ^ b) ^ k ≡ 2 ^ (b * k)
place-bits b zero = rw (pow-zero (2 ^ b), mul-zero b) (sym (pow-zero 2))
place-bits b (suc k) = rw (pow-suc (2 ^ b) k, place-bits b k, mul-suc b k, pow-add 2 (b * k) b)

pub word-zero : (B n : ℕ) → word_of B (empty_pattern n) ≡ 0
unfolding word_of
word-zero B zero = refl
word-zero B (suc n) = omega (arith, word-zero B n)

-- the power e of one variable stands at that variable's place
pub word-alone : (B n v e : ℕ) → v < n → word_of B (set (empty_pattern n) v e) ≡ e * B ^ (n - suc v)
unfolding word_of
word-alone B zero v e h = absurd (omega arith)
word-alone B (suc n) zero e h =
    let i : suc n - 1 ≡ n = omega arith in
    rw (i, empty-length n, word-zero B n) (omega arith)
word-alone B (suc n) (suc v) e h =
    let i : suc n - suc (suc v) ≡ n - suc v = omega arith in
    rw (i, word-alone B n v e (omega arith)) (omega arith)

-- ---- The product of two patterns: the words add up.

pub word-times : (B : ℕ) (p q : Pattern) → length p ≡ length q → word_of B (times p q) ≡ word_of B p + word_of B q
unfolding word_of times
word-times B [] [] h = refl
word-times B [] (f ∷ q) h = absurd (omega arith)
word-times B (e ∷ p) [] h = absurd (omega arith)
word-times B (e ∷ p) (f ∷ q) h =
    let k : length p ≡ length q = omega arith in
    let both : (e + f) * B ^ length (times p q) ≡ e * B ^ length p + f * B ^ length p = ap (λ (i : ℕ). (e + f) * B ^ i) (times-length (length p) p q refl (sym k)) ∙ add-mul e f (B ^ length p) in
    omega (arith, word-times B p q k, both, ap (λ (i : ℕ). f * B ^ i) k)

-- the fields of two words added are the exponents added, while no field runs over
pub fields-times : (B : ℕ) (p q : Pattern) → length p ≡ length q → 0 < B → Below B (times p q) → fields_of B (length p) (word_of B p + word_of B q) ≡ times p q
fields-times B p q h k low = rw (word-times B p q h, times-length (length p) p q refl (sym h)) at (fields-word {p = times p q} k low)

-- ---- The degree. B leaves 1 when divided by B - 1, and so does each of its powers: the remainder adds the exponents up.

-- w is d and a multiple of m
abbrev Leaves : ℕ → ℕ → ℕ → Type 0
Leaves m w d = (t : ℕ) × (w ≡ t * m + d)

power-leaves : (m k : ℕ) → Leaves m (suc m ^ k) 1
power-leaves m zero = (0, omega (arith, pow-zero (suc m)))
power-leaves m (suc k) = next (power-leaves m k)
  where
    next : Leaves m (suc m ^ k) 1 → Leaves m (suc m ^ suc k) 1
    next (t, h) = (t + t * m + 1, rw (pow-succ', h) (omega arith))

word-leaves : (m : ℕ) (p : Pattern) → Leaves m (word_of (suc m) p) (degree p)
unfolding word_of degree
word-leaves m [] = (0, omega arith)
word-leaves m (e ∷ p) = next (power-leaves m (length p)) (word-leaves m p)
  where
    next : Leaves m (suc m ^ length p) 1 → Leaves m (word_of (suc m) p) (degree p)
        → Leaves m (e * suc m ^ length p + word_of (suc m) p) (e + degree p)
    next (t, h) (s, k) = (e * t + s, rw (h, k) (omega arith))

pub word-degree : (m : ℕ) (p : Pattern) → degree p < m → word_of (suc m) p % m ≡ degree p
word-degree m p h = from (word-leaves m p)
  where
    from : Leaves m (word_of (suc m) p) (degree p) → word_of (suc m) p % m ≡ degree p
    from (t, k) = ap (λ (w : ℕ). w % m) k ∙ digits_mod t h

-- ---- The term order: the larger degree first, then the larger word.

-- two digits are compared by the higher, and at a tie by the lower
compare-digits : (c i j r s : ℕ) → r < c → s < c → compare (i * c + r) (j * c + s) ≡ then_by (compare i j) (compare r s)
unfolding then_by
compare-digits c i j r s h k = go (compare i j) (compare-says i j)
  where
    go : (o : Ordering) → Says o i j → compare (i * c + r) (j * c + s) ≡ then_by o (compare r s)
    go Ordering.lt x = compare-is Ordering.lt _ _ (omega (arith, digits_lt x h))
    go Ordering.eq x = ap (λ (d : ℕ). compare (i * c + r) (d * c + s)) (sym x) ∙ compare-add (i * c) r s
    go Ordering.gt x = compare-is Ordering.gt _ _ (omega (arith, digits_lt x k))

pub powers-word : {B : ℕ} {p q : Pattern} → Below B p → Below B q → length p ≡ length q → by_powers p q ≡ compare (word_of B q) (word_of B p)
unfolding by_powers word_of
powers-word none none h = sym (compare-is Ordering.eq 0 0 refl)
powers-word none (more f t) h = absurd (omega arith)
powers-word (more e s) none h = absurd (omega arith)
powers-word {B} (more {e} {p} i s) (more {e = f} {p = q} j t) h =
    let k : length p ≡ length q = omega arith in
    let low : word_of B q < B ^ length p = subst (λ (n : ℕ). word_of B q < B ^ n) (sym k) (word_lt t) in
    ap (then_by (compare f e)) (powers-word s t k)
    ∙ sym (compare-digits (B ^ length p) f e (word_of B q) (word_of B p) low (word_lt s))
    ∙ ap (λ (n : ℕ). compare (f * B ^ n + word_of B q) (e * B ^ length p + word_of B p)) k

pub order-word : {B : ℕ} {p q : Pattern} → Below B p → Below B q → length p ≡ length q
    → order p q ≡ then_by (compare (degree q) (degree p)) (compare (word_of B q) (word_of B p))
unfolding order
order-word {B} {p} {q} s t h = ap (then_by (compare (degree q) (degree p))) (powers-word s t h)

-- ---- One power of a variable less.

pub word-lowered : (B : ℕ) (p : Pattern) (v : ℕ) → v < length p → 0 < exponent v p
    → word_of B (lowered v p) + B ^ (length p - suc v) ≡ word_of B p
unfolding word_of
word-lowered B [] v h k = absurd (omega arith)
word-lowered B (zero ∷ p) zero h k = absurd (omega arith)
word-lowered B (suc e ∷ p) zero h k =
    let i : suc (length p) - 1 ≡ length p = omega arith in
    let d : suc e - 1 ≡ e = omega arith in
    rw (i, d) (omega arith)
word-lowered B (e ∷ p) (suc v) h k =
    let i : suc (length p) - suc (suc v) ≡ length p - suc v = omega arith in
    rw (i, length-set p v (exponent v p - 1)) (omega (arith, word-lowered B p v (omega arith) k))
